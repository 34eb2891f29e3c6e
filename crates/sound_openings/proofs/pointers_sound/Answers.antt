-- `sound_openings::pointers_sound` meets its contract: no cell is above the greatest end. Assumes nothing.
use mathlib.Core.Path.{sym, ap}
use mathlib.Core.Bool.{and-true}
use native.Mathlib.Omega.{arith}
use lib.Dec.{leb}
use Rattle.combine.specs.Rows.{all_of}
use Rattle.tables.specs.Openings.{pointersb}
use Rattle.sound_reading.specs.Cells.{value_cell, values-small}
use Rattle.sound_openings.proofs.pointers_sound.Goals as goal

pub returns : goal.returns
unfolding pointersb all_of
returns c =
    let row = c.args.row.now in
    sym (rw (values-small row (λ i. (c.type_inv.row i).fits), and-true) (ap (leb 1) (value_cell row 2 (omega arith))))
