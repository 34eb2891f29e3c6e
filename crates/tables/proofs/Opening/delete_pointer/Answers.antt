-- `tables::Opening::delete_pointer` meets its contract. Assumes nothing.
use mathlib.Core.Path.{◌≡◌}
use lib.ListN.{length}
use Rattle.tables.specs.Laws.Lengths.{unmapped}
use Rattle.tables.proofs.Outcomes.{pointing, delete-known}
use Rattle.tables.proofs.Opening.delete_pointer.Goals as goal

pub returns-then-is_none : goal.returns-then-is_none
returns-then-is_none c = search pointing

pub returns-then-pointer-lt-FIRST_OWN_POINTER : goal.returns-then-pointer-lt-FIRST_OWN_POINTER
returns-then-pointer-lt-FIRST_OWN_POINTER c = search pointing

pub step-requires : goal.step-requires
step-requires c =
    let o = c.args.self in
    let eight : length o.pointers ≡ 8 = search (c.well_formed.0.1, unmapped) in
    delete-known o _ _ c.value-value.ensures _ c.is_none.ensures eight c.if-is_none.false

pub returns : goal.returns
returns c = search pointing
