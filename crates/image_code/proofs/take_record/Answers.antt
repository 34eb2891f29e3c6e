-- `image_code::take_record` meets its contract: cells that are all zero have numbers that are. Assumes nothing.
use Prim.Native.Nat.{ℕ, ◌-◌, ◌*◌}
use mathlib.Core.Path.{sym, ap, ◌∙◌}
use lib.ListN.{length, length-replicate}
use Rattle.packing.specs.Packing.{sum}
use Rattle.packing_rows.specs.Zeros.{unpack-zeros}
use Rattle.image_code.proofs.take_record.Goals as goal

pub returns-then-is_blank : goal.returns-then-is_blank
returns-then-is_blank c =
    let cells = c.args.cells.now in
    let fields = c.args.fields.now in
    c.requires.narrow.1 ∙ sym (unpack-zeros fields cells (32 * length cells - sum fields) (sym c.is_blank.ensures ∙ c.if-is_blank.true))

pub unpack-requires : goal.unpack-requires
unpack-requires c =
    record {
      narrow = (c.requires.narrow.0, ap length c.requires.narrow.1 ∙ length-replicate {A = ℕ} (length c.args.fields.now) 0);
      widths_bound = c.requires.fields_bound;
    }
