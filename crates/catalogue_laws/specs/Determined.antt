-- The records of sound tables are determined by what they say: written back, it gives the same cells. Assumes nothing.
use Rattle.std.specs.Prelude.{ℕ, ◌<◌, ◌≡◌, Bool, true, cond, List}
use Rattle.std.proofs.Common.{sym, ap, ◌∙◌}
use Rattle.std.proofs.Math.Option.{none, some}
use Rattle.combine.specs.Laws.Below.{all-at}
use Rattle.combine.specs.Laws.Rows.{each_of}
use Rattle.placing.specs.Sizes.{places}
use Rattle.tables.specs.Layout.{segments_in, record_at}
use Rattle.tables.specs.Fields.{is_used}
use Rattle.tables.specs.Records.{recordb, recordsb}
use Rattle.tables.specs.Laws.Put.{record-shaped-at}
use Rattle.tables.specs.Sound.{soundb}
use Rattle.tables.specs.Laws.Sound.{ranged-of}
use Rattle.cells.specs.Says.{record_in, decoded_record, as_record}
use Rattle.cells.specs.Laws.Determined.{record-back}

pub record-determined : (cells : ℕ) (t : List ℕ) (p : ℕ) → soundb cells t ≡ true → p < places → is_used (record_at t p) ≡ true → as_record (some (record_in (record_at t p))) ≡ record_at t p
unfolding decoded_record recordsb
record-determined cells t p sound l used =
    let f = ranged-of cells t sound in
    let r = record_at t p in
    sym (ap (λ (b : Bool). as_record (cond b (some (record_in r)) none)) used)
    ∙ record-back r (record-shaped-at t f.0 p l) (segments_in t) (all-at (λ q. recordb (segments_in t) (record_at t q)) places (each_of _ f.1).0 p l)
