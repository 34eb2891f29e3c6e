-- A record whose cells pass the tests is sound; n is the number of segments. Assumes nothing.
use Rattle.std.specs.Prelude.{ℕ, ◌≤◌, ◌<◌, ◌≡◌, true, List}
use Rattle.std.proofs.Math.Path.{ap}
use Rattle.std.proofs.Math.Logic.{⊎_elim}
use Rattle.std.proofs.Math.Bool.{false}
use Rattle.std.proofs.Math.Dec.{eqb}
use borrow.Author.Tests.{eqb-true, leb-true}
use Rattle.combine.specs.Laws.Below.{all-at, split-bool}
use Rattle.combine.specs.Laws.Rows.{each_of}
use Rattle.placing.specs.Sizes.{greatest_user, places}
use Rattle.segments.specs.Laws.Sound.{SoundFiled, SoundPlace}
use Rattle.tables.specs.declared.Record.{Record}
use Rattle.tables.specs.Layout.{record_at}
use Rattle.tables.specs.Fields.{is_used}
use Rattle.tables.specs.Records.{usedb, recordb, recordsb}
use Rattle.tables.specs.Laws.Again.{ShapedRecord}
use Rattle.cells.specs.Says.{record_in, decoded_record}
use Rattle.proof_cells_agree.specs.There.{held-used}
use Rattle.proof_cells_agree.specs.Files.{file-sound}

module _ (n : ℕ) (r : Record) where
  used_sound : ShapedRecord r → usedb n r ≡ true → SoundFiled n (record_in r)
  unfolding usedb
  used_sound w ok =
      let f = each_of _ ok in
      record {
        file = rw (held-used r f.0) (file-sound n r.species r.begin.0 r.end.0 r.segments w.segments32 f.1.1.1.1.0 f.1.1.1.1.1.0);
        owned = leb-true r.owner greatest_user f.1.1.0;
        twelve = w.name12;
        name = f.1.0;
      }

  used-ok : recordb n r ≡ true → is_used r ≡ true → usedb n r ≡ true
  unfolding recordb
  used-ok ok u = let z : eqb r.used 0 ≡ false = ap (λ (k : ℕ). eqb k 0) (eqb-true r.used 1 u) in rw z at ok

  pub private-bit : recordb n r ≡ true → is_used r ≡ true → r.private ≤ 1
  unfolding usedb
  private-bit ok u = leb-true r.private 1 (each_of _ (used-ok ok u)).1.1.1.0

  pub place-sound : ShapedRecord r → recordb n r ≡ true → SoundPlace n (decoded_record r)
  unfolding decoded_record
  place-sound w ok = ⊎_elim (λ u. rw u (used_sound w (used-ok ok u))) (λ u. rw u tt) (split-bool (is_used r))

pub record-ok : (t : List ℕ) (n : ℕ) → recordsb t n ≡ true → (p : ℕ) → p < places → recordb n (record_at t p) ≡ true
unfolding recordsb
record-ok t n ok p l = all-at _ places (each_of _ ok).0 p l
