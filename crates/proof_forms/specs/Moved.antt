-- A move from one form to another: when it is done, and what it leaves then. Assumes nothing.
use Rattle.std.specs.Prelude.{ℕ, ◌*◌, ◌≡◌, Bool, true, false, not, eqb, length}
use Rattle.std.proofs.Math.Path.{refl}
use borrow.Author.Tests.{eq-eqb, eqb-true}
use Rattle.combine.specs.Laws.Below.{not-both}
use Rattle.combine.specs.Verdict.{Verdict, done, refused, is_done, refuse◌when◌else◌}
use Rattle.combine.specs.Outcome.{outcome_of, settle}
use Rattle.placing.specs.Sizes.{Cells, segment_cells}
use Rattle.image.specs.Image.{Form, image_length, image_of, imageb, tables_from}
use Rattle.image.specs.Reformed.{reachesb, reformed_out}

-- where a chain is done, its first refusal was not given
not-refused : {S : Type 0} (x : S) (n : ℕ) (b : Bool) (v : Verdict (ℕ × S))
    → is_done (settle x (refuse n when not b else v)).answer ≡ true → (b ≡ true) × (is_done (settle x v).answer ≡ true)
unfolding refuse◌when◌else◌ settle
not-refused x n true v d = (refl, d)
not-refused x n false v d = absurd (not-both d refl)

module _ (f g : Form) (img buffer : Cells) (n : ℕ) where
  -- no refusal applies
  pub record Movable : Type 0 where
    pub sound : imageb f (segment_cells * n) img ≡ true
    pub long : length buffer ≡ image_length g
    pub reaches : reachesb g (tables_from f img) ≡ true

  pub moved : Movable → reformed_out f g img buffer n ≡ outcome_of (done 0) (image_of g (tables_from f img))
  unfolding reformed_out refuse◌when◌else◌ settle
  moved m = rw (m.sound, eq-eqb (length buffer) (image_length g) m.long, m.reaches) refl

  pub too_far : imageb f (segment_cells * n) img ≡ true → length buffer ≡ image_length g → reachesb g (tables_from f img) ≡ false → reformed_out f g img buffer n ≡ outcome_of (refused 24) buffer
  unfolding reformed_out refuse◌when◌else◌ settle
  too_far ok l r = rw (ok, eq-eqb (length buffer) (image_length g) l, r) refl

  pub done-means : is_done (reformed_out f g img buffer n).answer ≡ true → Movable
  unfolding reformed_out
  done-means d =
      let a = not-refused buffer 22 (imageb f (segment_cells * n) img) _ d in
      let b = not-refused buffer 22 (eqb (length buffer) (image_length g)) _ a.1 in
      let c = not-refused buffer 24 (reachesb g (tables_from f img)) _ b.1 in
      record { sound = a.0; long = eqb-true (length buffer) (image_length g) b.0; reaches = c.0 }
