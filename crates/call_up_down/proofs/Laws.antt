-- The outcomes of a move, by what the code tests. Assumes nothing.
use Prim.Native.Nat.{ℕ, ◌*◌}
use mathlib.Core.Path.{◌≡◌, refl, sym, ap, subst, ◌∙◌}
use mathlib.Core.Logic.{⊎_elim}
use mathlib.Core.Bool.{Bool, true, false, not, ◌&&◌}
use mathlib.Core.List.{List}
use lib.ListN.{length}
use borrow.Author.Tests.{eq-eqb, eqb-true}
use lib.Dec.{eqb}
use Rattle.combine.specs.Laws.Below.{split-bool, was-true, was-false, left-of, right_of}
use Rattle.combine.specs.Laws.Rows.{each_of}
use Rattle.combine.specs.Verdict.{done, refused, refuse◌when◌else◌}
use Rattle.combine.specs.Outcome.{outcome_of, settle}
use Rattle.placing.specs.Sizes.{segment_cells}
use Rattle.tables.specs.Laws.Sound.{Ranged, ranged-of}
use Rattle.image.specs.Image.{Form, image_length, image_of, imageb, tables_from}
use Rattle.image.specs.Reformed.{reachesb, reformed_out}

-- r is whether the image is sound, m the length of the other form: the code tests at once that the image is sound and that the buffer is so long
module _ (f g : Form) (img buffer : List ℕ) (n : ℕ) (r : Bool) (m : ℕ) (er : r ≡ imageb f (segment_cells * n) img) (em : m ≡ image_length g) where
  abbrev fits : Bool
  fits = imageb f (segment_cells * n) img && eqb (length buffer) (image_length g)

  abbrev Tested : Bool → Type 0
  Tested b = not (r && eqb (length buffer) m) ≡ b

  same : (r && eqb (length buffer) m) ≡ fits
  same = λ j. er j && eqb (length buffer) (em j)

  pub wrong-image : Tested true → outcome_of (refused 22) buffer ≡ reformed_out f g img buffer n
  unfolding reformed_out refuse◌when◌else◌ settle
  wrong-image w = let h = was-false w same in ⊎_elim (λ s. rw (s, rw s at h) refl) (λ s. rw s refl) (split-bool (imageb f (segment_cells * n) img))

  module _ (w : Tested false) where
    sound : imageb f (segment_cells * n) img ≡ true
    sound = left-of _ (eqb (length buffer) (image_length g)) (was-true w same)

    pub long : length buffer ≡ image_length g
    long = eqb-true _ _ (right_of (imageb f (segment_cells * n) img) _ (was-true w same))

    -- t is made of the image where that is sound
    module _ (t : List ℕ) (makes : r ≡ true → t ≡ tables_from f img) where
      made : t ≡ tables_from f img
      made = makes (er ∙ sound)

      -- the tables of a sound image are sound
      pub made-ranged : Ranged t
      unfolding imageb
      made-ranged = subst Ranged (sym made) (ranged-of (segment_cells * n) (tables_from f img) (each_of _ sound).1.1.1.1.0)

      pub too_far : reachesb g t ≡ false → outcome_of (refused 24) buffer ≡ reformed_out f g img buffer n
      unfolding reformed_out refuse◌when◌else◌ settle
      too_far h =
          let far : reachesb g (tables_from f img) ≡ false = ap (reachesb g) (sym made) ∙ h in
          rw (sound, eq-eqb (length buffer) (image_length g) long, far) refl

      pub written : reachesb g t ≡ true → (x : List ℕ) → x ≡ image_of g t → outcome_of (done 0) x ≡ reformed_out f g img buffer n
      unfolding reformed_out refuse◌when◌else◌ settle
      written h x e =
          let near : reachesb g (tables_from f img) ≡ true = ap (reachesb g) (sym made) ∙ h in
          rw (sound, eq-eqb (length buffer) (image_length g) long, near) (ap (λ (y : List ℕ). outcome_of (done 0) y) (e ∙ ap (image_of g) made))
