-- The outcomes of a save, by what the code tests. Assumes nothing.
use Prim.Native.Nat.{ℕ}
use mathlib.Core.Path.{◌≡◌, refl, ap}
use mathlib.Core.Bool.{true, false}
use mathlib.Core.List.{List}
use lib.ListN.{length}
use borrow.Author.Tests.{eq-eqb, ne_eqb}
use Rattle.combine.specs.Laws.Below.{was-true, was-false}
use Rattle.combine.specs.Verdict.{done, refused, refuse◌when◌else◌}
use Rattle.combine.specs.Outcome.{outcome_of, settle}
use Rattle.rules.specs.Gates.{start_gate, image_gate}
use Rattle.tables.specs.Sound.{soundb}
use Rattle.image.specs.Image.{served, image_length, image_of}
use Rattle.cells.specs.Outcomes.{saved, save_out}

module _ (s t img : List ℕ) where
  pub unsound : soundb (length s) t ≡ false → outcome_of (refused 20) (saved s t img) ≡ save_out s t img
  unfolding save_out image_gate start_gate refuse◌when◌else◌ settle
  unsound h = rw h refl

  module _ (ok : soundb (length s) t ≡ true) where
    pub wrong-length : (length img ≡ image_length served → ⊥) → outcome_of (refused 22) (saved s t img) ≡ save_out s t img
    unfolding save_out image_gate start_gate refuse◌when◌else◌ settle
    wrong-length h = rw (ok, ne_eqb (length img) (image_length served) h) refl

    pub written : length img ≡ image_length served → (x : List ℕ) → x ≡ image_of served t → outcome_of (done 0) (saved s t x) ≡ save_out s t img
    unfolding save_out image_gate start_gate refuse◌when◌else◌ settle
    written h x e = rw (ok, eq-eqb (length img) (image_length served) h) (ap (λ (y : List ℕ). outcome_of (done 0) (saved s t y)) e)

pub ruleset saves = (unsound, wrong-length, written, was-true, was-false)
