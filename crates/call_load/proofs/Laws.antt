-- The outcomes of a load, by what the code tests. Assumes nothing.
use Prim.Native.Nat.{ℕ, ◌≤◌, ◌<◌}
use mathlib.Core.Path.{◌≡◌, refl, ap}
use mathlib.Core.Bool.{true, false}
use mathlib.Core.List.{List}
use lib.ListN.{length}
use borrow.Author.Tests.{eq-eqb, ne_eqb, le-leb, lt-leb}
use Rattle.combine.specs.Laws.Below.{was-true, was-false}
use Rattle.combine.specs.Verdict.{done, refused, refuse◌when◌else◌}
use Rattle.combine.specs.Outcome.{outcome_of, settle}
use Rattle.placing.specs.Sizes.{segment_cells, tables_length}
use Rattle.rules.specs.Gates.{start_gate, image_gate}
use Rattle.image.specs.Image.{served, tables_from, imageb}
use Rattle.cells.specs.Outcomes.{lent, load_out}

module _ (s t img : List ℕ) where
  pub wrong-length : (length t ≡ tables_length → ⊥) → outcome_of (refused 20) (lent s t) ≡ load_out s t img
  unfolding load_out image_gate start_gate refuse◌when◌else◌ settle
  wrong-length h = rw (ne_eqb (length t) tables_length h) refl

  module _ (long : length t ≡ tables_length) where
    pub small-store : length s < segment_cells → outcome_of (refused 20) (lent s t) ≡ load_out s t img
    unfolding load_out image_gate start_gate refuse◌when◌else◌ settle
    small-store h = rw (eq-eqb (length t) tables_length long, lt-leb 64 (length s) h) refl

    module _ (room : segment_cells ≤ length s) where
      pub unsound : imageb served (length s) img ≡ false → outcome_of (refused 22) (lent s t) ≡ load_out s t img
      unfolding load_out image_gate start_gate refuse◌when◌else◌ settle
      unsound h = rw (eq-eqb (length t) tables_length long, le-leb 64 (length s) room, h) refl

      pub loaded : imageb served (length s) img ≡ true → (x : List ℕ) → x ≡ tables_from served img → outcome_of (done 0) (lent s x) ≡ load_out s t img
      unfolding load_out image_gate start_gate refuse◌when◌else◌ settle
      loaded h x e = rw (eq-eqb (length t) tables_length long, le-leb 64 (length s) room, h) (ap (λ (y : List ℕ). outcome_of (done 0) (lent s y)) e)

pub ruleset loads = (wrong-length, small-store, unsound, was-true, was-false)
