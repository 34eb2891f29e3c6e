-- The outcomes of a fresh start, by what the code tests. Assumes nothing.
use Prim.Native.Nat.{ℕ, ◌≤◌, ◌<◌}
use mathlib.Core.Path.{◌≡◌, refl, ap, ◌∙◌}
use mathlib.Core.List.{List}
use lib.ListN.{length, set, replicate}
use borrow.Author.Tests.{eq-eqb, ne_eqb, le-leb, lt-leb}
use Rattle.combine.specs.Verdict.{done, refused, refuse◌when◌else◌}
use Rattle.combine.specs.Outcome.{outcome_of, settle}
use Rattle.placing.specs.Sizes.{segment_cells, tables_length, fresh_segments}
use Rattle.rules.specs.Gates.{start_gate}
use Rattle.tables.specs.Layout.{fresh_tables}
use Rattle.cells.specs.Outcomes.{lent, fresh_out}

module _ (s t : List ℕ) where
  pub wrong-length : (length t ≡ tables_length → ⊥) → outcome_of (refused 20) (lent s t) ≡ fresh_out s t
  unfolding fresh_out start_gate refuse◌when◌else◌ settle
  wrong-length h = rw (ne_eqb (length t) tables_length h) refl

  module _ (long : length t ≡ tables_length) where
    pub small-store : length s < segment_cells → outcome_of (refused 20) (lent s t) ≡ fresh_out s t
    unfolding fresh_out start_gate refuse◌when◌else◌ settle
    small-store h = rw (eq-eqb (length t) tables_length long, lt-leb 64 (length s) h) refl

    pub started : segment_cells ≤ length s → (zeros : List ℕ) (n : ℕ) → zeros ≡ replicate (length t) 0 → n ≡ fresh_segments (length s) → outcome_of (done 0) (lent s (set zeros 0 n)) ≡ fresh_out s t
    unfolding fresh_out start_gate refuse◌when◌else◌ settle fresh_tables
    started h zeros n ez en =
        ap (λ (x : List ℕ). outcome_of (done 0) (lent s (set x 0 n))) (ez ∙ ap (λ (k : ℕ). replicate k 0) long)
        ∙ rw (eq-eqb (length t) tables_length long, le-leb 64 (length s) h) (ap (λ (k : ℕ). outcome_of (done 0) (lent s (set (replicate tables_length 0) 0 k))) en)

pub ruleset starts = (wrong-length, small-store)
