-- The call that tidies, on cells, by its outcomes: refused 20 or 14, or done with the number of cells copied; and what it leaves. Assumes nothing.
use Rattle.std.specs.Prelude.{ℕ, ◌+◌, ◌*◌, ◌≤◌, ◌<◌, ◌≡◌, Bool, true, false, not, List, T, ltb, length, get_or}
use Rattle.std.proofs.Math.Path.{refl}
use Rattle.std.proofs.Common.{sym, ap, ◌∙◌, subst}
use Rattle.combine.specs.Lists.{is_in}
use Rattle.combine.specs.Verdict.{refused, done, refuse◌when◌else◌}
use Rattle.combine.specs.Outcome.{Outcome, outcome_of, settle}
use Rattle.combine.specs.Laws.Pairs.{tos}
use Rattle.placing.specs.Sizes.{segment_cells}
use Rattle.rules.specs.Gates.{start_gate, still_gate}
use Rattle.rules.specs.House.{has_open}
use Rattle.segments.specs.Free.{SegmentHouse}
use Rattle.segments.specs.Moves.{moved_cells, is_listed, listed_count, tidy_moves, tidy_count}
use Rattle.tables.specs.Layout.{segments_in}
use Rattle.tables.specs.Laws.Sound.{ranged-of}
use Rattle.cells.specs.Says.{house_of}
use Rattle.cells.specs.Moved.{moved_tables}
use Rattle.cells.specs.Outcomes.{Lent, lent, sound_lent, tidy_out}
use Rattle.model.specs.View.{view}
use Rattle.proof_moves.specs.Tidying.{tidy-moves}
use Rattle.proof_moves.specs.Numbered.{tidy-numbers}
use Rattle.proof_moves.specs.Arranged.{arranged-says, arranged-store, arranged-tables, arranged-sound, arranged-view, arranged-behind, arranged-beyond}

-- ---- by its outcomes

module _ (s t : List ℕ) where
  pub tidy-unsound : sound_lent s t ≡ false → outcome_of (refused 20) (lent s t) ≡ tidy_out s t
  unfolding tidy_out still_gate start_gate refuse◌when◌else◌ settle
  tidy-unsound e = rw e refl

  pub tidy-busy : sound_lent s t ≡ true → has_open (house_of t) ≡ true → outcome_of (refused 14) (lent s t) ≡ tidy_out s t
  unfolding tidy_out still_gate start_gate refuse◌when◌else◌ settle
  tidy-busy e o = rw (e, o) refl

  pub tidy-done : sound_lent s t ≡ true → has_open (house_of t) ≡ false → outcome_of (done (tidy_count (house_of t))) (lent (moved_cells s (tidy_moves (house_of t))) (moved_tables (tidy_moves (house_of t)) t)) ≡ tidy_out s t
  unfolding tidy_out still_gate start_gate refuse◌when◌else◌ settle
  tidy-done e o = rw (e, o) refl

  pub tidy-cases : (P : Outcome Lent → Type 0)
      → (sound_lent s t ≡ false → P (outcome_of (refused 20) (lent s t)))
      → (sound_lent s t ≡ true → has_open (house_of t) ≡ true → P (outcome_of (refused 14) (lent s t)))
      → (sound_lent s t ≡ true → has_open (house_of t) ≡ false → P (outcome_of (done (tidy_count (house_of t))) (lent (moved_cells s (tidy_moves (house_of t))) (moved_tables (tidy_moves (house_of t)) t))))
      → P (tidy_out s t)
  tidy-cases P a b c = go (sound_lent s t) (has_open (house_of t)) refl refl
    where
      go : (x y : Bool) → sound_lent s t ≡ x → has_open (house_of t) ≡ y → P (tidy_out s t)
      go false y e o = subst P (tidy-unsound e) (a e)
      go true true e o = subst P (tidy-busy e o) (b e o)
      go true false e o = subst P (tidy-done e o) (c e o)

  -- ---- what it keeps

  pub tidy-sound : sound_lent s t ≡ true → sound_lent (tidy_out s t).after.store (tidy_out s t).after.tables ≡ true
  tidy-sound ok = tidy-cases (λ o. sound_lent o.after.store o.after.tables ≡ true) (λ e. ok) (λ e o. ok) (λ e o. arranged-sound (tidy_moves (house_of t)) s t e o (tidy-moves (house_of t)))

  -- "Every file reads the same afterwards."
  pub tidy-view : view (tidy_out s t).after.store (tidy_out s t).after.tables ≡ view s t
  tidy-view = tidy-cases (λ o. view o.after.store o.after.tables ≡ view s t) (λ e. refl) (λ e o. refl) (λ e o. arranged-view (tidy_moves (house_of t)) s t e o (tidy-moves (house_of t)))

  pub tidy-lengths : (length (tidy_out s t).after.store ≡ length s) × (length (tidy_out s t).after.tables ≡ length t)
  tidy-lengths = tidy-cases (λ o. (length o.after.store ≡ length s) × (length o.after.tables ≡ length t)) (λ e. (refl, refl)) (λ e o. (refl, refl))
      (λ e o. (arranged-store (tidy_moves (house_of t)) s t e o (tidy-moves (house_of t)), arranged-tables (tidy_moves (house_of t)) s t e o (tidy-moves (house_of t)) ∙ sym (ranged-of (length s) t e).0))

  pub tidy-beyond : (k : ℕ) → segment_cells * segments_in t ≤ k → get_or (tidy_out s t).after.store k 0 ≡ get_or s k 0
  tidy-beyond k l = tidy-cases (λ o. get_or o.after.store k 0 ≡ get_or s k 0) (λ e. refl) (λ e o. refl) (λ e o. arranged-beyond (tidy_moves (house_of t)) s t e o (tidy-moves (house_of t)) k l)

  -- "Segments left behind keep their cells": only those of the free ones below H change
  pub tidy-behind : (g : ℕ) → T (not (is_in g (tos (tidy_moves (house_of t))))) → (c : ℕ) → c < segment_cells
      → get_or (tidy_out s t).after.store (g * segment_cells + c) 0 ≡ get_or s (g * segment_cells + c) 0
  tidy-behind g n c l = tidy-cases (λ o. get_or o.after.store (g * segment_cells + c) 0 ≡ get_or s (g * segment_cells + c) 0) (λ e. refl) (λ e o. refl)
      (λ e o. arranged-behind (tidy_moves (house_of t)) s t e o (tidy-moves (house_of t)) g n c l)

  -- "so that the H listed ones are numbered 0 to H-1"
  pub tidy-tidies : sound_lent s t ≡ true → has_open (house_of t) ≡ false → (g : ℕ) → is_listed (house_of (tidy_out s t).after.tables) g ≡ ltb g (listed_count (house_of t))
  tidy-tidies ok still g =
      ap (λ (o : Outcome Lent). is_listed (house_of o.after.tables) g) (sym (tidy-done ok still))
      ∙ ap (λ (h : SegmentHouse). is_listed h g) (arranged-says (tidy_moves (house_of t)) s t ok still (tidy-moves (house_of t)))
      ∙ tidy-numbers (house_of t) g
