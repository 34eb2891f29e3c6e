-- Document 02, P13: what is to be proved of a tidying, beside its outcome. Of any cells; h is what the tables say, H how many segments are listed.
-- Assumes nothing.
use Rattle.std.specs.Prelude.{ℕ, ◌+◌, ◌*◌, ◌≤◌, ◌<◌, ◌≡◌, not, ◌&&◌, T, eqb, ltb, get_or}
use Rattle.combine.specs.Below.{count_below}
use Rattle.combine.specs.Verdict.{done, is_done}
use Rattle.placing.specs.Sizes.{segment_cells}
use Rattle.rules.specs.Calls.{tidy, Call, arranges}
use Rattle.segments.specs.Free.{SegmentHouse, is_free}
use Rattle.segments.specs.Moves.{exchange, is_listed, listed_count, tidy_moves}
use Rattle.cells.specs.Says.{house_of}
use Rattle.cells.specs.Outcomes.{Lent}
use Rattle.demands.specs.History.{outcome_on, after_call, view_on}

abbrev pub tidying : Call
tidying = arranges tidy

-- "so that the H listed ones are numbered 0 to H-1": afterwards a segment is listed exactly if its number is below H
abbrev pub TidyNumbers : Type 0
TidyNumbers =
    (x : Lent) → T (is_done (outcome_on tidying x).answer) → (g : ℕ) → is_listed (house_of (after_call tidying x).tables) g ≡ ltb g (listed_count (house_of x.tables))

-- "Every file reads the same afterwards.": what users know is as it was
abbrev pub TidyKeeps : Type 0
TidyKeeps = (x : Lent) → view_on (after_call tidying x) ≡ view_on x

-- "Segments left behind keep their cells": all do but the free ones below H
abbrev pub TidyLeaves : Type 0
TidyLeaves =
    (x : Lent) (g c : ℕ) → c < segment_cells → let h = house_of x.tables in T (not (is_free h g && ltb g (listed_count h)))
    → get_or (after_call tidying x).store (g * segment_cells + c) 0 ≡ get_or x.store (g * segment_cells + c) 0

-- how many cells are copied where each listed segment g goes to f g: 64 for each that goes to another
abbrev pub copied_by : SegmentHouse → (ℕ → ℕ) → ℕ
copied_by h f = segment_cells * count_below h.segments (λ g. is_listed h g && not (eqb (f g) g))

-- the listed segments go to 0 to H-1
abbrev pub Arranges : SegmentHouse → (ℕ → ℕ) → Type 0
Arranges h f = (g : ℕ) → T (is_listed h g) → f g < listed_count h

-- "The answer is the count of cells copied": the moves are such an arrangement, and the answer is what it copies
abbrev pub TidyCopies : Type 0
TidyCopies =
    (x : Lent) (n : ℕ) → (outcome_on tidying x).answer ≡ done n
    → let h = house_of x.tables in Arranges h (exchange (tidy_moves h)) × (n ≡ copied_by h (exchange (tidy_moves h)))

-- "and no arrangement into 0 to H-1 copies fewer": none at all
abbrev pub TidyLeast : Type 0
TidyLeast = (x : Lent) (n : ℕ) (f : ℕ → ℕ) → (outcome_on tidying x).answer ≡ done n → let h = house_of x.tables in Arranges h f → n ≤ copied_by h f
