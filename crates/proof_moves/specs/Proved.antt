-- Document 02, P13, of any cells: numbers, files, segments left behind, and how few cells are copied. Assumes nothing.
use Rattle.std.specs.Prelude.{ℕ, ◌≤◌, ◌≡◌, true, false, not, ◌&&◌, List, T, ltb}
use Rattle.std.proofs.Common.{sym, ◌∙◌, subst, T_not}
use Rattle.std.proofs.Math.Dec.{not_T}
use Rattle.combine.specs.Lists.{is_in}
use Rattle.combine.specs.Verdict.{Said, done, is_done}
use Rattle.combine.specs.Laws.Pairs.{tos}
use Rattle.combine.specs.Laws.Picked.{picked-passes}
use Rattle.combine.specs.Laws.Tests.{and_first, and_second, and_intro}
use Rattle.rules.specs.House.{has_open}
use Rattle.segments.specs.Free.{SegmentHouse, is_free}
use Rattle.segments.specs.Moves.{listed_count, tidy_moves, tidy_count}
use Rattle.cells.specs.Says.{house_of}
use Rattle.cells.specs.Outcomes.{Lent, sound_lent}
use Rattle.demands.specs.History.{outcome_on}
use Rattle.demands.specs.Tidying.{tidying, copied_by, TidyNumbers, TidyKeeps, TidyLeaves, TidyCopies, TidyLeast}
use Rattle.proof_moves.specs.Moves.{is_vacant}
use Rattle.proof_moves.specs.Tidying.{is_gap, tidy-tos}
use Rattle.proof_moves.specs.Numbered.{tidy-reaches, tidy-exact, tidy-least}
use Rattle.proof_moves.specs.Outcome.{tidy-cases, tidy-view, tidy-behind, tidy-tidies}

-- one that is done found sound tables and nothing open
found-still : (x : Lent) → T (is_done (outcome_on tidying x).answer) → (sound_lent x.store x.tables ≡ true) × (has_open (house_of x.tables) ≡ false)
found-still x = tidy-cases x.store x.tables
    (λ o. T (is_done o.answer) → (sound_lent x.store x.tables ≡ true) × (has_open (house_of x.tables) ≡ false)) (λ e t. absurd t) (λ e o t. absurd t) (λ e o t. (e, o))

-- and its number is that of the cells copied
number-said : (x : Lent) (n : ℕ) → (outcome_on tidying x).answer ≡ done n → tidy_count (house_of x.tables) ≡ n
number-said x n = tidy-cases x.store x.tables (λ o. o.answer ≡ done n → tidy_count (house_of x.tables) ≡ n)
    (λ e q. absurd (subst (λ (a : Said). T (not (is_done a))) q tt)) (λ e o q. absurd (subst (λ (a : Said). T (not (is_done a))) q tt)) (λ e o q. cc)

pub tidy-numbered : TidyNumbers
tidy-numbered x t = let f = found-still x t in tidy-tidies x.store x.tables f.0 f.1

pub tidy-keeps : TidyKeeps
tidy-keeps x = tidy-view x.store x.tables

-- a to is free and below H
no-gap-no-to : (h : SegmentHouse) (g : ℕ) → T (not (is_free h g && ltb g (listed_count h))) → T (not (is_in g (tos (tidy_moves h))))
unfolding is_vacant
no-gap-no-to h g n = not_T (is_in g (tos (tidy_moves h))) (λ t.
    let gap : T (is_gap h g) = (picked-passes h.segments (is_gap h) g (subst (λ (l : List ℕ). T (is_in g l)) (tidy-tos h) t)).1 in
    T_not (is_free h g && ltb g (listed_count h)) n
    (and_intro (is_free h g) (ltb g (listed_count h)) (and_second (ltb g h.segments) (is_free h g) (and_first (is_vacant h g) (ltb g (listed_count h)) gap)) (and_second (is_vacant h g) (ltb g (listed_count h)) gap)))

pub tidy-leaves : TidyLeaves
tidy-leaves x g c l n = tidy-behind x.store x.tables g (no-gap-no-to (house_of x.tables) g n) c l

pub tidy-copies-so : TidyCopies
tidy-copies-so x n e = (tidy-reaches (house_of x.tables), sym (tidy-exact (house_of x.tables) ∙ number-said x n e))

pub tidy-copies-least : TidyLeast
tidy-copies-least x n f e into = subst (λ (k : ℕ). k ≤ copied_by (house_of x.tables) f) (number-said x n e) (tidy-least (house_of x.tables) f into)
