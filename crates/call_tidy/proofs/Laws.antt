-- Whether something is open, by the cells; and the outcome of a tidying that is carried out. Assumes nothing.
use Prim.Native.Nat.{ℕ, ◌+◌, ◌-◌, ◌*◌, ◌<◌}
use native.Mathlib.Omega.{arith}
use mathlib.Core.Path.{◌≡◌, refl, sym, ap, ◌∙◌, subst}
use mathlib.Core.Bool.{Bool, true, false, not, cond}
use mathlib.Core.Option.{none, some}
use mathlib.Core.List.{List, []}
use borrow.Author.Tests.{not-true, not-false}
use lib.Dec.{eqb}
use lib.ListN.{length, get_or, take}
use Rattle.combine.specs.Below.{all_below, count_below}
use Rattle.combine.specs.Laws.Below.{all-cong, was-true, was-false}
use Rattle.combine.specs.Laws.Any.{none_below}
use Rattle.combine.specs.Laws.Lists.{length-tab}
use Rattle.combine.specs.Outcome.{outcome_of}
use Rattle.combine.specs.Verdict.{done}
use Rattle.placing.specs.Sizes.{entries}
use Rattle.rules.specs.Headings.{is_some}
use Rattle.rules.specs.House.{has_open}
use Rattle.segments.specs.Moves.{moved_cells, is_high, tidy_moves, tidy_count}
use Rattle.tables.specs.declared.Opening.{Opening}
use Rattle.tables.specs.Layout.{opening_at, segments_in}
use Rattle.tables.specs.Fields.{is_open}
use Rattle.tables.specs.Laws.Sound.{ranged-of}
use Rattle.sound_lists.specs.FieldCells as cells
use Rattle.cells.specs.Says.{opening_in, decoded_opening, house_of}
use Rattle.cells.specs.Moved.{moved_tables}
use Rattle.cells.specs.Outcomes.{lent, sound_lent, tidy_out}
use Rattle.proof_cells_agree.specs.There.{opening-at}
use Rattle.proof_cells_agree.specs.Canonical.{sound-canonical}
use Rattle.proof_moves.specs.Tidying.{tidy-inside}
use Rattle.proof_moves.specs.Outcome.{tidy-unsound, tidy-busy, tidy-done}
use Rattle.call_tidy.proofs.Unmoved.{unmoved}

-- ---- whether something is open

some-open : (o : Opening) → is_some (decoded_opening o) ≡ is_open o
unfolding decoded_opening
some-open o = go (is_open o)
  where
    go : (b : Bool) → is_some (cond b (some (opening_in o)) none) ≡ b
    go true = refl
    go false = refl

openings-many : (t : List ℕ) → length (house_of t).openings ≡ entries
unfolding house_of
openings-many t = length-tab entries (λ i. decoded_opening (opening_at t i))

-- of the tables t, whether entry i is not open
abbrev pub closed : List ℕ → ℕ → Bool
closed t i = not (is_open (opening_at t i))

pub still-tables : (t : List ℕ) → all_below entries (closed t) ≡ not (has_open (house_of t))
still-tables t =
    all-cong (closed t) (λ i. not (is_some (get_or (house_of t).openings i none))) entries
    (λ i l. ap not (sym (ap is_some (opening-at t i l) ∙ some-open (opening_at t i))))
    ∙ ap (λ (n : ℕ). all_below n (λ i. not (is_some (get_or (house_of t).openings i none)))) (sym (openings-many t))
    ∙ sym (none_below is_some (house_of t).openings none)

pub entry-cell : (t : List ℕ) (i : ℕ) → is_open (opening_at t i) ≡ eqb (get_or t (3201 + 56 * i) 0) 1
entry-cell t i = ap (λ (n : ℕ). eqb n 1) (cells.opened-cell t i)

-- ---- carried out

pub busy-so : {r : Bool} (t : List ℕ) → not r ≡ true → r ≡ not (has_open (house_of t)) → has_open (house_of t) ≡ true
busy-so t n e = not-false (has_open (house_of t)) (was-false n e)

pub still-so : {r : Bool} (t : List ℕ) → not r ≡ false → r ≡ not (has_open (house_of t)) → has_open (house_of t) ≡ false
still-so t n e = not-true (has_open (house_of t)) (was-true n e)

pub ruleset tests = (was-true, was-false, busy-so, still-so, tidy-unsound, tidy-busy)

pub lent-moves : (t room : List ℕ) (r : ℕ) → take (2 * r) room ≡ tidy_moves (house_of t) → take (2 * r - 0) room ≡ tidy_moves (house_of t)
lent-moves t room r e = ap (λ (k : ℕ). take k room) {x = 2 * r - 0} {y = 2 * r} (omega arith) ∙ e

pub moves-low : (t l : List ℕ) → l ≡ tidy_moves (house_of t) → (k : ℕ) → k < length l → get_or l k 0 < segments_in t
unfolding house_of
moves-low t l e = subst (λ (x : List ℕ). (k : ℕ) → k < length x → get_or x k 0 < segments_in t) (sym e) (tidy-inside (house_of t))

pub carried-out : (s t l s' t' : List ℕ) (r : ℕ) → sound_lent s t ≡ true → has_open (house_of t) ≡ false → r ≡ count_below (house_of t).segments (is_high (house_of t))
    → l ≡ tidy_moves (house_of t) → s' ≡ moved_cells s l → t' ≡ moved_tables l t → outcome_of (done (64 * r)) (lent s' t') ≡ tidy_out s t
unfolding tidy_count
carried-out s t l s' t' r ok still er el es et =
    (λ i. outcome_of (done (64 * er i)) (lent ((es ∙ ap (moved_cells s) el) i) ((et ∙ ap (λ (x : List ℕ). moved_tables x t) el) i)))
    ∙ tidy-done s t ok still

-- nothing moves
pub none-carried : (s t room : List ℕ) (r : ℕ) → r ≡ 0 → sound_lent s t ≡ true → has_open (house_of t) ≡ false → r ≡ count_below (house_of t).segments (is_high (house_of t))
    → take (2 * r) room ≡ tidy_moves (house_of t) → outcome_of (done 0) (lent s t) ≡ tidy_out s t
none-carried s t room r z ok still er el =
    let long = (ranged-of (length s) t ok).0 in
    carried-out s t [] s t 0 ok still (sym z ∙ er) (ap (λ (k : ℕ). take (2 * k) room) (sym z) ∙ el) refl (sym (unmoved t long (sound-canonical (length s) t ok)))
