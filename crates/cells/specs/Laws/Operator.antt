-- "Fresh start, save and load name no user; they are the operator's, and none of them changes a store cell": and what the tables of a fresh
-- start say. Assumes nothing.
use Rattle.std.specs.Prelude.{ℕ, ◌≡◌, refl, Bool, true, false, not, List, ltb, replicate}
use Rattle.std.proofs.Common.{ap}
use Rattle.std.proofs.Math.Option.{none}
use Rattle.combine.specs.Lists.{part, tab}
use Rattle.combine.specs.Verdict.{Verdict, done, refuse◌when◌else◌}
use Rattle.combine.specs.Outcome.{Outcome, outcome_of, settle}
use Rattle.placing.specs.Sizes.{greatest_user}
use Rattle.rules.specs.Calls.{save, count}
use Rattle.rules.specs.Gates.{user_gate, start_gate, image_gate}
use Rattle.rules.specs.House.{house}
use Rattle.segments.specs.Free.{free_count}
use Rattle.tables.specs.Layout.{fresh_tables, record_of, record_at, opening_of, opening_at}
use Rattle.cells.specs.Says.{decoded_record, decoded_opening, house_of}
use Rattle.cells.specs.Outcomes.{Lent, lent, Saved, saved, sound_lent, free_out, fresh_out, load_out, save_out, ask_out}

started : (s t t' : List ℕ) (b : Bool) → (settle (lent s t) (start_gate b (done (0, lent s t')))).after.store ≡ s
unfolding settle start_gate refuse◌when◌else◌
started s t t' true = refl
started s t t' false = refl

loaded : (s t t' : List ℕ) (b c : Bool) → (settle (lent s t) (image_gate b c (done (0, lent s t')))).after.store ≡ s
unfolding settle image_gate start_gate refuse◌when◌else◌
loaded s t t' false c = refl
loaded s t t' true true = refl
loaded s t t' true false = refl

written_out : (s t img img' : List ℕ) (b c : Bool) → (settle (saved s t img) (image_gate b c (done (0, saved s t img')))).after.cells ≡ lent s t
unfolding settle image_gate start_gate refuse◌when◌else◌
written_out s t img img' false c = refl
written_out s t img img' true true = refl
written_out s t img img' true false = refl

pub fresh-keeps-store : (s t : List ℕ) → (fresh_out s t).after.store ≡ s
unfolding fresh_out
fresh-keeps-store s t = started s t _ _

pub load-keeps-store : (s t img : List ℕ) → (load_out s t img).after.store ≡ s
unfolding load_out
load-keeps-store s t img = loaded s t _ _ _

-- a save changes the lent image buffer only
pub save-keeps-cells : (s t img : List ℕ) → (save_out s t img).after.cells ≡ lent s t
unfolding save_out
save-keeps-cells s t img = written_out s t img _ _ _

-- a count changes no cell
pub count-keeps-cells : (s t : List ℕ) (u : ℕ) → (free_out s t u).after ≡ lent s t
unfolding free_out user_gate settle refuse◌when◌else◌
count-keeps-cells s t u = go (sound_lent s t) (ltb greatest_user u)
  where
    gated : Bool → Bool → Verdict (ℕ × Lent)
    gated sound above = refuse 20 when not sound else refuse 1 when above else done (free_count (house_of t), lent s t)

    go : (sound above : Bool) → (settle (lent s t) (gated sound above)).after ≡ lent s t
    go false above = refl
    go true true = refl
    go true false = refl

-- so the outcomes of a save and of a count are what they are as questions
pub asked-save : (s t img : List ℕ) → save_out s t img ≡ outcome_of (ask_out (save img) s t).answer (saved s t (ask_out (save img) s t).after)
asked-save s t img =
    let o = save_out s t img in
    ap (λ (x : Lent). outcome_of o.answer (record { cells = x; image = o.after.image })) (save-keeps-cells s t img)

pub asked-count : (s t : List ℕ) (u : ℕ) → free_out s t u ≡ outcome_of (ask_out (count u) s t).answer (lent s t)
asked-count s t u = ap (outcome_of (free_out s t u).answer) (count-keeps-cells s t u)

-- nothing is there, and nothing is open
pub fresh-says : (n : ℕ) → house_of (fresh_tables n) ≡ house n (replicate 64 none) (replicate 32 none)
unfolding house_of fresh_tables tab part record_of record_at opening_of opening_at decoded_record decoded_opening
fresh-says n = refl
