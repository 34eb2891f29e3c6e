-- Laws of rules/specs/Gates.antt. Assumes nothing.
use Rattle.std.specs.Prelude.{ℕ, ◌≤◌, ◌≡◌, refl, Bool, true, false, not, ltb}
use borrow.Author.Tests.{le-ltb, ltb-false}
use Rattle.placing.specs.Sizes.{greatest_user, greatest_entry}
use Rattle.combine.specs.Verdict.{Verdict, refused, refuse◌when◌else◌}
use Rattle.combine.specs.Laws.Verdict.{Refuses, refuses}
use Rattle.rules.specs.Gates.{user_gate, entry_gate}

module _ {S : Type 0} where
  -- what passes the gate
  pub entered : (u e : ℕ) (v : Verdict S) → u ≤ 7 → e ≤ 3 → entry_gate true u e v ≡ v
  unfolding entry_gate user_gate refuse◌when◌else◌
  entered u e v h k = rw (le-ltb greatest_user u h, le-ltb greatest_entry e k)

-- what is so of two verdicts, and of one refusal twice, is so of the two behind the gate
pub gate-related : {A B : Type 0} (R : Verdict A → Verdict B → Type 0) → ((n : ℕ) → R (refused n) (refused n)) → (sound : Bool) (u e : ℕ) (v : Verdict A) (w : Verdict B)
    → (u ≤ greatest_user → e ≤ greatest_entry → R v w) → R (entry_gate sound u e v) (entry_gate sound u e w)
unfolding entry_gate user_gate refuse◌when◌else◌
gate-related R both sound u e v w h = go sound (ltb greatest_user u) (ltb greatest_entry e) refl refl
  where
    go : (s a b : Bool) → ltb greatest_user u ≡ a → ltb greatest_entry e ≡ b
        → R (refuse 20 when not s else refuse 1 when a else refuse 2 when b else v) (refuse 20 when not s else refuse 1 when a else refuse 2 when b else w)
    go false a b p q = both 20
    go true true b p q = both 1
    go true false true p q = both 2
    go true false false p q = h (ltb-false greatest_user u p) (ltb-false greatest_entry e q)

-- what is so of every number by which a verdict may refuse, and of 20, 1 and 2, is so behind the gate
pub gate-refuses : {S : Type 0} (P : ℕ → Type 0) → P 20 → P 1 → P 2 → (v : Verdict S) → Refuses P v → (sound : Bool) (u e : ℕ) → Refuses P (entry_gate sound u e v)
unfolding entry_gate user_gate
gate-refuses P h20 h1 h2 v h sound u e = refuses P 20 _ _ h20 (refuses P 1 _ _ h1 (refuses P 2 _ _ h2 h))
