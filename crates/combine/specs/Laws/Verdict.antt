-- Laws of combine/specs/Verdict.antt. Assumes nothing.
use Rattle.std.specs.Prelude.{ℕ, ◌≡◌, Bool, not, T}
use Rattle.std.proofs.Math.Bool.{true, false}
use Rattle.combine.specs.Verdict.{Verdict, Said, refuse◌when◌else◌, refused, done, on_done}

module _ {S : Type 0} where
  pub refused-here : (n : ℕ) (b : Bool) (v : Verdict S) → b ≡ true → refuse◌when◌else◌ n b v ≡ refused n
  unfolding refuse◌when◌else◌
  refused-here n b v e = rw e

  pub went_on : (n : ℕ) (b : Bool) (v w : Verdict S) → b ≡ false → v ≡ w → refuse◌when◌else◌ n b v ≡ w
  unfolding refuse◌when◌else◌
  went_on n b v w e h = rw e h

-- ---- what is so of every number by which a verdict may refuse

abbrev pub Refuses : {S : Type 0} → (ℕ → Type 0) → Verdict S → Type 0
Refuses P (refused n) = P n
Refuses P (done s) = Unit {0}

-- an answer that is refused by no number that passes a test, where no answer that is done passes it
pub refuses-test : (f : Said → Bool) → ((n : ℕ) → T (not (f (done n)))) → (a : Said) → Refuses (λ n. T (not (f (refused n)))) a → T (not (f a))
refuses-test f h (refused n) t = t
refuses-test f h (done n) t = h n

module _ (P : ℕ → Type 0) where
  pub refuses : {S : Type 0} (n : ℕ) (b : Bool) (v : Verdict S) → P n → Refuses P v → Refuses P (refuse◌when◌else◌ n b v)
  unfolding refuse◌when◌else◌
  refuses n true v p h = p
  refuses n false v p h = h

  pub refuses-on_done : {A B : Type 0} (f : A → B) (v : Verdict A) → Refuses P v → Refuses P (on_done f v)
  refuses-on_done f (refused n) h = h
  refuses-on_done f (done a) h = tt

pub ruleset chain = (refused-here, went_on)
