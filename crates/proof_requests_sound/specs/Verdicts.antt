-- What holds of a verdict that is done, along a chain of refusals. Assumes nothing.
use Rattle.std.specs.Prelude.{ℕ, ◌≡◌, Bool, true, false, not, T}
use Rattle.std.proofs.Common.{subst}
use Rattle.combine.specs.Verdict.{Verdict, refused, done, on_done, refuse◌when◌else◌}

abbrev pub Has : {S : Type 0} → (S → Type 0) → Verdict S → Type 0
Has P (refused n) = Unit {0}
Has P (done s) = P s

-- a refusal that is not given leaves its fact behind
pub has : {S : Type 0} (P : S → Type 0) (n : ℕ) (b : Bool) (v : Verdict S) → (T (not b) → Has P v) → Has P (refuse n when b else v)
unfolding refuse◌when◌else◌
has P n true v h = tt
has P n false v h = h tt

pub has-on_done : {A B : Type 0} (P : A → Type 0) (Q : B → Type 0) (f : A → B) (v : Verdict A) → ((a : A) → P a → Q (f a)) → Has P v → Has Q (on_done f v)
has-on_done P Q f (refused n) h k = tt
has-on_done P Q f (done a) h k = h a k

pub has_done : {S : Type 0} (P : S → Type 0) (v : Verdict S) (s : S) → Has P v → v ≡ done s → P s
has_done P v s h e = subst (Has P) e h
