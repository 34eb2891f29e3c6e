-- Two chains of refusals beside each other: the same refusal, or both are done and R relates them; what is refused by a number of which P, or Q
-- on the other side, is not so is excepted. Assumes nothing.
use Rattle.std.specs.Prelude.{ℕ, ◌≡◌, Bool, not, T}
use Rattle.std.proofs.Math.Path.{refl}
use Rattle.std.proofs.Common.{sym, ap}
use Rattle.std.proofs.Math.Bool.{true, false}
use Rattle.combine.specs.Verdict.{Verdict, refused, done, on_done, refuse◌when◌else◌}
use Rattle.combine.specs.Laws.Below.{not-both}
use Rattle.combine.specs.Laws.Verdict.{Refuses}

module _ (P Q : ℕ → Type 0) where
  abbrev pub SameBut : {S U : Type 0} → (S → U → Type 0) → Verdict S → Verdict U → Type 0
  SameBut R (refused m) (refused n) = P m → Q n → m ≡ n
  SameBut R (refused m) (done t) = P m → ⊥
  SameBut R (done s) (refused n) = Q n → ⊥
  SameBut R (done s) (done t) = R s t

  module _ {S U : Type 0} (R : S → U → Type 0) where
    -- the refusal is given in both, or in neither
    pub keep : (n : ℕ) (b c : Bool) (v : Verdict S) (w : Verdict U) → b ≡ c → (T (not b) → SameBut R v w) → SameBut R (refuse n when b else v) (refuse n when c else w)
    unfolding refuse◌when◌else◌
    keep n true true v w e h = λ p q. refl
    keep n true false v w e h = absurd (not-both refl e)
    keep n false true v w e h = absurd (not-both e refl)
    keep n false false v w e h = h tt

    -- the refusal is excepted, or not given
    pub skip : (n : ℕ) (b c : Bool) (v : Verdict S) (w : Verdict U) → (P n → T (not b)) → (T (not b) → Q n → T (not c)) → (T (not b) → T (not c) → SameBut R v w)
        → SameBut R (refuse n when b else v) (refuse n when c else w)
    unfolding refuse◌when◌else◌
    skip n true true v w f g h = λ p q. refl
    skip n true false v (refused m) f g h = λ p q. absurd (f p)
    skip n true false v (done t) f g h = λ p. f p
    skip n false true (refused m) w f g h = λ p q. absurd (g tt q)
    skip n false true (done s) w f g h = λ q. g tt q
    skip n false false v w f g h = h tt tt

  -- what is done with what is related
  pub but-on_done : {S U A B : Type 0} (R : S → U → Type 0) (O : A → B → Type 0) (f : S → A) (g : U → B) (v : Verdict S) (w : Verdict U)
      → ((s : S) (t : U) → R s t → O (f s) (g t)) → SameBut R v w → SameBut O (on_done f v) (on_done g w)
  but-on_done R O f g (refused m) (refused n) h e = e
  but-on_done R O f g (refused m) (done t) h e = e
  but-on_done R O f g (done s) (refused n) h e = e
  but-on_done R O f g (done s) (done t) h e = h s t e

-- one chain has nothing excepted
pub but_same : {S : Type 0} (P : ℕ → Type 0) (v w : Verdict S) → SameBut P (λ n. Unit {0}) ◌≡◌ v w → Refuses P v → w ≡ v
but_same P (refused m) (refused n) b p = ap refused (sym (b p tt))
but_same P (refused m) (done t) b p = absurd (b p)
but_same P (done s) (refused n) b p = absurd (b tt)
but_same P (done s) (done t) b p = ap done (sym b)
