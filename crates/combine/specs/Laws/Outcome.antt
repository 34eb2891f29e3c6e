-- Laws of combine/specs/Outcome.antt. Assumes nothing.
use Rattle.std.specs.Prelude.{ℕ}
use Rattle.std.proofs.Math.Path.{◌≡◌, refl}
use Rattle.std.proofs.Math.Bool.{true, false}
use native.Mathlib.Omega.{arith}
use Rattle.combine.specs.Verdict.{Verdict, refused, done, is_done}
use Rattle.combine.specs.Outcome.{settle}
use Rattle.combine.specs.Laws.Verdict.{Refuses}

module _ {S : Type 0} where
  pub refusal-keeps : (x : S) (v : Verdict (ℕ × S)) → is_done (settle x v).answer ≡ false → (settle x v).after ≡ x
  unfolding settle
  refusal-keeps x (refused n) e = refl
  refusal-keeps x (done c) e = absurd (no_truth e)
    where
      no_truth : true ≡ false → ⊥
      no_truth p = let w : ◌≡◌ {A = ℕ} 0 1 = cc in omega arith

  pub settle-refuses : (P : ℕ → Type 0) (x : S) (v : Verdict (ℕ × S)) → Refuses P v → Refuses P (settle x v).answer
  unfolding settle
  settle-refuses P x (refused n) h = h
  settle-refuses P x (done c) h = tt
