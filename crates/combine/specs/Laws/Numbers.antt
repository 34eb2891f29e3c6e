-- Two numbers compared. Assumes nothing.
use Rattle.std.specs.Prelude.{ℕ, zero, suc, ◌≤◌, ◌<◌, ◌≡◌, ◌≢◌, ◌⊎◌}
use Rattle.std.proofs.Common.{zero-le, suc-le-suc, inl, inr, ⊎_elim, arith}

pub le-or-lt : (a b : ℕ) → (a ≤ b) ⊎ (b < a)
le-or-lt zero b = inl zero-le
le-or-lt (suc a) zero = inr (suc-le-suc zero-le)
le-or-lt (suc a) (suc b) = ⊎_elim (λ p. inl (suc-le-suc p)) (λ q. inr (suc-le-suc q)) (le-or-lt a b)

pub less-or-more : (a b : ℕ) → a ≢ b → (a < b) ⊎ (b < a)
less-or-more a b d = ⊎_elim (λ p. ⊎_elim (λ q. absurd (d (omega arith))) (λ q. inl q) (le-or-lt b a)) (λ q. inr q) (le-or-lt a b)

pub eq-or-ne : (a b : ℕ) → (a ≡ b) ⊎ (a ≢ b)
eq-or-ne a b = ⊎_elim (λ p. ⊎_elim (λ q. inl (omega arith)) (λ q. inr (λ e. omega arith)) (le-or-lt b a)) (λ p. inr (λ e. omega arith)) (le-or-lt a b)
