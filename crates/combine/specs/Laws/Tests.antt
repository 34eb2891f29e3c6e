-- Facts behind tests: T b holds where the test b does. Assumes nothing.
use Rattle.std.specs.Prelude.{ℕ, ◌≡◌, refl, ◌≢◌, Bool, true, false, not, ◌&&◌, ◌||◌, T, eqb}
use Rattle.std.proofs.Math.Decide.{ℕ_discrete}
use Rattle.std.proofs.Common.{sym, subst, eqb→eq}
use Rattle.std.proofs.Math.Dec.{eqb_refl, not_T}

pub by-test : {X : Type 0} (b : Bool) → (T b → X) → (T (not b) → X) → X
by-test true f g = f tt
by-test false f g = g tt

pub true_of : (b : Bool) → T b → b ≡ true
true_of true t = refl
true_of false t = absurd t

pub false_of : (b : Bool) → T (not b) → b ≡ false
false_of true t = absurd t
false_of false t = refl

pub not-not : (a : Bool) → T (not (not a)) → T a
not-not true t = tt
not-not false t = t

-- ---- or

pub or_split : {X : Type 0} (a b : Bool) → T (a || b) → (T a → X) → (T b → X) → X
or_split true b t f g = f tt
or_split false b t f g = g t

pub or-first : (a b : Bool) → T a → T (a || b)
or-first true b t = tt
or-first false b t = absurd t

pub or-second : (a b : Bool) → T b → T (a || b)
or-second true b t = tt
or-second false b t = t

pub nor-first : (a b : Bool) → T (not (a || b)) → T (not a)
nor-first true b t = t
nor-first false b t = tt

pub nor-second : (a b : Bool) → T (not (a || b)) → T (not b)
nor-second true b t = absurd t
nor-second false b t = t

-- ---- and

pub and_first : (a b : Bool) → T (a && b) → T a
and_first true b t = tt
and_first false b t = t

pub and_second : (a b : Bool) → T (a && b) → T b
and_second true b t = t
and_second false b t = absurd t

pub and_intro : (a b : Bool) → T a → T b → T (a && b)
and_intro true b s t = t
and_intro false b s t = s

pub nand-second : (a b : Bool) → T (not (a && b)) → T a → T (not b)
nand-second true b t s = t
nand-second false b t s = absurd s

-- ---- two numbers

pub eqb-ne : (m n : ℕ) → m ≢ n → eqb m n ≡ false
eqb-ne m n d = false_of (eqb m n) (not_T (eqb m n) (λ t. d (eqb→eq m n t)))

pub eqb-eq : (m n : ℕ) → m ≡ n → eqb m n ≡ true
eqb-eq m n e = true_of (eqb m n) (subst (λ (x : ℕ). T (eqb m x)) e (eqb_refl m))

-- a fact with the test of p against k in it, by its two cases
pub at-eq : (p k : ℕ) (P : ℕ → Bool → Type 0) → P k true → (p ≢ k → P p false) → P p (eqb p k)
at-eq p k P h g = go (ℕ_discrete p k)
  where
    go : Dec (p ≡ k) → P p (eqb p k)
    go (yes e) = subst (λ (q : ℕ). P q (eqb q k)) (sym e) (rw (true_of (eqb k k) (eqb_refl k)) h)
    go (no n) = rw (eqb-ne p k n) (g n)
