-- The lists pass the test of distinctness if they are distinct; the other way is `distinct_of` of the crate `tables`. Assumes nothing.
use Rattle.std.specs.Prelude.{ℕ, ◌≡◌, Bool, ◌&&◌, List}
use Rattle.std.proofs.Math.Path.{refl}
use Rattle.std.proofs.Math.Bool.{true, false, cond}
use Rattle.std.proofs.Math.Dec.{eqb}
use Rattle.std.proofs.Common.{eq-eqb, eqb-true}
use Rattle.combine.specs.Laws.Below.{all-make, both}
use Rattle.tables.specs.Lists.{held_in, listed, stretch_in, family_of, agree, distinctb}
use Rattle.tables.specs.Laws.Lists.{Distinct}

module _ (t : List ℕ) where
  agree-by : (i k j l : ℕ) → (listed t i k ≡ listed t j l → (family_of t i ≡ family_of t j) × (stretch_in t i k ≡ stretch_in t j l)) → agree t i k j l ≡ true
  unfolding agree
  agree-by i k j l f = go (eqb (listed t i k) (listed t j l)) refl
    where
      go : (u : Bool) → eqb (listed t i k) (listed t j l) ≡ u → cond u (eqb (family_of t i) (family_of t j) && eqb (stretch_in t i k) (stretch_in t j l)) true ≡ true
      go true e =
          let g = f (eqb-true (listed t i k) (listed t j l) e) in
          both (eq-eqb (family_of t i) (family_of t j) g.0) (eq-eqb (stretch_in t i k) (stretch_in t j l) g.1)
      go false e = refl

  pub distinct-by : (n : ℕ) → Distinct t n → distinctb t n ≡ true
  unfolding distinctb
  distinct-by n f =
      all-make _ n (λ i a. all-make _ (held_in t i) (λ k b. all-make _ n (λ j c. all-make _ (held_in t j) (λ l d. agree-by i k j l (f i k j l a b c d)))))
