-- What a search finds. Assumes nothing.
use Prim.Native.Nat.{ℕ, ◌≤◌, ◌<◌}
use mathlib.Core.Path.{◌≡◌, refl, sym, ap, ◌∙◌}
use mathlib.Core.Bool.{Bool, true, cond}
use mathlib.Core.List.{List}
use lib.Dec.{ltb}
use borrow.Author.Tests.{lt-ltb, le-ltb}
use Rattle.combine.specs.First.{first_below}
use Rattle.combine.specs.Laws.First.{first-at}
use Rattle.placing.specs.Sizes.{places}
use Rattle.rules.specs.Rules.{look_up}
use Rattle.catalogue_laws.specs.Places.{headings, another, look-up}
use Rattle.catalogue_search.specs.declared.Wanted.TheVariants.{Own, Public}
use Rattle.catalogue_search.specs.Sought.{sought}

-- through the numbers below n, where f passed none below k
module _ (f : ℕ → Bool) (n k : ℕ) (before : first_below k f ≡ k) where
  pub found_here : f k ≡ true → k < n → k ≡ first_below n f
  found_here e l = sym (first-at f n k before e l)

  pub found_below : f k ≡ true → k < n → true ≡ ltb (first_below n f) n
  found_below e l = sym (ap (λ (j : ℕ). ltb j n) (first-at f n k before e l) ∙ lt-ltb k n l)

-- "Look-up takes the user's own record of that name first, then a public one"
module _ (t : List ℕ) (u : ℕ) (n : List ℕ) (own : ℕ) (e : own ≡ first_below places (another (sought (Own u) n) t 0)) where
  looked-up : (p : ℕ) → p ≡ first_below places (another (sought Public n) t 0) → cond (ltb own places) own p ≡ look_up u n (headings t)
  unfolding sought
  looked-up p d = (λ i. cond (ltb (e i) places) (e i) (d i)) ∙ sym (look-up t u n)

  pub own_first : own < places → own ≡ look_up u n (headings t)
  own_first l = sym (ap (λ (b : Bool). cond b own (first_below places (another (sought Public n) t 0))) (lt-ltb own places l)) ∙ looked-up _ refl

  pub then-public : places ≤ own → (p : ℕ) → p ≡ first_below places (another (sought Public n) t 0) → p ≡ look_up u n (headings t)
  then-public l p d = sym (ap (λ (b : Bool). cond b own p) (le-ltb own places l)) ∙ looked-up p d
