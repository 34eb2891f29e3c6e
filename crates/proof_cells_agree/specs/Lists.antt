-- A list of which something stands at an index, and one that has a number once at most. Assumes nothing.
use Rattle.std.specs.Prelude.{ℕ, ◌≤◌, ◌<◌, ◌≡◌, refl, Bool, true, false, cond, List, map, T, eqb, length, get_or}
use Rattle.std.proofs.Common.{arith, sym, ap, ◌∙◌, subst, eqb→eq}
use Rattle.std.proofs.Math.Option.{Option, none, some}
use Rattle.std.proofs.Math.ListN.{get_or-map}
use Rattle.combine.specs.Laws.Each.{total-one}
use Rattle.rules.specs.Headings.{passes}
use Rattle.segments.specs.Laws.Sound.{times}

-- where the head of what stands at i passes a test, something stands there
pub passing-at : {A B : Type 0} (f : B → Bool) (head : A → B) (head_at : Option A → Option B) → head_at none ≡ none → ((a : A) → head_at (some a) ≡ some (head a))
    → (l : List (Option A)) (i : ℕ) → T (passes f (get_or (map head_at l) i none)) → (a : A) × (get_or l i none ≡ some a) × T (f (head a))
passing-at {A} {B} f head head_at at_none at_some l i h =
    go (get_or l i none) refl (subst (λ (y : Option B). T (passes f y)) (ap (get_or (map head_at l) i) (sym at_none) ∙ get_or-map head_at l i none) h)
  where
    go : (y : Option A) → get_or l i none ≡ y → T (passes f (head_at y)) → (a : A) × (get_or l i none ≡ some a) × T (f (head a))
    go none e k = absurd (subst (λ (z : Option B). T (passes f z)) at_none k)
    go (some a) e k = (a, e, subst (λ (z : Option B). T (passes f z)) (at_some a) k)

-- a list that has g at one place at most
pub times-one : (g : ℕ) (l : List ℕ) → ((j k : ℕ) → j < length l → k < length l → get_or l j 0 ≡ g → get_or l k 0 ≡ g → j ≡ k) → times g l ≤ 1
times-one g l h = total-one (λ x. cond (eqb g x) 1 0) l 0 (λ i r. at_most (eqb g (get_or l i 0))) (λ i j r s p q. h i j r s (found (get_or l i 0) p) (found (get_or l j 0) q))
  where
    at_most : (b : Bool) → cond b 1 0 ≤ 1
    at_most true = omega arith
    at_most false = omega arith

    hit : (b : Bool) → 1 ≤ cond b 1 0 → b ≡ true
    hit true p = refl
    hit false p = absurd (let y : ⊥ = omega arith in y)

    found : (x : ℕ) → 1 ≤ cond (eqb g x) 1 0 → x ≡ g
    found x p = sym (eqb→eq g x (rw (hit (eqb g x) p) tt))
