-- Tests over the numbers below n: joined, and over the elements of a list by index. Assumes nothing.
use Rattle.std.specs.Prelude.{ℕ, zero, suc, ◌+◌, ◌≡◌, Bool, not, ◌&&◌, get_or}
use Rattle.std.proofs.Common.{sym, ap, ◌∙◌, arith}
use Rattle.std.proofs.Math.Bool.{and-true, and_assoc}
use Rattle.combine.specs.Below.{all_below}
use Rattle.combine.specs.Laws.Below.{all-cong}
use Rattle.combine.specs.Lists.{any, tab}
use Rattle.combine.specs.Laws.Lists.{length-tab, tab-at}
use Rattle.combine.specs.Laws.Any.{none_below}

pub all_join : (m n : ℕ) (f : ℕ → Bool) → all_below (m + n) f ≡ (all_below m f && all_below n (λ j. f (m + j)))
unfolding all_below
all_join m zero f =
    let e : m + zero ≡ m = omega arith in
    ap (λ (k : ℕ). all_below k f) e ∙ sym (and-true (all_below m f))
all_join m (suc n) f =
    let e : m + suc n ≡ suc (m + n) = omega arith in
    ap (λ (k : ℕ). all_below k f) e ∙ ap (λ (b : Bool). b && f (m + n)) (all_join m n f)
    ∙ and_assoc (all_below m f) (all_below n (λ j. f (m + j))) (f (m + n))

-- no element of a list by index passes the test
pub none-tab : {A : Type 0} (f : A → Bool) (n : ℕ) (g : ℕ → A) (z : A) → not (any f (tab n g)) ≡ all_below n (λ k. not (f (g k)))
none-tab {A} f n g z =
    none_below f (tab n g) z ∙ ap (λ (m : ℕ). all_below m (λ k. not (f (get_or (tab n g) k z)))) (length-tab n g)
    ∙ all-cong _ _ n (λ k l. ap (λ (x : A). not (f x)) (tab-at n g k z l))
