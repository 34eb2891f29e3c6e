-- A key is new where it is not in the keys before it, as the code lends them. Assumes nothing.
use Prim.Native.Nat.{ℕ, ◌-◌, ◌<◌}
use mathlib.Core.Path.{◌≡◌, ap, ◌∙◌}
use mathlib.Core.Bool.{Bool, not}
use mathlib.Core.List.{List}
use native.Mathlib.Omega.{arith}
use lib.Dec.{eqb}
use lib.ListN.{length, get_or, take, drop}
use lib.Seq.{length-take-le, get_or-take}
use Rattle.combine.specs.Below.{all_below}
use Rattle.combine.specs.Laws.Below.{all-cong}
use Rattle.combine.specs.Lists.{is_in}
use Rattle.combine.specs.Laws.Any.{not-in}
use Rattle.placing.specs.Sizes.{places}
use Rattle.sound_keys.specs.Keys.{newb}

pub not_listed : (l : List ℕ) (p : ℕ) (r : Bool) → length l ≡ places → p < places → r ≡ is_in (get_or l p 0) (take (p - 0) (drop 0 l)) → not r ≡ newb l p
unfolding newb
not_listed l p r long lp e =
    ap not e ∙ not-in (get_or l p 0) b ∙ ap (λ (n : ℕ). all_below n (λ k. not (eqb (get_or l p 0) (get_or b k 0)))) length-b
    ∙ all-cong _ _ p (λ k s. ap (λ (x : ℕ). not (eqb (get_or l p 0) x)) (get_or-take (p - 0) (drop 0 l) k 0 (omega arith)))
  where
    b : List ℕ
    b = take (p - 0) (drop 0 l)

    length-b : length b ≡ p
    length-b = length-take-le (p - 0) (drop 0 l) (omega (arith, long)) ∙ (let z : p - 0 ≡ p = omega arith in z)
