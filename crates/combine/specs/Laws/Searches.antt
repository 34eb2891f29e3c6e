-- Searches through a list by index are searches below a number. Assumes nothing.
use Prim.Native.Nat.{ℕ, zero, suc, ◌<◌}
use Rattle.std.specs.Prelude.{◌≡◌, Bool, true, false, ◌||◌, List, [], ◌∷◌, map, eqb, ltb, length, set}
use Rattle.std.proofs.Math.Path.{refl, sym, ap}
use Rattle.std.proofs.Common.{◌∙◌, not-suc-le-zero, arith, lt-ltb, ltb-true}
use Rattle.std.proofs.Math.Bool.{cond}
use Rattle.std.proofs.Math.Dec.{leb-suc-suc, eqb-zero-suc, eqb-suc-zero, eqb-suc-suc}
use Rattle.combine.specs.First.{first_below}
use Rattle.combine.specs.Lists.{any, first_where, tab}
use Rattle.combine.specs.Laws.Lists.{tab-cong}

pub first_cong : (f g : ℕ → Bool) (n : ℕ) → ((k : ℕ) → k < n → f k ≡ g k) → first_below n f ≡ first_below n g
unfolding first_below
first_cong f g zero h = refl
first_cong f g (suc n) h = rw (first_cong f g n (λ k l. h k (omega arith)), h n (omega arith))

-- a number that is found passes
pub first_found : (n : ℕ) (f : ℕ → Bool) → first_below n f < n → f (first_below n f) ≡ true
unfolding first_below
first_found zero f h = absurd (not-suc-le-zero h)
first_found (suc n) f h = go (ltb (first_below n f) n) (f n) refl refl (first_found n f) h
  where
    go : (a b : Bool) → ltb (first_below n f) n ≡ a → f n ≡ b → (first_below n f < n → f (first_below n f) ≡ true)
        → cond a (first_below n f) (cond b n (suc n)) < suc n → f (cond a (first_below n f) (cond b n (suc n))) ≡ true
    go true b ea eb earlier l = earlier (ltb-true (first_below n f) n ea)
    go false true ea eb earlier l = eb
    go false false ea eb earlier l = absurd (let y : ⊥ = omega arith in y)

-- the least number, taken from the start
first-front : (n : ℕ) (f : ℕ → Bool) → first_below (suc n) f ≡ cond (f 0) 0 (suc (first_below n (λ k. f (suc k))))
unfolding first_below
first-front zero f = refl
first-front (suc n) f = ap (λ (r : ℕ). cond (ltb r (suc n)) r (cond (f (suc n)) (suc n) (suc (suc n)))) (first-front n f) ∙ by_first (f 0) (first_below n (λ k. f (suc k)))
  where
    by_last : (r : ℕ) (a b : Bool) → cond a (suc r) (cond b (suc n) (suc (suc n))) ≡ suc (cond a r (cond b n (suc n)))
    by_last r true b = refl
    by_last r false true = refl
    by_last r false false = refl

    by_first : (b : Bool) (r : ℕ) → (let k = cond b 0 (suc r) in cond (ltb k (suc n)) k (cond (f (suc n)) (suc n) (suc (suc n)))) ≡ cond b 0 (suc (cond (ltb r n) r (cond (f (suc n)) n (suc n))))
    by_first true r = rw (lt-ltb 0 (suc n) (omega arith))
    by_first false r = rw (leb-suc-suc (suc r) n) (by_last r (ltb r n) (f (suc n)))

module _ {A : Type 0} (f : A → Bool) where
  pub first-tab : (n : ℕ) (g : ℕ → A) → first_where f (tab n g) ≡ first_below n (λ k. f (g k))
  unfolding tab first_below
  first-tab zero g = refl
  first-tab (suc n) g = ap (λ (r : ℕ). cond (f (g 0)) 0 (suc r)) (first-tab n (λ k. g (suc k))) ∙ sym (first-front n (λ k. f (g k)))

  -- some element passes exactly where there is a first that does
  pub any-first : (l : List A) → any f l ≡ ltb (first_where f l) (length l)
  any-first [] = refl
  any-first (x ∷ l) = go (f x) (any-first l)
    where
      go : (b : Bool) → any f l ≡ ltb (first_where f l) (length l) → (b || any f l) ≡ ltb (cond b 0 (suc (first_where f l))) (suc (length l))
      go true h = sym (lt-ltb 0 (suc (length l)) (omega arith))
      go false h = h ∙ sym (leb-suc-suc (suc (first_where f l)) (length l))

-- what each element passes as it is, it passes as it is changed
pub first-map : {A B : Type 0} (f : A → Bool) (g : B → Bool) (h : A → B) → ((a : A) → g (h a) ≡ f a) → (l : List A) → first_where g (map h l) ≡ first_where f l
first-map f g h e [] = refl
first-map f g h e (a ∷ l) = λ i. cond (e a i) 0 (suc (first-map f g h e l i))

pub map-tab : {A B : Type 0} (h : A → B) (n : ℕ) (g : ℕ → A) → map h (tab n g) ≡ tab n (λ k. h (g k))
unfolding tab
map-tab h zero g = refl
map-tab h (suc n) g = ap (λ x. h (g 0) ∷ x) (map-tab h n (λ k. g (suc k)))

-- one element is replaced, where there is such a one
pub set-tab : {A : Type 0} (n : ℕ) (g : ℕ → A) (p : ℕ) (a : A) → set (tab n g) p a ≡ tab n (λ k. cond (eqb k p) a (g k))
unfolding tab
set-tab zero g p a = refl
set-tab (suc n) g zero a = ap (λ x. a ∷ x) (tab-cong n (λ k. cond (eqb (suc k) 0) a (g (suc k))) (λ k. g (suc k)) (λ k l. rw (eqb-suc-zero k)))
set-tab (suc n) g (suc p) a =
    rw (eqb-zero-suc p)
    (ap (λ x. g 0 ∷ x)
    (set-tab n (λ k. g (suc k)) p a
    ∙ tab-cong n (λ k. cond (eqb (suc k) (suc p)) a (g (suc k))) (λ k. cond (eqb k p) a (g (suc k))) (λ k l. rw (eqb-suc-suc k p))))
