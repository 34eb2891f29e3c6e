-- The numbers below n that pass a test, rising. Assumes nothing.
use Rattle.std.specs.Prelude.{ℕ, zero, suc, ◌+◌, ◌≤◌, ◌<◌, ◌≡◌, refl, Bool, true, false, not, ◌&&◌, ◌||◌, cond, List, [], ◌∷◌, ◌++◌, T, eqb, ltb, length, get_or}
use Rattle.std.proofs.Common.{arith, le_of_suc-le-suc, not-suc-le-zero, eq-or-lt_of_le, sym, ap, ◌∙◌, subst, ⊎_elim, lt-ltb, le-ltb, eqb→eq, T_not, length-append}
use Rattle.std.proofs.Math.Bool.{and-true, and-false, or-false, or_assoc}
use Rattle.std.proofs.Math.Dec.{not_T}
use Rattle.std.proofs.Math.ListN.{get_or-append}
use Rattle.std.proofs.lemmas.List.{get_or_at}
use Rattle.combine.specs.Lists.{is_in}
use Rattle.combine.specs.Below.{count_below, picked}
use Rattle.combine.specs.Laws.Numbers.{le-or-lt}
use Rattle.combine.specs.Laws.Tests.{true_of, and_first, and_second, and_intro, or_split, or-first, or-second, nor-first, nor-second, eqb-eq}
use Rattle.combine.specs.Laws.Counts.{count_less}
use Rattle.combine.specs.Laws.Pairs.{none_twice}

pub length-picked : (n : ℕ) (f : ℕ → Bool) → length (picked n f) ≡ count_below n f
unfolding picked count_below
length-picked zero f = refl
length-picked (suc n) f = go (f n) (length-picked n f)
  where
    go : (b : Bool) → length (picked n f) ≡ count_below n f → length (cond b (picked n f ++ (n ∷ [])) (picked n f)) ≡ cond b (count_below n f + 1) (count_below n f)
    go true ih = length-append (picked n f) (n ∷ []) ∙ ap (λ (k : ℕ). k + 1) ih
    go false ih = ih

in_end : (g x : ℕ) (l : List ℕ) → is_in g (l ++ (x ∷ [])) ≡ (is_in g l || eqb g x)
in_end g x [] = or-false (eqb g x)
in_end g x (y ∷ l) = ap (λ (b : Bool). eqb g y || b) (in_end g x l) ∙ sym (or_assoc (eqb g y) (is_in g l) (eqb g x))

-- those below n that pass, and no others
pub picked-passes : (n : ℕ) (f : ℕ → Bool) (g : ℕ) → T (is_in g (picked n f)) → (g < n) × T (f g)
unfolding picked
picked-passes zero f g t = absurd t
picked-passes (suc n) f g t = go (f n) refl t (picked-passes n f g)
  where
    go : (b : Bool) → f n ≡ b → T (is_in g (cond b (picked n f ++ (n ∷ [])) (picked n f))) → (T (is_in g (picked n f)) → (g < n) × T (f g)) → (g < suc n) × T (f g)
    go true e t ih = or_split (is_in g (picked n f)) (eqb g n) (subst T (in_end g n (picked n f)) t)
        (λ r. let q = ih r in (omega (arith, q.0), q.1))
        (λ r. let q : g ≡ n = eqb→eq g n r in (omega arith, rw q (rw e tt)))
    go false e t ih = let q = ih t in (omega (arith, q.0), q.1)

pub picks : (n : ℕ) (f : ℕ → Bool) (g : ℕ) → g < n → T (f g) → T (is_in g (picked n f))
unfolding picked
picks zero f g l t = absurd (not-suc-le-zero l)
picks (suc n) f g l t = ⊎_elim
    (λ (e : g ≡ n). rw (true_of (f n) (subst (λ (k : ℕ). T (f k)) e t)) (subst T (sym (in_end g n (picked n f))) (or-second (is_in g (picked n f)) (eqb g n) (rw (eqb-eq g n e) tt))))
    (λ (m : g < n). go (f n) (picks n f g m t))
    (eq-or-lt_of_le (le_of_suc-le-suc l))
  where
    go : (b : Bool) → T (is_in g (picked n f)) → T (is_in g (cond b (picked n f ++ (n ∷ [])) (picked n f)))
    go true r = subst T (sym (in_end g n (picked n f))) (or-first (is_in g (picked n f)) (eqb g n) r)
    go false r = r

-- they rise: a number has as many before it as there are below it
pub picked-at : (n : ℕ) (f : ℕ → Bool) (g : ℕ) → g < n → f g ≡ true → get_or (picked n f) (count_below g f) 0 ≡ g
unfolding picked
picked-at zero f g l t = absurd (not-suc-le-zero l)
picked-at (suc n) f g l t = ⊎_elim
    (λ (e : g ≡ n). rw (subst (λ (k : ℕ). f k ≡ true) e t) (get_or_at (picked n f) n [] 0 (count_below g f) (length-picked n f ∙ ap (λ (k : ℕ). count_below k f) (sym e)) ∙ sym e))
    (λ (m : g < n). go (f n) m (picked-at n f g m t))
    (eq-or-lt_of_le (le_of_suc-le-suc l))
  where
    go : (b : Bool) → g < n → get_or (picked n f) (count_below g f) 0 ≡ g → get_or (cond b (picked n f ++ (n ∷ [])) (picked n f)) (count_below g f) 0 ≡ g
    go true m ih = get_or-append (picked n f) (n ∷ []) 0 (count_below g f) (let c = count_less g n f m t in let e = length-picked n f in omega arith) ∙ ih
    go false m ih = ih

-- each is above those before it
pub picked_low : (n : ℕ) (f : ℕ → Bool) (j : ℕ) → j < length (picked n f) → get_or (picked n f) j 0 < n
unfolding picked
picked_low zero f j l = absurd (not-suc-le-zero l)
picked_low (suc n) f j l = go (f n) (picked_low n f j) l
  where
    go : (b : Bool) → (j < length (picked n f) → get_or (picked n f) j 0 < n) → j < length (cond b (picked n f ++ (n ∷ [])) (picked n f))
        → get_or (cond b (picked n f ++ (n ∷ [])) (picked n f)) j 0 < suc n
    go true ih l = ⊎_elim
        (λ (m : length (picked n f) ≤ j).
        let e : length (picked n f) ≡ j = omega (arith, length-append (picked n f) (n ∷ [])) in
        omega (arith, get_or_at (picked n f) n [] 0 j e))
        (λ (m : j < length (picked n f)). omega (arith, get_or-append (picked n f) (n ∷ []) 0 j m, ih m))
        (le-or-lt (length (picked n f)) j)
    go false ih l = omega (arith, ih l)

pub picked-rises : (n : ℕ) (f : ℕ → Bool) (j k : ℕ) → j < k → k < length (picked n f) → get_or (picked n f) j 0 < get_or (picked n f) k 0
unfolding picked
picked-rises zero f j k h l = absurd (not-suc-le-zero l)
picked-rises (suc n) f j k h l = go (f n) (picked-rises n f j k h) l
  where
    go : (b : Bool) → (k < length (picked n f) → get_or (picked n f) j 0 < get_or (picked n f) k 0) → k < length (cond b (picked n f ++ (n ∷ [])) (picked n f))
        → get_or (cond b (picked n f ++ (n ∷ [])) (picked n f)) j 0 < get_or (cond b (picked n f ++ (n ∷ [])) (picked n f)) k 0
    go true ih l = ⊎_elim
        (λ (m : length (picked n f) ≤ k).
        let e : length (picked n f) ≡ k = omega (arith, length-append (picked n f) (n ∷ [])) in
        let lj : j < length (picked n f) = omega arith in
        omega (arith, get_or_at (picked n f) n [] 0 k e, get_or-append (picked n f) (n ∷ []) 0 j lj, picked_low n f j lj))
        (λ (m : k < length (picked n f)).
        let lj : j < length (picked n f) = omega arith in
        omega (arith, get_or-append (picked n f) (n ∷ []) 0 j lj, get_or-append (picked n f) (n ∷ []) 0 k m, ih m))
        (le-or-lt (length (picked n f)) k)
    go false ih l = ih l

none_end : (x : ℕ) (l : List ℕ) → T (none_twice l) → T (not (is_in x l)) → T (none_twice (l ++ (x ∷ [])))
none_end x [] o n = tt
none_end x (y ∷ l) o n =
    let d = nor-first (eqb x y) (is_in x l) n in
    and_intro (not (is_in y (l ++ (x ∷ [])))) (none_twice (l ++ (x ∷ [])))
    (not_T (is_in y (l ++ (x ∷ []))) (λ t. or_split (is_in y l) (eqb y x) (subst T (in_end y x l) t)
    (λ r. T_not (is_in y l) (and_first (not (is_in y l)) (none_twice l) o) r)
    (λ r. T_not (eqb x y) d (rw (eqb-eq x y (sym (eqb→eq y x r))) tt))))
    (none_end x l (and_second (not (is_in y l)) (none_twice l) o) (nor-second (eqb x y) (is_in x l) n))

pub picked-once : (n : ℕ) (f : ℕ → Bool) → T (none_twice (picked n f))
unfolding picked
picked-once zero f = tt
picked-once (suc n) f = go (f n) (picked-once n f)
  where
    go : (b : Bool) → T (none_twice (picked n f)) → T (none_twice (cond b (picked n f ++ (n ∷ [])) (picked n f)))
    go true ih = none_end n (picked n f) ih (not_T (is_in n (picked n f)) (λ t. let q = (picked-passes n f n t).0 in omega arith))
    go false ih = ih

-- ---- the same by another test, or another bound

pub picked-cong : (f g : ℕ → Bool) (n : ℕ) → ((k : ℕ) → k < n → f k ≡ g k) → picked n f ≡ picked n g
unfolding picked
picked-cong f g zero h = refl
picked-cong f g (suc n) h = rw (h n (omega arith), picked-cong f g n (λ k l. h k (omega arith)))

-- the lower bound may stand in the test
pub picked-below : (n m : ℕ) (f : ℕ → Bool) → m ≤ n → picked n (λ k. f k && ltb k m) ≡ picked m f
unfolding picked
picked-below zero m f h = ap (λ (k : ℕ). picked k f) {x = 0} {y = m} (omega arith)
picked-below (suc n) m f h = ⊎_elim
    (λ (e : m ≡ suc n). subst (λ (k : ℕ). picked (suc n) (λ j. f j && ltb j k) ≡ picked k f) (sym e)
    (picked-cong (λ j. f j && ltb j (suc n)) f (suc n) (λ k l. ap (λ (b : Bool). f k && b) (lt-ltb k (suc n) l) ∙ and-true (f k))))
    (λ (l : m < suc n). rw (le-ltb n m (omega arith), and-false (f n)) (picked-below n m f (omega arith)))
    (eq-or-lt_of_le h)
