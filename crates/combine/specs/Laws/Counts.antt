-- How many numbers below n pass a test: beside another test, another bound, or both. Assumes nothing.
use Rattle.std.specs.Prelude.{ℕ, zero, suc, ◌+◌, ◌≤◌, ◌<◌, ◌≡◌, refl, ◌≢◌, Bool, true, false, not, ◌&&◌, cond, T, ltb}
use Rattle.std.proofs.Common.{zero-le, arith, eq-or-lt_of_le, le_of_suc-le-suc, not-suc-le-zero, sym, ap, ◌∙◌, subst, ⊎_elim, lt-ltb, le-ltb}
use mir.Val.{bool_byte}
use Rattle.combine.specs.Below.{count_below}
use Rattle.combine.specs.Laws.Below.{count-hit, count-miss, count-cong}

pub count-mono : (n : ℕ) (f g : ℕ → Bool) → ((k : ℕ) → k < n → T (f k) → T (g k)) → count_below n f ≤ count_below n g
unfolding count_below
count-mono zero f g h = zero-le
count-mono (suc n) f g h = go (f n) (g n) (h n (omega arith)) (count-mono n f g (λ k l t. h k (omega arith) t))
  where
    go : (a b : Bool) → (T a → T b) → count_below n f ≤ count_below n g → cond a (count_below n f + 1) (count_below n f) ≤ cond b (count_below n g + 1) (count_below n g)
    go true true t ih = omega arith
    go true false t ih = absurd (t tt)
    go false true t ih = omega arith
    go false false t ih = ih

-- those that pass p too, and those that do not
pub count-split : (n : ℕ) (f p : ℕ → Bool) → count_below n (λ k. f k && p k) + count_below n (λ k. f k && not (p k)) ≡ count_below n f
unfolding count_below
count-split zero f p = refl
count-split (suc n) f p = go (f n) (p n) (count-split n f p)
  where
    go : (a b : Bool) → count_below n (λ k. f k && p k) + count_below n (λ k. f k && not (p k)) ≡ count_below n f
        → cond (a && b) (count_below n (λ k. f k && p k) + 1) (count_below n (λ k. f k && p k)) + cond (a && not b) (count_below n (λ k. f k && not (p k)) + 1) (count_below n (λ k. f k && not (p k)))
        ≡ cond a (count_below n f + 1) (count_below n f)
    go true true ih = omega arith
    go true false ih = omega arith
    go false b ih = ih

pub count-few : (n m : ℕ) → m ≤ n → count_below n (λ k. ltb k m) ≡ m
unfolding count_below
count-few zero m h = omega arith
count-few (suc n) m h = ⊎_elim
    (λ (e : m ≡ suc n). rw (lt-ltb n m (omega arith)) (ap (λ (k : ℕ). k + 1) (count-cong (λ k. ltb k m) (λ k. ltb k n) n (λ k l. lt-ltb k m (omega arith) ∙ sym (lt-ltb k n l))) ∙ ap (λ (k : ℕ). k + 1) (count-few n n (omega arith)) ∙ omega arith))
    (λ (l : m < suc n). rw (le-ltb n m (omega arith)) (count-few n m (omega arith)))
    (eq-or-lt_of_le h)

-- a higher place has no fewer below it
pub count-grows : (m n : ℕ) (f : ℕ → Bool) → m ≤ n → count_below m f ≤ count_below n f
unfolding count_below
count-grows m zero f h = subst (λ (k : ℕ). count_below k f ≤ 0) {x = 0} {y = m} (omega arith) zero-le
count-grows m (suc n) f h = ⊎_elim
    (λ (e : m ≡ suc n). subst (λ (k : ℕ). count_below k f ≤ count_below (suc n) f) (sym e) (omega arith))
    (λ (l : m < suc n). go (f n) (count-grows m n f (omega arith)))
    (eq-or-lt_of_le h)
  where
    go : (b : Bool) → count_below m f ≤ count_below n f → count_below m f ≤ cond b (count_below n f + 1) (count_below n f)
    go true ih = omega arith
    go false ih = ih

-- one that passes is counted
pub count_less : (g n : ℕ) (f : ℕ → Bool) → g < n → f g ≡ true → count_below g f < count_below n f
unfolding count_below
count_less g n f l t =
    let a : count_below (suc g) f ≡ count_below g f + 1 = rw t refl in
    omega (arith, count-grows (suc g) n f l)

-- ---- a loop that counts: where it starts, and a turn

pub count-start : (f : ℕ → Bool) → 0 ≡ count_below 0 f
unfolding count_below
count-start f = refl

pub count_turn : (f : ℕ → Bool) (n : ℕ) → count_below n f + bool_byte (f n) ≡ count_below (n + 1) f
count_turn f n = go (f n) refl
  where
    go : (b : Bool) → f n ≡ b → count_below n f + bool_byte b ≡ count_below (n + 1) f
    go true e = sym (count-hit f n e)
    go false e = let m = count-miss f n e in omega arith

-- those below m, and the n after them
pub count-join : (m n : ℕ) (f : ℕ → Bool) → count_below (m + n) f ≡ count_below m f + count_below n (λ k. f (m + k))
unfolding count_below
count-join m zero f = omega (arith, ap (λ (k : ℕ). count_below k f) {x = m + zero} {y = m} (omega arith))
count-join m (suc n) f =
    let e : m + suc n ≡ suc (m + n) = omega arith in
    ap (λ (k : ℕ). count_below k f) e ∙ go (f (m + n)) (count-join m n f)
  where
    go : (b : Bool) → count_below (m + n) f ≡ count_below m f + count_below n (λ k. f (m + k))
        → cond b (count_below (m + n) f + 1) (count_below (m + n) f) ≡ count_below m f + cond b (count_below n (λ k. f (m + k)) + 1) (count_below n (λ k. f (m + k)))
    go true ih = omega arith
    go false ih = ih

-- ---- all pass, or none

pub count-all : (n : ℕ) → count_below n (λ k. true) ≡ n
unfolding count_below
count-all zero = refl
count-all (suc n) = omega (arith, count-all n)

pub count_none : (n : ℕ) (f : ℕ → Bool) → ((k : ℕ) → k < n → f k ≡ false) → count_below n f ≡ 0
unfolding count_below
count_none zero f h = refl
count_none (suc n) f h = rw (h n (omega arith)) (count_none n f (λ k l. h k (omega arith)))

-- s passes besides
pub count-one-more : (n s : ℕ) (f g : ℕ → Bool) → s < n → f s ≡ false → g s ≡ true → ((k : ℕ) → k ≢ s → g k ≡ f k) → count_below n g ≡ count_below n f + 1
unfolding count_below
count-one-more zero s f g l fails passes h = absurd (not-suc-le-zero l)
count-one-more (suc n) s f g l fails passes h =
    ⊎_elim here (λ m. before m (count-one-more n s f g m fails passes h)) (eq-or-lt_of_le (le_of_suc-le-suc l))
  where
    here : s ≡ n → cond (g n) (count_below n g + 1) (count_below n g) ≡ cond (f n) (count_below n f + 1) (count_below n f) + 1
    here e =
        let fails' : f n ≡ false = ap f (sym e) ∙ fails in
        let passes' : g n ≡ true = ap g (sym e) ∙ passes in
        rw (fails', passes') (ap (λ (k : ℕ). k + 1) (count-cong g f n (λ k r. h k (λ d. omega arith))))

    same : (b : Bool) → count_below n g ≡ count_below n f + 1 → cond b (count_below n g + 1) (count_below n g) ≡ cond b (count_below n f + 1) (count_below n f) + 1
    same true e = omega arith
    same false e = e

    before : s < n → count_below n g ≡ count_below n f + 1 → cond (g n) (count_below n g + 1) (count_below n g) ≡ cond (f n) (count_below n f + 1) (count_below n f) + 1
    before m e = rw (h n (λ d. omega arith)) (same (f n) e)
