-- A list of segment numbers in its 32 places, when it changes. Assumes nothing.
use Rattle.std.specs.Prelude.{ℕ, zero, suc, ◌+◌, ◌-◌, ◌≤◌, ◌<◌, ◌≡◌, refl, ◌≢◌, cond, List, [], ◌∷◌, ◌++◌, ltb, length, get_or, take, drop, set, replicate}
use Rattle.std.proofs.Common.{sym, ap, ◌∙◌, ⊎_elim, le_of_suc-le-suc, arith, lt-ltb, le-ltb, length-append, length-drop, length-set, length-take-le, take_all, get_or-take, get_or-drop, get_or-append-add, get_or-set_same, get_or-set_other, ext_get_or}
use Rattle.std.proofs.lemmas.List.{length-map, length-replicate}
use Rattle.std.proofs.Math.ListN.{get_or-map, get_or-append, get_or-eq_default}
use Rattle.combine.specs.Laws.Numbers.{le-or-lt, eq-or-ne}
use Rattle.combine.specs.Lists.{put}
use Rattle.placing.specs.declared.Segment.{Segment}
use Rattle.placing.specs.Placing.{segment}
use Rattle.cells.specs.Says.{in_places}

-- a list behind which zeros stand has the same numbers
filled_at : (l : List ℕ) (n k : ℕ) → get_or (l ++ replicate n 0) k 0 ≡ get_or l k 0
filled_at [] zero k = refl
filled_at [] (suc n) zero = refl
filled_at [] (suc n) (suc k) = filled_at [] n k
filled_at (x ∷ l) n zero = refl
filled_at (x ∷ l) n (suc k) = filled_at l n k

pub places-at : (l : List ℕ) (k : ℕ) → get_or (in_places l) k (segment 0) ≡ segment (get_or l k 0)
unfolding in_places
places-at l k = get_or-map segment (l ++ replicate (32 - length l) 0) k 0 ∙ ap segment (filled_at l (32 - length l) k)

pub length-places : (l : List ℕ) → length l ≤ 32 → length (in_places l) ≡ 32
unfolding in_places
length-places l h =
    length-map (l ++ replicate (32 - length l) 0) segment ∙ length-append l (replicate (32 - length l) 0)
    ∙ ap (λ (n : ℕ). length l + n) (length-replicate (32 - length l) 0) ∙ fill (length l) h
  where
    fill : (n : ℕ) → n ≤ 32 → n + (32 - n) ≡ 32
    fill n k = omega arith

-- 32 places are those of a list, place by place
by-places : (l : List ℕ) (m : List Segment) → length l ≤ 32 → length m ≡ 32 → ((k : ℕ) → k < 32 → segment (get_or l k 0) ≡ get_or m k (segment 0)) → in_places l ≡ m
by-places l m h e f =
    let p = length-places l h in
    ext_get_or (segment 0) (in_places l) m (p ∙ sym e) (λ k r. places-at l k ∙ f k (omega (arith, r, p)))

-- ---- a number replaced, or appended

module _ {A : Type 0} where
  pub put-short : (l : List A) (k m : ℕ) (a : A) → k ≤ length l → k < m → length l ≤ m → length (put l k a) ≤ m
  put-short [] k m a h q n = omega arith
  put-short (x ∷ l) zero m a h q n = n
  put-short (x ∷ l) (suc k) zero a h q n = absurd (let y : ⊥ = omega arith in y)
  put-short (x ∷ l) (suc k) (suc m) a h q n =
      let r = put-short l k m a (le_of_suc-le-suc h) (le_of_suc-le-suc q) (le_of_suc-le-suc n) in omega arith

  pub put_same : (l : List A) (k : ℕ) (a z : A) → k ≤ length l → get_or (put l k a) k z ≡ a
  put_same [] zero a z h = refl
  put_same [] (suc k) a z h = absurd (let y : ⊥ = omega arith in y)
  put_same (x ∷ l) zero a z h = refl
  put_same (x ∷ l) (suc k) a z h = put_same l k a z (le_of_suc-le-suc h)

  pub put_other : (l : List A) (k : ℕ) (a z : A) (j : ℕ) → k ≤ length l → j ≢ k → get_or (put l k a) j z ≡ get_or l j z
  put_other [] zero a z zero h d = absurd (d refl)
  put_other [] zero a z (suc j) h d = refl
  put_other [] (suc k) a z j h d = absurd (let y : ⊥ = omega arith in y)
  put_other (x ∷ l) zero a z zero h d = absurd (d refl)
  put_other (x ∷ l) zero a z (suc j) h d = refl
  put_other (x ∷ l) (suc k) a z zero h d = refl
  put_other (x ∷ l) (suc k) a z (suc j) h d = put_other l k a z j (le_of_suc-le-suc h) (λ e. d (ap suc e))

-- ---- the places after each change

module _ (l : List ℕ) (few : length l ≤ 32) where
  long : length (in_places l) ≡ 32
  long = length-places l few

  -- the first number leaves
  pub places-shift : in_places (drop 1 l) ≡ drop 1 (in_places l) ++ (segment 0 ∷ [])
  places-shift =
      by-places (drop 1 l) (drop 1 (in_places l) ++ (segment 0 ∷ [])) (let e = length-drop 1 l in omega arith)
      (length-append (drop 1 (in_places l)) (segment 0 ∷ []) ∙ ap (λ (n : ℕ). n + 1) rest)
      (λ k r. ⊎_elim (λ q. inner k q) (λ q. last k q (omega arith)) (le-or-lt (k + 1) 31))
    where
      rest : length (drop 1 (in_places l)) ≡ 31
      rest = let e = length-drop 1 (in_places l) in omega (arith, long)

      inner : (k : ℕ) → k + 1 ≤ 31 → segment (get_or (drop 1 l) k 0) ≡ get_or (drop 1 (in_places l) ++ (segment 0 ∷ [])) k (segment 0)
      inner k q =
          ap segment (get_or-drop 1 l k 0) ∙ sym (places-at l (1 + k)) ∙ sym (get_or-drop 1 (in_places l) k (segment 0))
          ∙ sym (get_or-append (drop 1 (in_places l)) (segment 0 ∷ []) (segment 0) k (omega (arith, rest)))

      last : (k : ℕ) → 31 < k + 1 → k ≤ 31 → segment (get_or (drop 1 l) k 0) ≡ get_or (drop 1 (in_places l) ++ (segment 0 ∷ [])) k (segment 0)
      last k q r =
          let e : k ≡ length (drop 1 (in_places l)) + 0 = omega (arith, rest) in
          ap segment (get_or-drop 1 l k 0 ∙ get_or-eq_default l 0 (omega arith))
          ∙ sym (ap (λ (j : ℕ). get_or (drop 1 (in_places l) ++ (segment 0 ∷ [])) j (segment 0)) e ∙ get_or-append-add (drop 1 (in_places l)) (segment 0 ∷ []) 0 (segment 0))

  -- number n becomes g, the rest stays
  set-places : (m : List ℕ) (n : ℕ) (g : ℕ) → n < 32 → length m ≤ 32 → get_or m n 0 ≡ g → ((k : ℕ) → k ≢ n → get_or m k 0 ≡ get_or l k 0) → in_places m ≡ set (in_places l) n (segment g)
  set-places m n g ln lm e f =
      by-places m (set (in_places l) n (segment g)) lm (length-set (in_places l) n (segment g) ∙ long)
      (λ k r. ⊎_elim (λ q. here k q) (λ d. ap segment (f k d) ∙ sym (places-at l k) ∙ sym (get_or-set_other (in_places l) n k (segment g) (segment 0) d)) (eq-or-ne k n))
    where
      here : (k : ℕ) → k ≡ n → segment (get_or m k 0) ≡ get_or (set (in_places l) n (segment g)) k (segment 0)
      here k q =
          ap (λ (j : ℕ). segment (get_or m j 0)) q ∙ ap segment e ∙ sym (get_or-set_same (in_places l) n (segment g) (segment 0) (omega (arith, long)))
          ∙ sym (ap (λ (j : ℕ). get_or (set (in_places l) n (segment g)) j (segment 0)) q)

  -- the last number leaves
  pub places-trim : (n : ℕ) → length l ≡ n + 1 → in_places (take n l) ≡ set (in_places l) n (segment 0)
  places-trim n e =
      set-places (take n l) n 0 (omega arith) (omega (arith, short)) (get_or-eq_default (take n l) 0 (omega (arith, short)))
      (λ k d. ⊎_elim (λ q. beyond k q d) (λ q. get_or-take n l k 0 q) (le-or-lt n k))
    where
      short : length (take n l) ≡ n
      short = length-take-le n l (omega arith)

      beyond : (k : ℕ) → n ≤ k → k ≢ n → get_or (take n l) k 0 ≡ get_or l k 0
      beyond k q d =
          let r : n < k = ⊎_elim (λ a. absurd (d (let z : k ≡ n = omega arith in z))) (λ a. a) (le-or-lt k n) in
          get_or-eq_default (take n l) 0 (omega (arith, short)) ∙ sym (get_or-eq_default l 0 (omega arith))

  -- a number is replaced, or appended
  pub places-put : (k g : ℕ) → k ≤ length l → k < 32 → in_places (put l k g) ≡ set (in_places l) k (segment g)
  places-put k g h lk = set-places (put l k g) k g lk (put-short l k 32 g h lk few) (put_same l k g 0 h) (λ j d. put_other l k g 0 j h d)

  -- where n numbers stay, and at most one leaves
  module _ (n : ℕ) (low : n ≤ length l) (high : length l ≤ n + 1) where
    pub places-from : in_places (drop (length l - n) l) ≡ cond (ltb n (length l)) (drop 1 (in_places l) ++ (segment 0 ∷ [])) (in_places l)
    places-from = ⊎_elim stay leave (le-or-lt (length l) n)
      where
        stay : length l ≤ n → in_places (drop (length l - n) l) ≡ cond (ltb n (length l)) (drop 1 (in_places l) ++ (segment 0 ∷ [])) (in_places l)
        stay q = let e : length l - n ≡ 0 = omega arith in rw (e, le-ltb n (length l) q)

        leave : n < length l → in_places (drop (length l - n) l) ≡ cond (ltb n (length l)) (drop 1 (in_places l) ++ (segment 0 ∷ [])) (in_places l)
        leave q = let e : length l - n ≡ 1 = omega arith in rw (e, lt-ltb n (length l) q) places-shift

    pub places-to : in_places (take n l) ≡ cond (ltb n (length l)) (set (in_places l) (length l - 1) (segment 0)) (in_places l)
    places-to = ⊎_elim stay leave (le-or-lt (length l) n)
      where
        stay : length l ≤ n → in_places (take n l) ≡ cond (ltb n (length l)) (set (in_places l) (length l - 1) (segment 0)) (in_places l)
        stay q = rw (le-ltb n (length l) q) (ap in_places (take_all n l q))

        leave : n < length l → in_places (take n l) ≡ cond (ltb n (length l)) (set (in_places l) (length l - 1) (segment 0)) (in_places l)
        leave q =
            let e : length l - 1 ≡ n = omega arith in
            rw (lt-ltb n (length l) q, e) (places-trim n (omega arith))
