-- Names that are made from byte strings, and names of new files, are titles; a title that is not the scratch name is a record's name.
-- Assumes nothing.
use Rattle.std.specs.Prelude.{ℕ, zero, suc, ◌+◌, ◌-◌, ◌≤◌, ◌<◌, ◌≡◌, refl, Bool, false, not, ◌||◌, cond, List, [], ◌∷◌, ◌++◌, T, eqb, ltb, length, get_or, take, replicate}
use Rattle.std.proofs.Common.{arith, ◌∙◌, leb→le, nltb→le, length-append, length-take, get_or-take}
use Rattle.std.proofs.Math.Path.{ap}
use Rattle.std.proofs.Math.Bool.{true}
use Rattle.std.proofs.Math.Dec.{leb, ltb→lt}
use Rattle.std.proofs.Math.ListN.{get_or-eq_default}
use borrow.Author.Tests.{le-leb}
use Rattle.combine.specs.Below.{all_below}
use Rattle.combine.specs.Laws.Below.{all-at, all-make, or_left, or_right, not-both}
use Rattle.combine.specs.Rows.{all_of}
use Rattle.names.specs.Names.{is_skipped, is_digit, is_letter, symbols_of, name_of, scratch_name, is_scratch, follows, nameb, opening_nameb}
use Rattle.combine.specs.Laws.Tests.{by-test, and_second}
use Rattle.combine.specs.Laws.Replaced.{replicate-at}

-- ---- symbols are 0 to 35

abbrev Symbols : List ℕ → Type 0
Symbols s = (k : ℕ) → k < length s → get_or s k 63 ≤ 35

symbols-more : (x : ℕ) (s : List ℕ) → x ≤ 35 → Symbols s → Symbols (x ∷ s)
symbols-more x s h r zero l = h
symbols-more x s h r (suc k) l = r k (omega arith)

symbols-of : (bytes : List ℕ) → Symbols (symbols_of bytes)
unfolding symbols_of
symbols-of [] = λ k l. absurd (omega arith)
symbols-of (c ∷ cs) =
    go (is_skipped c) (is_digit c) (is_letter c) (λ t. omega (arith, leb→le c 57 (and_second (leb 48 c) (leb c 57) t)))
    (λ t. omega (arith, leb→le c 122 (and_second (leb 97 c) (leb c 122) t))) (symbols-of cs)
  where
    go : (skipped digit letter : Bool) → (T digit → c - 48 ≤ 35) → (T letter → c - 97 + 10 ≤ 35) → Symbols (symbols_of cs)
        → Symbols (cond skipped (symbols_of cs) (cond digit ((c - 48) ∷ symbols_of cs) (cond letter ((c - 97 + 10) ∷ symbols_of cs) [])))
    go true digit letter h l r = r
    go false true letter h l r = symbols-more (c - 48) (symbols_of cs) (h tt) r
    go false false true h l r = symbols-more (c - 97 + 10) (symbols_of cs) (l tt) r
    go false false false h l r = λ k w. absurd (omega arith)

-- ---- filled with 63

abbrev filled : List ℕ → List ℕ
filled s = take 12 (s ++ replicate 12 63)

filling : (s : List ℕ) (n k : ℕ) → get_or (s ++ replicate n 63) k 63 ≡ get_or s k 63
filling [] n k = replicate-at n k 63
filling (x ∷ xs) n zero = refl
filling (x ∷ xs) n (suc k) = filling xs n k

module _ (s : List ℕ) (small : Symbols s) where
  filled_at : (k : ℕ) → k < 12 → get_or (filled s) k 63 ≡ get_or s k 63
  filled_at k h = get_or-take 12 (s ++ replicate 12 63) k 63 h ∙ filling s 12 k

  follows_on : (k : ℕ) → follows (get_or s k 63) (get_or s (k + 1) 63) ≡ true
  unfolding follows
  follows_on k = by-test (ltb (k + 1) (length s))
      (λ t. let l = ltb→lt (k + 1) (length s) t in rw (le-leb (get_or s (k + 1) 63) 35 (small (k + 1) l), le-leb (get_or s k 63) 35 (small k (omega arith))))
      (λ t. rw (get_or-eq_default s 63 (nltb→le (k + 1) (length s) t)))

  filled-name : 0 < length s → nameb (filled s) ≡ true
  unfolding nameb all_of
  filled-name h =
      let first : leb (get_or (filled s) 0 63) 35 ≡ true = ap (λ (x : ℕ). leb x 35) (filled_at 0 (omega arith)) ∙ le-leb (get_or s 0 63) 35 (small 0 h) in
      let rest : all_below 11 (λ k. follows (get_or (filled s) k 63) (get_or (filled s) (k + 1) 63)) ≡ true =
      all-make _ 11 (λ k l. rw (filled_at k (omega arith), filled_at (k + 1) (omega arith)) (follows_on k)) in
      rw (first, rest)

filled-title : (s : List ℕ) → Symbols s → opening_nameb (filled s) ≡ true
unfolding opening_nameb all_below
filled-title [] small = or_right (nameb (filled [])) true refl
filled-title (x ∷ xs) small = or_left (nameb (filled (x ∷ xs))) _ (filled-name (x ∷ xs) small (omega arith))

-- ---- the laws

pub title-of-bytes : (bytes : List ℕ) → opening_nameb (name_of bytes) ≡ true
unfolding name_of
title-of-bytes bytes = filled-title (symbols_of bytes) (symbols-of bytes)

pub twelve-of-bytes : (bytes : List ℕ) → length (name_of bytes) ≡ 12
unfolding name_of
twelve-of-bytes bytes =
    omega (arith, length-take 12 (symbols_of bytes ++ replicate 12 63), length-append (symbols_of bytes) (replicate 12 63))

pub title-of-scratch : opening_nameb scratch_name ≡ true
unfolding scratch_name
title-of-scratch = filled-title [] (λ k l. absurd (omega arith))

pub twelve-of-scratch : length scratch_name ≡ 12
unfolding scratch_name
twelve-of-scratch = refl

-- "an opening's name is as a record's or all 63"
pub name-of-title : (n : List ℕ) → opening_nameb n ≡ true → T (not (is_scratch n)) → nameb n ≡ true
unfolding opening_nameb is_scratch
name-of-title n e s = go (nameb n) e
  where
    all-63 : (m : List ℕ) → eqb (get_or m 0 0) 63 ≡ true → T (not (eqb (get_or m 0 63) 63)) → ⊥
    all-63 [] p q = not-both p refl
    all-63 (x ∷ xs) p q = rw p at q

    go : (b : Bool) → (b || all_below 12 (λ k. eqb (get_or n k 0) 63)) ≡ true → b ≡ true
    go true p = refl
    go false p = absurd (all-63 n (all-at _ 12 p 0 (omega arith)) s)

pub title-of-name : (n : List ℕ) → nameb n ≡ true → opening_nameb n ≡ true
unfolding opening_nameb
title-of-name n e = or_left (nameb n) _ e
