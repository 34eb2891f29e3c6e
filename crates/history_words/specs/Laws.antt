-- What loops over the bytes of a word use of its meaning. Assumes nothing.
use Rattle.std.specs.Prelude.{ℕ, suc, ◌+◌, ◌*◌, ◌-◌, ◌≤◌, ◌<◌, ◌≡◌, refl, Bool, true, false, ◌&&◌, cond, List, [], ◌∷◌, leb, eqb, length, get_or, take, drop, Option, Some, None}
use Rattle.std.proofs.Math.Path.{sym}
use Rattle.std.proofs.Common.{ap, ◌∙◌, arith, add-one, drop_of_length-le, drop-cons}
use borrow.Author.Tests.{le-leb, lt-leb, leb-true, eq-eqb, ne_eqb}
use Rattle.std.proofs.lemmas.Bool.{and_parts}
use Rattle.std.proofs.Math.Seq.{take-length}
use Rattle.std.proofs.lemmas.List.{get_or-take, length-take-le}
use lib.Pointwise.{pointwise}
use Rattle.names.specs.Names.{is_digit}
use Rattle.history_words.specs.Words.{sameb, digits_from, number_of, index_of, index_after, slice, word_end}

-- ---- the digits from place i on, with those before worth v

digits-cons : (v b : ℕ) (bs : List ℕ) (d : Bool) → is_digit b && leb (10 * v + b - 48) 4294967295 ≡ d → digits_from v (b ∷ bs) ≡ cond d (digits_from (10 * v + b - 48) bs) None
unfolding digits_from
digits-cons v b bs d e = rw e refl

module _ (w : List ℕ) (v i : ℕ) (whole : digits_from v (drop i w) ≡ digits_from 0 w) where
  abbrev here : ℕ
  here = get_or w i 0

  at_place : (d : Bool) → i < length w → is_digit here && leb (10 * v + here - 48) 4294967295 ≡ d → digits_from 0 w ≡ cond d (digits_from (10 * v + here - 48) (drop (suc i) w)) None
  at_place d l e = sym whole ∙ ap (digits_from v) (drop-cons w i 0 l) ∙ digits-cons v here (drop (suc i) w) d e

  pub no-digit : i < length w → is_digit here ≡ false → None ≡ digits_from 0 w
  no-digit l h = sym (at_place false l (simp h))

  module _ (l : i < length w) (h : is_digit here ≡ true) where
    next-is : 10 * v + here - 48 ≡ v * 10 + (here - 48)
    next-is = let low = leb-true 48 here (and_parts (leb 48 here) (leb here 57) h).0 in omega (arith, low)

    pub digits-large : 4294967296 ≤ v * 10 + (here - 48) → None ≡ digits_from 0 w
    digits-large m = sym (at_place false l (simp (h, lt-leb (10 * v + here - 48) 4294967295 (omega (arith, next-is, m)))))

    pub digits-on : (n : ℕ) → n < 4294967296 → n ≡ v * 10 + (here - 48) → digits_from n (drop (i + 1) w) ≡ digits_from 0 w
    digits-on n m e = rw (e, ← next-is, add-one) (sym (at_place true l (simp (h, le-leb (10 * v + here - 48) 4294967295 (omega (arith, next-is, m, e))))))

  pub digits-end : length w ≤ i → Some v ≡ digits_from 0 w
  unfolding digits_from
  digits-end l = sym (ap (digits_from v) (drop_of_length-le w l)) ∙ whole

-- ---- two words, by the test that the slices' == makes

pub same-bytes : (l m : List ℕ) → pointwise eqb l m ≡ sameb l m
unfolding sameb
same-bytes [] [] = refl
same-bytes [] (b ∷ m) = refl
same-bytes (a ∷ l) [] = refl
same-bytes (a ∷ l) (b ∷ m) = ap (λ x. eqb a b && x) (same-bytes l m)

-- ---- the first byte b from place i on, before the place `to`

module _ (l : List ℕ) (b i to : ℕ) where
  slice-cons : i < to → to ≤ length l → slice i to l ≡ get_or l i 0 ∷ slice (suc i) to l
  unfolding slice
  slice-cons h k = drop-cons (take to l) i 0 (rw length-take-le h) ∙ ap (λ x. x ∷ drop (suc i) (take to l)) (get_or-take to l i 0 h)

  at_slice : (d : Bool) → i < to → to ≤ length l → eqb (get_or l i 0) b ≡ d → index_of b (slice i to l) ≡ index_after d (index_of b (slice (suc i) to l))
  unfolding index_of
  at_slice d h k e = ap (index_of b) (slice-cons h k) ∙ ap (λ x. index_after x (index_of b (slice (suc i) to l))) e

  pub found-here : i < to → to ≤ length l → get_or l i 0 ≡ b → index_of b (slice i to l) ≡ 0
  unfolding index_after
  found-here h k e = at_slice true h k (eq-eqb (get_or l i 0) b e)

  pub not-here : i < to → to ≤ length l → (get_or l i 0 ≡ b → ⊥) → index_of b (slice i to l) ≡ suc (index_of b (slice (i + 1) to l))
  unfolding index_after
  not-here h k n = rw add-one (at_slice false h k (ne_eqb (get_or l i 0) b n))

  pub none-left : to ≤ i → to ≤ length l → index_of b (slice i to l) ≡ 0
  unfolding index_of slice
  none-left h k = ap (index_of b) (drop_of_length-le (take to l) (rw length-take-le h))

-- ---- the end of a word

index-within : (b : ℕ) (l : List ℕ) → index_of b l ≤ length l
unfolding index_of index_after
index-within b [] = omega arith
index-within b (x ∷ l) = step (eqb x b) (index-within b l)
  where
    step : (d : Bool) → index_of b l ≤ length l → index_after d (index_of b l) ≤ suc (length l)
    step true h = omega arith
    step false h = omega arith

slice-end : (l : List ℕ) (from : ℕ) → slice from (length l) l ≡ drop from l
unfolding slice
slice-end l from = ap (drop from) (take-length l)

pub word-found : (line : List ℕ) (from r : ℕ) → r ≡ from + index_of 32 (slice from (length line) line) → r ≡ word_end line from
unfolding word_end
word-found line from r e = e ∙ ap (λ l. from + index_of 32 l) (slice-end line from)

pub word_after : (line : List ℕ) (from r : ℕ) → r ≡ from + index_of 32 (slice from (length line) line) → from ≤ r
word_after line from r e = omega arith

-- ---- numbers

module _ (w : List ℕ) where
  pub no-digits : length w ≡ 0 → None ≡ number_of w
  unfolding number_of
  no-digits e = simp (lt-leb 1 (length w) (omega arith))

  pub many-digits : 10 < length w → None ≡ number_of w
  unfolding number_of
  many-digits l = simp (le-leb 1 (length w) (omega (arith, l)), lt-leb (length w) 10 l)

  pub some-digits : (r : Option ℕ) → r ≡ digits_from 0 w → (length w ≡ 0 → ⊥) → length w ≤ 10 → r ≡ number_of w
  unfolding number_of
  some-digits r e n l = e ∙ sym (simp (le-leb 1 (length w) (positive (length w) n), le-leb (length w) 10 l))
    where
      positive : (k : ℕ) → (k ≡ 0 → ⊥) → 1 ≤ k
      positive k n = omega (arith, n)
