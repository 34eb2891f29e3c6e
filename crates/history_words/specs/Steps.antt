-- Single steps through words and digits, from place i on: laws that no loop's proof needs any more, since words are compared by the library and a digit is
-- one test. Assumes nothing.
use Rattle.std.specs.Prelude.{ℕ, suc, ◌+◌, ◌*◌, ◌-◌, ◌≤◌, ◌<◌, ◌≡◌, refl, Bool, true, false, ◌&&◌, cond, ltb, List, [], ◌∷◌, eqb, length, get_or, drop, Option, Some, None}
use Rattle.std.proofs.Math.Path.{sym}
use Rattle.std.proofs.Common.{ap, ◌∙◌, arith, add-one, drop_of_length-le, drop-cons}
use borrow.Author.Tests.{le-leb, lt-leb, eq-eqb, ne_eqb, ltb-true, ltb-false}
use Rattle.names.specs.Names.{is_digit}
use Rattle.history_words.specs.declared.Numbers.{Numbers}
use Rattle.history_words.specs.declared.Numbers.TheVariants.{Four}
use Rattle.history_words.specs.Words.{sameb, digits_from, number_of, word_end, part, number_at, after_three}
use Rattle.history_words.specs.Laws.{no-digit}
use Rattle.history_words.specs.Reading.{number-read, more-than-four, four-end}

-- ---- the digits, with those before worth v

module _ (w : List ℕ) (v i : ℕ) (whole : digits_from v (drop i w) ≡ digits_from 0 w) where
  pub digit_low : i < length w → get_or w i 0 < 48 → None ≡ digits_from 0 w
  digit_low l h = no-digit w v i whole l (simp (lt-leb 48 (get_or w i 0) h))

  pub digit-high : i < length w → 57 < get_or w i 0 → None ≡ digits_from 0 w
  digit-high l h = no-digit w v i whole l (simp (le-leb 48 (get_or w i 0) (omega (arith, h)), lt-leb (get_or w i 0) 57 h))

-- ---- two words

pub same-cons : (a b : ℕ) (l m : List ℕ) (d : Bool) → eqb a b ≡ d → sameb (a ∷ l) (b ∷ m) ≡ d && sameb l m
unfolding sameb
same-cons a b l m d e = rw e refl

pub same_length : (l m : List ℕ) → (length l ≡ length m → ⊥) → false ≡ sameb l m
unfolding sameb
same_length [] [] n = absurd (n refl)
same_length [] (b ∷ m) n = refl
same_length (a ∷ l) [] n = refl
same_length (a ∷ l) (b ∷ m) n = step (eqb a b) (same_length l m (λ e. n (ap suc e)))
  where
    step : (x : Bool) → false ≡ sameb l m → false ≡ x && sameb l m
    step true e = e
    step false e = refl

module _ (w o : List ℕ) (i : ℕ) (long : length w ≡ length o) (whole : sameb (drop i w) (drop i o) ≡ sameb w o) where
  pub both : (d : Bool) → i < length w → eqb (get_or w i 0) (get_or o i 0) ≡ d → sameb w o ≡ d && sameb (drop (suc i) w) (drop (suc i) o)
  both d l e = sym whole ∙ (λ k. sameb (drop-cons w i 0 l k) (drop-cons o i 0 (omega arith) k)) ∙ same-cons (get_or w i 0) (get_or o i 0) (drop (suc i) w) (drop (suc i) o) d e

  pub same-differ : i < length w → (get_or w i 0 ≡ get_or o i 0 → ⊥) → false ≡ sameb w o
  same-differ l n = sym (both false l (ne_eqb (get_or w i 0) (get_or o i 0) n))

  pub same-on : i < length w → get_or w i 0 ≡ get_or o i 0 → sameb (drop (i + 1) w) (drop (i + 1) o) ≡ sameb w o
  same-on l e = rw add-one (sym (both true l (eq-eqb (get_or w i 0) (get_or o i 0) e)))

  pub same_end : length w ≤ i → true ≡ sameb w o
  unfolding sameb
  same_end l = sym (λ k. sameb (drop_of_length-le w l k) (drop_of_length-le o {i = i} (omega arith) k)) ∙ whole

-- ---- the number after the space at a place, and the last of four

module _ (line : List ℕ) (at to : ℕ) where
  module _ (x : Option ℕ) (l : at < length line) (e : to ≡ word_end line (at + 1)) (p : x ≡ number_of (part (at + 1) to line)) where
    pub number-there : (n : ℕ) → x ≡ Some n → Some (n, to) ≡ number_at line at
    number-there n q = number-read line at to (Some n) l e (sym q ∙ p)

    pub no-number-there : x ≡ None → None ≡ number_at line at
    no-number-there q = number-read line at to None l e (sym q ∙ p)

  pub three-on : (a b c d : ℕ) → at < length line → Some (d, to) ≡ number_at line at → cond (ltb to (length line)) None (Some (Four a b c d)) ≡ after_three line at a b c
  unfolding after_three
  three-on a b c d l e = go (ltb to (length line)) refl
    where
      go : (m : Bool) → ltb to (length line) ≡ m → cond (ltb to (length line)) None (Some (Four a b c d)) ≡ after_three line at a b c
      go true q = more-than-four line at (cond (ltb to (length line)) None (Some (Four a b c d))) a b c d to l e (ltb-true to (length line) q) (simp q)
      go false q = four-end line at (cond (ltb to (length line)) None (Some (Four a b c d))) a b c d to l e (ltb-false to (length line) q) (simp q)
