-- What the functions that read numbers use of their meaning. Assumes nothing.
use Rattle.std.specs.Prelude.{ℕ, ◌+◌, ◌≤◌, ◌<◌, ◌≡◌, List, leb, ltb, length, Option, Some, None}
use Rattle.std.proofs.Math.Path.{sym, ap}
use Rattle.std.proofs.Common.{◌∙◌, le-leb, lt-ltb, le-ltb}
use Rattle.std.proofs.Math.Bool.{cond}
use Rattle.std.proofs.lemmas.Bool.{lt-leb}
use Rattle.history_words.specs.declared.Numbers.{Numbers}
use Rattle.history_words.specs.declared.Numbers.TheVariants.{Zero, One, Two, Three, Four}
use Rattle.history_words.specs.Words.{word_end, number_of, part, read_as, number_at, on_number, numbers_at, after_one, after_two, after_three}

module _ (line : List ℕ) (at : ℕ) where
  pub none-at-end : length line ≤ at → None ≡ number_at line at
  unfolding number_at
  none-at-end l = simp (le-leb (length line) at l)

  pub number-read : (to : ℕ) (x : Option ℕ) → at < length line → to ≡ word_end line (at + 1) → x ≡ number_of (part (at + 1) to line) → read_as to x ≡ number_at line at
  unfolding number_at
  number-read to x l e p =
      ap (read_as to) p
      ∙ ap (λ k. read_as k (number_of (part (at + 1) k line))) e
      ∙ sym (simp (lt-leb (length line) at l))

  -- ---- numbers up to the line's end: at it, before a word that is no number, before a number

  stop : (y : Option Numbers) (f : ℕ → ℕ → Option Numbers) → length line ≤ at → y ≡ cond (leb (length line) at) y (on_number f (number_at line at))
  stop y f l = simp (le-leb (length line) at l)

  on : (y : Option Numbers) (f : ℕ → ℕ → Option Numbers) (x : Option (ℕ × ℕ)) → at < length line → x ≡ number_at line at
      → on_number f x ≡ cond (leb (length line) at) y (on_number f (number_at line at))
  on y f x l e = ap (on_number f) e ∙ sym (simp (lt-leb (length line) at l))

  module _ (r : Option Numbers) where
    pub zero-end : length line ≤ at → r ≡ Some Zero → r ≡ numbers_at line at
    unfolding numbers_at
    zero-end l p = p ∙ stop (Some Zero) (λ a to. after_one line to a) l

    pub zero-bad : at < length line → None ≡ number_at line at → r ≡ None → r ≡ numbers_at line at
    unfolding numbers_at
    zero-bad l e p = p ∙ on (Some Zero) (λ a to. after_one line to a) None l e

    pub zero-on : (a to : ℕ) → at < length line → Some (a, to) ≡ number_at line at → r ≡ after_one line to a → r ≡ numbers_at line at
    unfolding numbers_at
    zero-on a to l e p = p ∙ on (Some Zero) (λ a to. after_one line to a) (Some (a, to)) l e

    module _ (a : ℕ) where
      pub one_end : length line ≤ at → r ≡ Some (One a) → r ≡ after_one line at a
      unfolding after_one
      one_end l p = p ∙ stop (Some (One a)) (λ b to. after_two line to a b) l

      pub one-bad : at < length line → None ≡ number_at line at → r ≡ None → r ≡ after_one line at a
      unfolding after_one
      one-bad l e p = p ∙ on (Some (One a)) (λ b to. after_two line to a b) None l e

      pub one_on : (b to : ℕ) → at < length line → Some (b, to) ≡ number_at line at → r ≡ after_two line to a b → r ≡ after_one line at a
      unfolding after_one
      one_on b to l e p = p ∙ on (Some (One a)) (λ b to. after_two line to a b) (Some (b, to)) l e

      module _ (b : ℕ) where
        pub two-end : length line ≤ at → r ≡ Some (Two a b) → r ≡ after_two line at a b
        unfolding after_two
        two-end l p = p ∙ stop (Some (Two a b)) (λ c to. after_three line to a b c) l

        pub two-bad : at < length line → None ≡ number_at line at → r ≡ None → r ≡ after_two line at a b
        unfolding after_two
        two-bad l e p = p ∙ on (Some (Two a b)) (λ c to. after_three line to a b c) None l e

        pub two-on : (c to : ℕ) → at < length line → Some (c, to) ≡ number_at line at → r ≡ after_three line to a b c → r ≡ after_two line at a b
        unfolding after_two
        two-on c to l e p = p ∙ on (Some (Two a b)) (λ c to. after_three line to a b c) (Some (c, to)) l e

        module _ (c : ℕ) where
          last : ℕ → ℕ → Option Numbers
          last d to = cond (ltb to (length line)) None (Some (Four a b c d))

          pub three-end : length line ≤ at → r ≡ Some (Three a b c) → r ≡ after_three line at a b c
          unfolding after_three last
          three-end l p = p ∙ stop (Some (Three a b c)) last l

          pub three-bad : at < length line → None ≡ number_at line at → r ≡ None → r ≡ after_three line at a b c
          unfolding after_three last
          three-bad l e p = p ∙ on (Some (Three a b c)) last None l e

          pub more-than-four : (d to : ℕ) → at < length line → Some (d, to) ≡ number_at line at → to < length line → r ≡ None → r ≡ after_three line at a b c
          unfolding after_three last
          more-than-four d to l e m p = p ∙ sym (simp (lt-ltb to (length line) m)) ∙ on (Some (Three a b c)) last (Some (d, to)) l e

          pub four-end : (d to : ℕ) → at < length line → Some (d, to) ≡ number_at line at → length line ≤ to → r ≡ Some (Four a b c d) → r ≡ after_three line at a b c
          unfolding after_three last
          four-end d to l e m p = p ∙ sym (simp (le-ltb to (length line) m)) ∙ on (Some (Three a b c)) last (Some (d, to)) l e

pub ruleset reading = (
  zero-end,
  zero-bad,
  zero-on,
  one_end,
  one-bad,
  one_on,
  two-end,
  two-bad,
  two-on,
  three-end,
  three-bad,
  more-than-four,
  four-end,
)
