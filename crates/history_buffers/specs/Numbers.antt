-- As many numbers as a line wants; None is what a line has whose numbers are malformed, or more than four. Assumes nothing.
use Rattle.std.specs.Prelude.{ℕ, Bool, true, false, Option, Some, None}
use Rattle.history_words.specs.declared.Numbers.{Numbers}
use Rattle.history_words.specs.declared.Numbers.TheVariants.{Zero, One, Two, Three, Four}

abbrev pub no_number : Option Numbers → Bool
no_number (Some Zero) = true
no_number (Some (One a)) = false
no_number (Some (Two a b)) = false
no_number (Some (Three a b c)) = false
no_number (Some (Four a b c d)) = false
no_number None = false

abbrev pub one_number : Option Numbers → Option ℕ
one_number (Some Zero) = None
one_number (Some (One a)) = Some a
one_number (Some (Two a b)) = None
one_number (Some (Three a b c)) = None
one_number (Some (Four a b c d)) = None
one_number None = None

abbrev pub two_numbers : Option Numbers → Option (ℕ × ℕ)
two_numbers (Some Zero) = None
two_numbers (Some (One a)) = None
two_numbers (Some (Two a b)) = Some (a, b)
two_numbers (Some (Three a b c)) = None
two_numbers (Some (Four a b c d)) = None
two_numbers None = None

module _ {A : Type 0} where
  abbrev pub on_one : (ℕ → A) → A → Option ℕ → A
  on_one f x (Some n) = f n
  on_one f x None = x

  abbrev pub on_two : (ℕ → ℕ → A) → A → Option (ℕ × ℕ) → A
  on_two f x (Some pair) = f pair.0 pair.1
  on_two f x None = x
