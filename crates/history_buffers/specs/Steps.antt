-- What stands for numbers that are known, how many cells are lent, and the sum from place i on: laws that no proof needs any more, since the bound and the sum
-- are the library's. Assumes nothing.
use Rattle.std.specs.Prelude.{ℕ, suc, ◌+◌, ◌*◌, ◌%◌, ◌≤◌, ◌<◌, ◌≡◌, Bool, List, length, get_or, drop, Option}
use Rattle.std.proofs.Math.Path.{sym, ap}
use Rattle.std.proofs.Common.{◌∙◌, drop_of_length-le, drop-cons, add-one}
use borrow.Author.Tests.{lt-ltb, le-ltb}
use Rattle.history_words.specs.declared.Numbers.{Numbers}
use Rattle.history_buffers.specs.Numbers.{no_number, one_number, two_numbers}
use Rattle.history_buffers.specs.Buffers.{within_of, sum_of}

pub no-number-known : (m k : Option Numbers) (b : Bool) → m ≡ k → b ≡ no_number k → b ≡ no_number m
no-number-known m k b q r = r ∙ sym (ap no_number q)

pub one-number-known : (m k : Option Numbers) (x : Option ℕ) → m ≡ k → x ≡ one_number k → x ≡ one_number m
one-number-known m k x q r = r ∙ sym (ap one_number q)

pub two-numbers-known : (m k : Option Numbers) (x : Option (ℕ × ℕ)) → m ≡ k → x ≡ two_numbers k → x ≡ two_numbers m
two-numbers-known m k x q r = r ∙ sym (ap two_numbers q)

pub within-most : (n most : ℕ) → most < n → most ≡ within_of n most
unfolding within_of
within-most n most l = simp (lt-ltb most n l)

pub within_all : (n most : ℕ) → n ≤ most → n ≡ within_of n most
unfolding within_of
within_all n most l = simp (le-ltb most n l)

-- with the cells before place i summed to h
module _ (cells : List ℕ) (h i : ℕ) (whole : sum_of h (drop i cells) ≡ sum_of 0 cells) where
  pub sum-on : (r : ℕ) → r ≡ (h * 31 + get_or cells i 0) % 4294967291 → i < length cells → sum_of r (drop (i + 1) cells) ≡ sum_of 0 cells
  unfolding sum_of
  sum-on r e l = rw add-one (ap (λ n. sum_of n (drop (suc i) cells)) e ∙ sym (ap (sum_of h) (drop-cons cells i 0 l)) ∙ whole)

  pub sum-end : length cells ≤ i → h ≡ sum_of 0 cells
  unfolding sum_of
  sum-end l = sym (ap (sum_of h) (drop_of_length-le cells l)) ∙ whole
