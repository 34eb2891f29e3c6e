-- What the code that reads signed numbers uses of their meaning. Assumes nothing.
use Rattle.std.proofs.Common.{ℕ, zero, suc, ◌+◌, ◌-◌, ◌≤◌, ◌<◌, ◌≡◌, refl, sym, ap, ◌∙◌, arith, Bool, true, false, List, [], ◌∷◌, length, drop, length-drop, take_all, ℤ, pos, negsuc, ◌-ℤ◌, OkIff, Result, Ok, Err, Option, Some, None}
use Rattle.std.specs.Result.{result_ok}
use borrow.Author.Tests.{eq-eqb, ne_eqb, lt-ltb, le-ltb}
use lib.Signed.{mag}
use mir.Syntax.{w32, w64}
use mir.Val.{SFits, of_z, to_z}
use mir.ValLaws.{to_z-of_z}
use Rattle.history_words.specs.Words.{number_of, part, in_range, with_sign, signed_number_of, last_signed}

-- ---- in_range: a number of 32 bits

inside : (z : ℤ) → SFits w32 z → Some z ≡ in_range z
unfolding in_range
inside (pos n) f = simp (le-ltb 2147483647 n (omega (arith, f.sfits)))
inside (negsuc k) f = simp (le-ltb 2147483647 k (omega (arith, f.sfits)))

outside : (z : ℤ) → (SFits w32 z → ⊥) → None ≡ in_range z
unfolding in_range
outside (pos n) f = simp (lt-ltb 2147483647 n (let g : n < 2147483648 → ⊥ = λ l. f (record { sfits = l }) in omega (arith, g)))
outside (negsuc k) f = simp (lt-ltb 2147483647 k (let g : k < 2147483648 → ⊥ = λ l. f (record { sfits = l }) in omega (arith, g)))

module _ {E : Type 0} where
  converted : (t : Result ℤ E) (z : ℤ) → OkIff t (SFits w32 z) z → result_ok t ≡ in_range z
  converted (Ok x) z h = ap Some h.1 ∙ inside z h.0
  converted (Err x) z h = outside z h

-- ---- with_sign: digits d that make n, s of 64 bits, whose sign is turned or stays; t is what they come to in 32 bits

less : (n : ℕ) → n < 9223372036854775808 → SFits w64 (pos 0 -ℤ pos n)
less zero h = record { sfits = omega arith }
less (suc k) h = simp (lt-ltb 0 (suc k) (omega arith)) (record { sfits = omega arith })

abbrev stored : ℤ → ℤ
stored z = to_z w64 (of_z w64 z)

module _ {E : Type 0} (m : Bool) (d : Option ℕ) (n : ℕ) (s : ℤ) (known : d ≡ Some n) (long : s ≡ pos n) (small : mag s < 9223372036854775808) (t : Result ℤ E) (o : Option ℤ)
    (got : o ≡ result_ok t) where
  kept : stored s ≡ pos n
  kept = to_z-of_z w64 s (record { sfits = small }) ∙ long

  turned : stored (pos 0 -ℤ stored s) ≡ pos 0 -ℤ pos n
  turned = ap (λ (y : ℤ). stored (pos 0 -ℤ y)) kept ∙ to_z-of_z w64 (pos 0 -ℤ pos n) (less n (omega (arith, small, ap mag long)))

  pub with-minus : m ≡ true → OkIff t (SFits w32 (stored (pos 0 -ℤ stored s))) (stored (pos 0 -ℤ stored s)) → o ≡ with_sign m d
  with-minus q h = got ∙ converted t _ h ∙ ap in_range turned ∙ sym (λ j. with_sign (q j) (known j))

  pub without : m ≡ false → OkIff t (SFits w32 (stored s)) (stored s) → o ≡ with_sign m d
  without q h = got ∙ converted t _ h ∙ ap in_range kept ∙ sym (λ j. with_sign (q j) (known j))

pub sign-of-none : (m : Bool) (d : Option ℕ) → d ≡ None → None ≡ with_sign m d
sign-of-none true d e = sym (ap (with_sign true) e)
sign-of-none false d e = sym (ap (with_sign false) e)

-- ---- signed_number_of, last_signed

pub signed-empty : (w : List ℕ) → length w ≡ 0 → None ≡ signed_number_of w
unfolding number_of signed_number_of
signed-empty [] e = refl
signed-empty (b ∷ bs) e = absurd (omega arith)

module _ (w : List ℕ) (b : ℕ) (rest : List ℕ) (parts : w ≡ b ∷ rest) (d : Option ℕ) (r : Option ℤ) where
  pub signed-minus : b ≡ 45 → d ≡ number_of rest → r ≡ with_sign true d → r ≡ signed_number_of w
  unfolding signed_number_of
  signed-minus e p q = q ∙ ap (with_sign true) p ∙ sym (ap signed_number_of parts ∙ simp (eq-eqb b 45 e))

  pub signed-plus : (b ≡ 45 → ⊥) → d ≡ number_of w → r ≡ with_sign false d → r ≡ signed_number_of w
  unfolding signed_number_of
  signed-plus n p q = q ∙ ap (with_sign false) (p ∙ ap number_of parts) ∙ sym (ap signed_number_of parts ∙ simp (ne_eqb b 45 n))

module _ (line : List ℕ) (at : ℕ) where
  pub no_last : length line ≤ at → None ≡ last_signed line at
  unfolding last_signed
  no_last l = signed-empty (drop (at + 1) line) (let h = length-drop (at + 1) line in omega arith)

  pub last-there : (r : Option ℤ) → r ≡ signed_number_of (part (at + 1) (length line) line) → r ≡ last_signed line at
  unfolding last_signed
  last-there r e = e ∙ ap signed_number_of (take_all (length line - (at + 1)) (drop (at + 1) line) (let h = length-drop (at + 1) line in omega arith))

pub ruleset signs = (with-minus, without, sign-of-none, signed-empty, signed-minus, signed-plus, no_last, last-there)
