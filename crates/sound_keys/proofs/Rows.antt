-- The key that the code makes of a row of cells. Assumes nothing.
use Prim.Native.Nat.{ℕ, ◌+◌, ◌-◌, ◌*◌, ◌≤◌}
use mathlib.Core.Path.{◌≡◌, sym, ap, ◌∙◌}
use mathlib.Core.List.{List}
use native.Mathlib.Omega.{arith}
use lib.ListN.{get_or}
use borrow.Author.Tests.{eq-eqb, ne_eqb}
use Rattle.tables.specs.Layout.{record_of}
use Rattle.sound_keys.specs.Keys.{digits, key_of}
use Rattle.sound_keys.proofs.Digits.{digits-part}

module _ (row : List ℕ) (at : ℕ) where
  pub no_key : get_or row 0 0 ≡ 0 → 0 ≡ key_of (record_of row) (at - 1)
  unfolding key_of record_of
  no_key e = sym (rw (eq-eqb (get_or row 0 0) 0 e))

  -- the number that the code makes
  pub six-symbols : (a b c d e f : ℕ) → 1 ≤ at → at ≤ 7 → (get_or row 0 0 ≡ 0 → ⊥) → a ≡ get_or row at 0 → b ≡ get_or row (at + 1) 0 → c ≡ get_or row (at + 2) 0 → d ≡ get_or row (at + 3) 0 → e ≡ get_or row (at + 4) 0 → f ≡ get_or row (at + 5) 0
      → (((((64 + a) * 64 + b) * 64 + c) * 64 + d) * 64 + e) * 64 + f ≡ key_of (record_of row) (at - 1)
  unfolding key_of record_of digits
  six-symbols a b c d e f low high used ea eb ec ed ee ef =
      let from : 1 + (at - 1) ≡ at = omega arith in
      let first : a ≡ get_or row (at + 0) 0 = ea ∙ ap (λ (k : ℕ). get_or row k 0) (let z : at ≡ at + 0 = omega arith in z) in
      (λ i. (((((64 + first i) * 64 + eb i) * 64 + ec i) * 64 + ed i) * 64 + ee i) * 64 + ef i)
      ∙ sym (rw (ne_eqb (get_or row 0 0) 0 used) (digits-part row 1 12 (at - 1) 6 (omega arith) ∙ ap (λ (k : ℕ). digits row k 6) from))
