-- How many bytes of a byte string belong to its name: laws of names/specs/Names.antt. Assumes nothing.
use Prim.Native.Nat.{ℕ, zero, suc, ◌+◌, ◌-◌, ◌≤◌}
use Rattle.std.specs.Prelude.{◌≡◌, Bool, true, false, cond, ◌&&◌, ◌||◌, ltb, length, take, replicate}
use Rattle.std.proofs.Math.Path.{refl}
use Rattle.std.proofs.Common.{ap, lt-ltb}
use mathlib.Core.List.{List, [], ◌∷◌, ◌++◌}
use native.Mathlib.Omega.{arith}
use Rattle.names.specs.declared.Byte.{Byte}
use Rattle.names.specs.declared.Byte.TheVariants.{Skipped, Symbol, Ending}
use Rattle.names.specs.Names.{Bytes, is_skipped, is_digit, is_letter, symbols_of, name_of, used_from, used_bytes}
use Rattle.names.specs.Laws.Symbols.{byte_of, with_byte, symbols-more}

-- the used bytes, from what the first byte is
unfoldable pub used_with : Byte → (left : ℕ) (rest : Bytes) → ℕ
used_with Skipped left cs = suc (used_from left cs)
used_with (Symbol s) left cs = cond (ltb 0 left) (suc (used_from (left - 1) cs)) 0
used_with Ending left cs = 0

-- a symbol for which there is room
pub used-room : (s left less : ℕ) (rest : Bytes) → left ≡ suc less → used_with (Symbol s) left rest ≡ suc (used_from less rest)
unfolding used_with
used-room s left less cs e =
    let h : left - 1 ≡ less = omega arith in
    rw (lt-ltb 0 left (omega arith), h)

pub used-more : (c left : ℕ) (cs : Bytes) → used_from left (c ∷ cs) ≡ used_with (byte_of c) left cs
unfolding used_from byte_of used_with
used-more c left cs = go (is_skipped c) (is_digit c) (is_letter c)
  where
    go : (skipped digit letter : Bool) → cond skipped (suc (used_from left cs)) (cond ((digit || letter) && ltb 0 left) (suc (used_from (left - 1) cs)) 0)
        ≡ used_with (cond skipped Skipped (cond digit (Symbol (c - 48)) (cond letter (Symbol (c - 97 + 10)) Ending))) left cs
    go true digit letter = refl
    go false true letter = refl
    go false false true = refl
    go false false false = refl

module _ (c : ℕ) (cs : Bytes) where
  one-within : ((n : ℕ) → used_from n cs ≤ length cs) → (b : Byte) (n : ℕ) → used_with b n cs ≤ suc (length cs)
  unfolding used_with
  one-within h Skipped n = omega (arith, h n)
  one-within h (Symbol s) zero = omega arith
  one-within h (Symbol s) (suc n) = omega (arith, used-room s (suc n) n cs refl, h n)
  one-within h Ending n = omega arith

  module _ (fill : List ℕ) (h : (n : ℕ) → take n (symbols_of (take (used_from n cs) cs) ++ fill) ≡ take n (symbols_of cs ++ fill)) where
    one-used : (b : Byte) → byte_of c ≡ b → (n : ℕ) → take n (symbols_of (take (used_with b n cs) (c ∷ cs)) ++ fill) ≡ take n (with_byte b (symbols_of cs) ++ fill)
    unfolding symbols_of used_with with_byte
    one-used Skipped e n = rw (symbols-more c (take (used_from n cs) cs), e) (h n)
    one-used (Symbol s) e zero = refl
    one-used (Symbol s) e (suc n) = rw (used-room s (suc n) n cs refl, symbols-more c (take (used_from n cs) cs), e) (ap (λ (l : List ℕ). s ∷ l) (h n))
    one-used Ending e n = refl

used-within : (left : ℕ) (bytes : Bytes) → used_from left bytes ≤ length bytes
unfolding used_from
used-within left [] = omega arith
used-within left (c ∷ cs) = rw (used-more c left cs) (one-within c cs (λ n. used-within n cs) (byte_of c) left)

-- the used bytes have the same symbols, as far as there is room
symbols-used : (left : ℕ) (bytes : Bytes) (fill : List ℕ) → take left (symbols_of (take (used_from left bytes) bytes) ++ fill) ≡ take left (symbols_of bytes ++ fill)
unfolding used_from
symbols-used left [] fill = refl
symbols-used left (c ∷ cs) fill = rw (used-more c left cs, symbols-more c cs) (one-used c cs fill (λ n. symbols-used n cs fill) (byte_of c) refl left)

-- the name of the used bytes alone is the name of the whole string
pub used-name : (bytes : Bytes) → name_of (take (used_bytes bytes) bytes) ≡ name_of bytes
unfolding name_of used_bytes
used-name bytes = symbols-used 12 bytes (replicate 12 63)

pub used-length : (bytes : Bytes) → used_bytes bytes ≤ length bytes
unfolding used_bytes
used-length bytes = used-within 12 bytes
