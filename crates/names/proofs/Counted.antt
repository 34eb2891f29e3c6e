-- The bytes of a name counted, while a byte string is read. Assumes nothing.
use Prim.Native.Nat.{ℕ, ◌+◌, ◌-◌, ◌≤◌, ◌<◌}
use mathlib.Core.Path.{◌≡◌, sym, ap, ◌∙◌}
use mathlib.Core.List.{◌∷◌}
use native.Mathlib.Numerals.{add-one}
use native.Mathlib.Omega.{arith}
use lib.ListN.{length, get_or, drop, drop_of_length-le}
use lib.Seq.{drop-cons}
use Rattle.names.specs.declared.Byte.{Byte}
use Rattle.names.specs.declared.Byte.TheVariants.{Skipped, Symbol, Ending}
use Rattle.names.specs.Names.{Bytes, used_from, used_bytes}
use Rattle.names.specs.Laws.Symbols.{byte_of}
use Rattle.names.specs.Laws.Used.{used_with, used-more, used-room}

-- the loop's facts: the bytes before i are used, and there is room for `left` symbols more
pub record Counting (bytes : Bytes) (left i : ℕ) : Type 0 where
  pub read : i ≤ length bytes
  pub whole : i + used_from left (drop i bytes) ≡ used_bytes bytes

pub none-counted : (bytes : Bytes) → Counting bytes 12 0
unfolding used_bytes
none-counted bytes = record { read = omega arith; whole = omega arith }

module _ (bytes : Bytes) (left i : ℕ) (r : Counting bytes left i) where
  pub all-counted : length bytes ≤ i → i ≡ used_bytes bytes
  unfolding used_from
  all-counted h =
      let e : used_from left (drop i bytes) ≡ 0 = ap (used_from left) (drop_of_length-le bytes h) in
      omega (arith, r.whole)

  module _ (more : i < length bytes) (b : Byte) (e : byte_of (get_or bytes i 0) ≡ b) where
    next : i + used_with b left (drop (i + 1) bytes) ≡ used_bytes bytes
    next =
        let d : drop i bytes ≡ get_or bytes i 0 ∷ drop (i + 1) bytes = rw (add-one i) (drop-cons bytes i 0 more) in
        let u = ap (used_from left) d ∙ used-more (get_or bytes i 0) left (drop (i + 1) bytes) ∙ ap (λ x. used_with x left (drop (i + 1) bytes)) e in
        sym (ap (λ (n : ℕ). i + n) u) ∙ r.whole

  module _ (more : i < length bytes) where
    pub skipped-counted : byte_of (get_or bytes i 0) ≡ Skipped → Counting bytes left (i + 1)
    unfolding used_with
    skipped-counted e = record { read = omega arith; whole = omega (arith, next more Skipped e) }

    pub symbol-counted : (s : ℕ) → byte_of (get_or bytes i 0) ≡ Symbol s → (left ≡ 0 → ⊥) → Counting bytes (left - 1) (i + 1)
    symbol-counted s e h =
        let u = used-room s left (left - 1) (drop (i + 1) bytes) (omega (arith, h)) in
        record { read = omega arith; whole = omega (arith, next more (Symbol s) e) }

    pub no_room : (s : ℕ) → byte_of (get_or bytes i 0) ≡ Symbol s → left ≡ 0 → i ≡ used_bytes bytes
    unfolding used_with
    no_room s e h =
        let u : used_with (Symbol s) left (drop (i + 1) bytes) ≡ 0 = rw h in
        omega (arith, next more (Symbol s) e)

    pub ending-left : byte_of (get_or bytes i 0) ≡ Ending → i ≡ used_bytes bytes
    unfolding used_with
    ending-left e = omega (arith, next more Ending e)
