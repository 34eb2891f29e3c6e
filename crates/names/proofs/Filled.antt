-- A name that is filled symbol by symbol, while a byte string is read. Assumes nothing.
use Prim.Native.Nat.{ℕ, zero, suc, ◌+◌, ◌-◌, ◌≤◌, ◌<◌}
use mathlib.Core.Path.{◌≡◌, refl, sym, ap, ◌∙◌}
use mathlib.Core.List.{List, [], ◌∷◌, ◌++◌, append_assoc}
use native.Mathlib.Nat.{not-suc-le-zero, le_of_suc-le-suc}
use native.Mathlib.Numerals.{add-one}
use native.Mathlib.Omega.{arith}
use lib.ListN.{length, get_or, take, drop, set, replicate, length-set, take-append-drop, drop_of_length-le}
use lib.Seq.{take-suc-set, drop-set-lt, drop-drop, drop-cons, length-take-le, take-append-add, take_at, take_all}
use Rattle.names.specs.declared.Byte.TheVariants.{Skipped, Symbol, Ending}
use Rattle.names.specs.Names.{symbols_of, name_of}
use Rattle.names.specs.Laws.Symbols.{byte_of, with_byte, symbols-more}

-- the name of which `count` symbols stand in place, and those of `left` are to follow
unfoldable pub filled : List ℕ → ℕ → List ℕ → List ℕ
filled name count left = take 12 (take count name ++ (left ++ replicate 12 63))

take-replicate : (n m a : ℕ) → n ≤ m → take n (replicate m a) ≡ replicate n a
take-replicate zero m a h = refl
take-replicate (suc n) zero a h = absurd (not-suc-le-zero h)
take-replicate (suc n) (suc m) a h = ap (λ (l : List ℕ). a ∷ l) (take-replicate n m a (le_of_suc-le-suc h))

module _ (name : List ℕ) (count : ℕ) (size : length name ≡ 12) where
  -- no symbol follows
  filled_none : count ≤ 12 → drop count name ≡ replicate (12 - count) 63 → filled name count [] ≡ name
  unfolding filled
  filled_none h rest =
      let front : length (take count name) ≡ count = length-take-le count name (omega arith) in
      let e : 12 ≡ length (take count name) + (12 - count) = omega arith in
      ap (λ (n : ℕ). take n (take count name ++ replicate 12 63)) e
      ∙ take-append-add (take count name) (replicate 12 63) (12 - count)
      ∙ ap (λ (l : List ℕ). take count name ++ l) (take-replicate (12 - count) 12 63 (omega arith) ∙ sym rest)
      ∙ take-append-drop count name

  -- one symbol follows, and is put into place
  filled-one : count < 12 → (symbol : ℕ) (left : List ℕ) → filled name count (symbol ∷ left) ≡ filled (set name count symbol) (count + 1) left
  unfolding filled
  filled-one h symbol left =
      let p : take (count + 1) (set name count symbol) ≡ take count name ++ (symbol ∷ []) =
      ap (λ (n : ℕ). take n (set name count symbol)) (add-one count) ∙ take-suc-set name count symbol (omega arith) in
      ap (take 12) (sym (ap (λ (l : List ℕ). l ++ (left ++ replicate 12 63)) p ∙ append_assoc (take count name) (symbol ∷ []) (left ++ replicate 12 63)))

  -- all places are taken
  filled-all : (left : List ℕ) → count ≡ 12 → filled name count left ≡ name
  unfolding filled
  filled-all left e =
      let whole : take count name ≡ name = take_all count name (omega arith) in
      ap (λ (l : List ℕ). take 12 (l ++ (left ++ replicate 12 63))) whole ∙ take_at name (left ++ replicate 12 63) 12 size

  -- the places after the next one
  rest-less : count < 12 → (symbol : ℕ) → drop count name ≡ replicate (12 - count) 63 → drop (count + 1) (set name count symbol) ≡ replicate (12 - (count + 1)) 63
  rest-less h symbol rest =
      let e : 12 - count ≡ suc (12 - (count + 1)) = omega arith in
      drop-set-lt (count + 1) name count symbol (omega arith) ∙ sym (drop-drop 1 count name) ∙ ap (drop 1) (rest ∙ ap (λ (n : ℕ). replicate n 63) e)

-- the loop's facts: the symbols of the bytes before i stand in the first `count` places of the name, and the others
-- are 63
pub record Reading (bytes name : List ℕ) (count i : ℕ) : Type 0 where
  pub read : i ≤ length bytes
  pub room : count < 12
  pub size : length name ≡ 12
  pub rest : drop count name ≡ replicate (12 - count) 63
  pub whole : name_of bytes ≡ filled name count (symbols_of (drop i bytes))

pub started : (bytes : List ℕ) → Reading bytes (replicate 12 63) 0 0
unfolding name_of filled
started bytes = record { read = omega arith; room = omega arith; size = refl; rest = refl; whole = refl }

module _ (bytes name : List ℕ) (count i : ℕ) (r : Reading bytes name count i) where
  pub all_read : length bytes ≤ i → name ≡ name_of bytes
  unfolding symbols_of
  all_read h =
      sym (r.whole ∙ ap (λ (l : List ℕ). filled name count (symbols_of l)) (drop_of_length-le bytes h) ∙ filled_none name count r.size (omega arith) r.rest)

  module _ (more : i < length bytes) where
    next : name_of bytes ≡ filled name count (with_byte (byte_of (get_or bytes i 0)) (symbols_of (drop (i + 1) bytes)))
    next =
        let e : drop i bytes ≡ get_or bytes i 0 ∷ drop (i + 1) bytes = rw (add-one i) (drop-cons bytes i 0 more) in
        r.whole ∙ ap (filled name count) (ap symbols_of e ∙ symbols-more (get_or bytes i 0) (drop (i + 1) bytes))

    pub skipped : byte_of (get_or bytes i 0) ≡ Skipped → Reading bytes name count (i + 1)
    unfolding with_byte
    skipped e =
        record {
          read = omega arith;
          room = r.room;
          size = r.size;
          rest = r.rest;
          whole = next ∙ ap (λ b. filled name count (with_byte b (symbols_of (drop (i + 1) bytes)))) e;
        }

    pub ended : byte_of (get_or bytes i 0) ≡ Ending → name ≡ name_of bytes
    unfolding with_byte
    ended e =
        sym (next ∙ ap (λ b. filled name count (with_byte b (symbols_of (drop (i + 1) bytes)))) e ∙ filled_none name count r.size (omega arith) r.rest)

    module _ (symbol : ℕ) (e : byte_of (get_or bytes i 0) ≡ Symbol symbol) where
      placed : name_of bytes ≡ filled (set name count symbol) (count + 1) (symbols_of (drop (i + 1) bytes))
      unfolding with_byte
      placed =
          next ∙ ap (λ b. filled name count (with_byte b (symbols_of (drop (i + 1) bytes)))) e
          ∙ filled-one name count r.size r.room symbol (symbols_of (drop (i + 1) bytes))

      pub one_more : (count + 1 ≡ 12 → ⊥) → Reading bytes (set name count symbol) (count + 1) (i + 1)
      one_more h =
          record {
            read = omega arith;
            room = omega arith;
            size = length-set name count symbol ∙ r.size;
            rest = rest-less name count r.size r.room symbol r.rest;
            whole = placed;
          }

      pub twelve : count + 1 ≡ 12 → set name count symbol ≡ name_of bytes
      twelve h =
          sym (placed ∙ filled-all (set name count symbol) (count + 1) (length-set name count symbol ∙ r.size) (symbols_of (drop (i + 1) bytes)) h)
