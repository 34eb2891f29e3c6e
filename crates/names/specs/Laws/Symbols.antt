-- What one byte is to a name, and how the symbols of a byte string follow from it. Assumes nothing.
use Rattle.std.specs.Prelude.{ℕ, ◌+◌, ◌-◌, ◌≤◌, ◌<◌, ◌≡◌, refl, Bool, true, false, cond, ◌&&◌, List, [], ◌∷◌, leb}
use Rattle.std.proofs.Common.{ap, ◌∙◌, ⊎_elim, eq-or-lt_of_le, arith, le-leb, leb-true, ne_eqb}
use Rattle.std.proofs.lemmas.Bool.{lt-leb}
use Rattle.combine.specs.Laws.Below.{both, bad-left, bad-right, split-bool}
use Rattle.names.specs.declared.Byte.{Byte}
use Rattle.names.specs.declared.Byte.TheVariants.{Skipped, Symbol, Ending}
use Rattle.names.specs.Names.{is_skipped, is_digit, is_letter, symbols_of}

-- the case of one byte, with the tests of `symbols_of`
unfoldable pub byte_of : ℕ → Byte
byte_of c = cond (is_skipped c) Skipped (cond (is_digit c) (Symbol (c - 48)) (cond (is_letter c) (Symbol (c - 97 + 10)) Ending))

-- the symbols of a byte string, from what its first byte is and the symbols of the others
unfoldable pub with_byte : Byte → List ℕ → List ℕ
with_byte Skipped rest = rest
with_byte (Symbol s) rest = s ∷ rest
with_byte Ending rest = []

pub symbols-more : (c : ℕ) (cs : List ℕ) → symbols_of (c ∷ cs) ≡ with_byte (byte_of c) (symbols_of cs)
unfolding symbols_of byte_of with_byte
symbols-more c cs = go (is_skipped c) (is_digit c) (is_letter c)
  where
    go : (skipped digit letter : Bool) → cond skipped (symbols_of cs) (cond digit ((c - 48) ∷ symbols_of cs) (cond letter ((c - 97 + 10) ∷ symbols_of cs) []))
        ≡ with_byte (cond skipped Skipped (cond digit (Symbol (c - 48)) (cond letter (Symbol (c - 97 + 10)) Ending))) (symbols_of cs)
    go true digit letter = refl
    go false true letter = refl
    go false false true = refl
    go false false false = refl

-- ---- which byte is what
inside : (low high c : ℕ) → low ≤ c → c ≤ high → (leb low c && leb c high) ≡ true
inside low high c p q = both (le-leb low c p) (le-leb c high q)

outside : (low high c : ℕ) → (low ≤ c → high < c) → (leb low c && leb c high) ≡ false
outside low high c h =
    ⊎_elim
    (λ t. bad-right (leb low c) (leb c high) (lt-leb c high (h (leb-true low c t))))
    (λ f. bad-left (leb low c) (leb c high) f)
    (split-bool (leb low c))

unskipped : (c : ℕ) → (c ≡ 32 → ⊥) → (9 ≤ c → 10 < c) → is_skipped c ≡ false
unskipped c p q = rw (ne_eqb c 32 p, ne_eqb c 9 (λ e. omega (arith, q (omega arith))), ne_eqb c 10 (λ e. omega (arith, q (omega arith))))

module _ (c : ℕ) where
  byte-skipped : (k : ℕ) → is_skipped k ≡ true → c ≡ k → Skipped ≡ byte_of c
  unfolding byte_of
  byte-skipped k h e = rw (ap is_skipped e ∙ h)

  pub byte-space : c ≡ 32 → Skipped ≡ byte_of c
  byte-space e = byte-skipped 32 refl e

  pub byte-tab-newline : 9 ≤ c → c ≤ 10 → Skipped ≡ byte_of c
  byte-tab-newline p q =
      ⊎_elim (λ e. byte-skipped 10 refl e) (λ l. byte-skipped 9 refl (omega arith)) (eq-or-lt_of_le q)

  pub byte-digit : 48 ≤ c → c ≤ 57 → Symbol (c - 48) ≡ byte_of c
  unfolding byte_of
  byte-digit p q = rw (unskipped c (λ e. omega arith) (λ l. omega arith), inside 48 57 c p q)

  pub byte-letter : 97 ≤ c → c ≤ 122 → Symbol (c - 97 + 10) ≡ byte_of c
  unfolding byte_of
  byte-letter p q = rw (unskipped c (λ e. omega arith) (λ l. omega arith), outside 48 57 c (λ l. omega arith), inside 97 122 c p q)

  pub byte-ending : (c ≡ 32 → ⊥) → (9 ≤ c → 10 < c) → (48 ≤ c → 57 < c) → (97 ≤ c → 122 < c) → Ending ≡ byte_of c
  unfolding byte_of
  byte-ending p q r s = rw (unskipped c p q, outside 48 57 c r, outside 97 122 c s)
