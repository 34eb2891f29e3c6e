-- A table of words looked through row by row: from a row on, it says of a word what the whole table does. Assumes nothing.
use Rattle.std.proofs.Common.{ℕ, suc, ◌+◌, ◌≤◌, ◌<◌, ◌≡◌, refl, sym, ap, ◌∙◌, Bool, true, false, cond, List, ◌∷◌, map, length, get_or, drop, drop-cons, drop_of_length-le, add-one, Some, None, Bor}
use lib.Pointwise.{pointwise}
use lib.Dec.{eqb}
use Rattle.history_words.specs.Words.{sameb}
use Rattle.history_words.specs.Laws.{same-bytes}
use Rattle.history_lines.specs.Spelling.{found}

module _ {A : Type 0} where
  abbrev read : Bor (List ℕ) × A → List ℕ × A
  read row = (row.0.now, row.1)

  found-cons : (r : List ℕ × A) (rows : List (List ℕ × A)) (w : List ℕ) (b : Bool) → sameb w r.0 ≡ b → found (r ∷ rows) w ≡ cond b (Some r.1) (found rows w)
  unfolding found
  found-cons r rows w b e = rw e refl

  drop-at : (table : List (Bor (List ℕ) × A)) (i : ℕ) (row : Bor (List ℕ) × A) → row ≡ get_or table i row → i < length table → drop i table ≡ row ∷ drop (i + 1) table
  drop-at table i row is l = rw add-one (drop-cons table i row l ∙ ap (λ x. x ∷ drop (suc i) table) (sym is))

  module _ (table : List (Bor (List ℕ) × A)) (w : List ℕ) (i : ℕ) (whole : found (map read (drop i table)) w ≡ found (map read table) w) where
    module _ (row : Bor (List ℕ) × A) (is : row ≡ get_or table i row) (l : i < length table) (b : Bool) (e : b ≡ pointwise eqb w row.0.now) where
      from-row : found (map read table) w ≡ cond b (Some row.1) (found (map read (drop (i + 1) table)) w)
      from-row =
          sym whole
          ∙ ap (λ rows. found (map read rows) w) (drop-at table i row is l)
          ∙ found-cons (read row) (map read (drop (i + 1) table)) w b (sym (e ∙ same-bytes w row.0.now))

      pub row-found : b ≡ true → Some row.1 ≡ found (map read table) w
      row-found t = sym (rw t at from-row)

      pub row-passed : b ≡ false → found (map read (drop (i + 1) table)) w ≡ found (map read table) w
      row-passed t = sym (rw t at from-row)

    pub table-passed : length table ≤ i → None ≡ found (map read table) w
    unfolding found
    table-passed l = sym (ap (λ rows. found (map read rows) w) (drop_of_length-le table l)) ∙ whole
