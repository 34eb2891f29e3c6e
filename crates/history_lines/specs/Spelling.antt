-- The words of histories, spelt as bytes, by what follows them. Assumes nothing.
use Rattle.std.specs.Prelude.{ℕ, ◌≡◌, Bool, true, false, cond, List, [], ◌∷◌, Option, Some, None}
use Rattle.std.proofs.Math.Path.{refl}
use Rattle.std.proofs.Common.{sym, ◌∙◌}
use Rattle.history_words.specs.Words.{sameb}
use Rattle.history_lines.specs.declared.OfTwo.{OfTwo}
use Rattle.history_lines.specs.declared.OfThree.{OfThree}
use Rattle.history_lines.specs.declared.OfName.{OfName}

-- what stands beside a word in a table; nothing where the word is not in it
module _ {A : Type 0} where
  unfoldable pub found : List (List ℕ × A) → List ℕ → Option A
  found [] w = None
  found (r ∷ rows) w = cond (sameb w r.0) (Some r.1) (found rows w)

  module _ (rows : List (List ℕ × A)) (x : A) (w spelt : List ℕ) (b : Bool) (e : b ≡ sameb w spelt) where
    pub found_here : b ≡ true → Some x ≡ found ((spelt, x) ∷ rows) w
    unfolding found
    found_here t = rw (sym e ∙ t) refl

    pub found-on : (y : Option A) → b ≡ false → y ≡ found rows w → y ≡ found ((spelt, x) ∷ rows) w
    unfolding found
    found-on y t r = rw (sym e ∙ t) r

  pub found_nowhere : (w : List ℕ) → ◌≡◌ {A = Option A} None (found [] w)
  unfolding found
  found_nowhere w = refl

abbrev pub two_words : List (List ℕ × OfTwo)
two_words =
    -- close
    (99 ∷ 108 ∷ 111 ∷ 115 ∷ 101 ∷ [], OfTwo.Close)
    ∷  -- public
    (112 ∷ 117 ∷ 98 ∷ 108 ∷ 105 ∷ 99 ∷ [], OfTwo.Public)
    ∷  -- abandon
    (97 ∷ 98 ∷ 97 ∷ 110 ∷ 100 ∷ 111 ∷ 110 ∷ [], OfTwo.Abandon)
    ∷  -- reset
    (114 ∷ 101 ∷ 115 ∷ 101 ∷ 116 ∷ [], OfTwo.Reset)
    ∷  -- species
    (115 ∷ 112 ∷ 101 ∷ 99 ∷ 105 ∷ 101 ∷ 115 ∷ [], OfTwo.Species)
    ∷  -- claim
    (99 ∷ 108 ∷ 97 ∷ 105 ∷ 109 ∷ [], OfTwo.Claim)
    ∷  -- permit
    (112 ∷ 101 ∷ 114 ∷ 109 ∷ 105 ∷ 116 ∷ [], OfTwo.Permit)
    ∷  -- begin
    (98 ∷ 101 ∷ 103 ∷ 105 ∷ 110 ∷ [], OfTwo.Begin)
    ∷  -- end
    (101 ∷ 110 ∷ 100 ∷ [], OfTwo.End)
    ∷ []

abbrev pub three_words : List (List ℕ × OfThree)
three_words =
    -- next
    (110 ∷ 101 ∷ 120 ∷ 116 ∷ [], OfThree.Next)
    ∷  -- prev
    (112 ∷ 114 ∷ 101 ∷ 118 ∷ [], OfThree.Prev)
    ∷  -- new
    (110 ∷ 101 ∷ 119 ∷ [], OfThree.New)
    ∷  -- pointer
    (112 ∷ 111 ∷ 105 ∷ 110 ∷ 116 ∷ 101 ∷ 114 ∷ [], OfThree.Pointer)
    ∷  -- delete
    (100 ∷ 101 ∷ 108 ∷ 101 ∷ 116 ∷ 101 ∷ [], OfThree.Delete)
    ∷  -- symbol
    (115 ∷ 121 ∷ 109 ∷ 98 ∷ 111 ∷ 108 ∷ [], OfThree.Symbol)
    ∷  -- value
    (118 ∷ 97 ∷ 108 ∷ 117 ∷ 101 ∷ [], OfThree.Value)
    ∷  -- next_signed
    (110 ∷ 101 ∷ 120 ∷ 116 ∷ 95 ∷ 115 ∷ 105 ∷ 103 ∷ 110 ∷ 101 ∷ 100 ∷ [], OfThree.NextSigned)
    ∷  -- prev_signed
    (112 ∷ 114 ∷ 101 ∷ 118 ∷ 95 ∷ 115 ∷ 105 ∷ 103 ∷ 110 ∷ 101 ∷ 100 ∷ [], OfThree.PrevSigned)
    ∷ []

abbrev pub name_words : List (List ℕ × OfName)
name_words =
    -- work
    (119 ∷ 111 ∷ 114 ∷ 107 ∷ [], OfName.Work)
    ∷  -- read
    (114 ∷ 101 ∷ 97 ∷ 100 ∷ [], OfName.Read)
    ∷  -- rename
    (114 ∷ 101 ∷ 110 ∷ 97 ∷ 109 ∷ 101 ∷ [], OfName.Rename)
    ∷ []
