-- What comes of a text that is cut at a pattern stands in the text. Assumes nothing.
use Rattle.std.proofs.Common.{ℕ, ◌<◌, ◌≡◌, ◌⊎◌, inl, inr, ⊎_elim, refl, sym, ap, subst, ◌∙◌, arith, lit<}
use Rattle.std.proofs.Common.{Bool, true, false, true≢false, eqb, Option, Some, None, IsSomeAnd, MatchOption, Bor}
use Rattle.std.proofs.Common.{List, [], ◌∷◌, ◌++◌, length, get_or, take, drop}
use Rattle.std.proofs.Common.{take_all, append_assoc, append-nil, take-append-drop}
use Rattle.std.specs.Char.{len_utf8}
use Rattle.std.specs.Iterator.{Yields}
use Rattle.std.specs.Iterator.Runs.{AllItems, EachRunFrom}
use Rattle.std.specs.List.{slice_split, position_or_len}
use Rattle.std.specs.Str.Iter.{HasSubslice, split_steps, split_text, split_has_more, split_pattern}
use Rattle.std.specs.Str.Pattern.{FindsChar, FindsText, IsSplitAtFirstMatch}
use Rattle.std.specs.declared.str.Split.{Split}
use Rattle.std.proofs.iter.runs.Lists.{Everywhere, one_more}
use Rattle.std.proofs.iter.runs.Made.{took, each}
use Rattle.std.proofs.lemmas.Bool.{cases_lt}
use Rattle.std.proofs.lemmas.Iterator.Consumers.{YieldsList-turn}
use Rattle.std.proofs.lemmas.Iterator.Splits.{YieldsList-from_str_split}
use Rattle.std.proofs.lemmas.List.Splits.{slice_split_first, slice_split_none}
use Rattle.std.proofs.lemmas.List.Sums.{fails_before_first}
use Rattle.history_faults.specs.Parts.{first_word}

whole : (w : List ℕ) → HasSubslice w w
whole w = ([], [], sym (append-nil w))

front : (n : ℕ) (w : List ℕ) → HasSubslice w (take n w)
front n w = ([], drop n w, sym (take-append-drop n w))

after : (n : ℕ) (w x : List ℕ) → HasSubslice (drop n w) x → HasSubslice w x
after n w x h =
    let moved = ap (λ y. take n w ++ y) h.2 in
    (take n w ++ h.0, h.1, sym (take-append-drop n w) ∙ moved ∙ sym (append_assoc (take n w) h.0 (x ++ h.1)))

-- a pattern that is Fit stays so, and no match of it is empty
module _ {P : Type 0} (finds : P → List ℕ → Option (ℕ × ℕ) → Type 0) (keeps : P → P → Type 0) (Fit : P → Type 0)
    (stays : (p q : P) → Fit p → keeps p q → Fit q)
    (some : (p : P) (w : List ℕ) (q : ℕ × ℕ) → Fit p → finds p w (Some q) → 0 < q.1) where
  -- a part that is cut off stands in the text, as what stands in the rest does, if there is a rest
  module _ (p : P) (w x : List ℕ) (live : Bool) (rest : List ℕ) (fit : Fit p) where
    abbrev Cut : Type 0
    Cut = HasSubslice w x × ((live ≡ false) ⊎ ((y : List ℕ) → HasSubslice rest y → HasSubslice w y))

    abbrev Ends : ℕ × ℕ → Type 0
    Ends q = 0 < q.1 → (x ≡ take q.0 w) × (live ≡ true) × (rest ≡ drop q.1 w)

    cut_at : (o : Option (ℕ × ℕ)) → finds p w o → MatchOption o ((x ≡ w) × (live ≡ false)) Ends → Cut
    cut_at None f m = (subst (HasSubslice w) (sym m.0) (whole w), inl m.1)
    cut_at (Some q) f m =
        let ends = m (some p w q fit f) in (
          subst (HasSubslice w) (sym ends.0) (front q.0 w),
          inr (λ y h. after q.1 w y (subst (λ r. HasSubslice r y) ends.2 h)),
        )

    cut : IsSplitAtFirstMatch (finds p) w x live rest → Cut
    cut h = cut_at h.1.0 h.1.1 h.1.2

  abbrev Steps : Split P → List (Bor (List ℕ)) → Split P → Type 0
  Steps = Yields (split_steps finds keeps)

  -- nothing comes once no rest is left
  ended : (Q : Bor (List ℕ) → Type 0) (xs : List (Bor (List ℕ))) (s t : Split P) → split_has_more s ≡ false
      → Steps s xs t → Everywhere xs Q
  ended Q [] s t e y = λ k. tt
  ended Q (x ∷ xs) s t e y = absurd (true≢false (y.1.0 ∙ e))

  -- each part that comes stands in any text that all of what is left stands in
  parts : (text : List ℕ) (xs : List (Bor (List ℕ))) (s t : Split P) → Fit (split_pattern s)
      → ((y : List ℕ) → HasSubslice (split_text s) y → HasSubslice text y) → Steps s xs t
      → Everywhere xs (λ x. HasSubslice text x.now)
  parts text [] s t fit within y = λ k. tt
  parts text (x ∷ xs) s t fit within y =
      let Q : Bor (List ℕ) → Type 0 = λ z. HasSubslice text z.now in
      let here = cut (split_pattern s) (split_text s) x.now (split_has_more y.0) (split_text y.0) fit y.1.1.1 in
      one_more Q x xs (within x.now here.0)
      (⊎_elim
      (λ e. ended Q xs y.0 t e y.2)
      (λ on. parts text xs y.0 t (stays _ _ fit y.1.1.0) (λ z h. within z (on z h)) y.2)
      here.1)

  inside : (text : List ℕ) (s : Split P) → split_text s ≡ text → Fit (split_pattern s)
      → EachRunFrom (split_steps finds keeps) s (λ run. AllItems run (λ part. HasSubslice text part.now))
  inside text s is fit run _ from =
      let fits = subst (λ r. Fit (split_pattern r)) (sym from) fit in
      let same = ap split_text from ∙ is in
      let came = took run in
      each run (λ part. HasSubslice text part.now)
      (parts text run.items run.from came.0 fits (λ y h. subst (λ w. HasSubslice w y) same h) came.1)

-- the parts of a text that is cut at a character
pub inside_at_char : (text : List ℕ) (s : Split ℕ) → split_text s ≡ text → 0 < len_utf8 (split_pattern s)
    → EachRunFrom (split_steps FindsChar (λ a b. b ≡ a)) s (λ run. AllItems run (λ part. HasSubslice text part.now))
inside_at_char =
    inside FindsChar (λ a b. b ≡ a) (λ a. 0 < len_utf8 a) (λ a b h k. subst (λ d. 0 < len_utf8 d) (sym k) h)
    (λ a w q h f. omega (arith, h, f.1.ends))

-- the parts of a text that is cut at a text
abbrev pub pattern_of : Split (Bor (List ℕ)) → List ℕ
pattern_of s = let p : Bor (List ℕ) = split_pattern s in p.now

pub inside_at_text : (text : List ℕ) (s : Split (Bor (List ℕ))) → split_text s ≡ text → 0 < length (pattern_of s)
    → EachRunFrom (split_steps (λ a. FindsText a.now) (λ a b. b.now ≡ a.now)) s
    (λ run. AllItems run (λ part. HasSubslice text part.now))
inside_at_text =
    inside (λ a. FindsText a.now) (λ a b. b.now ≡ a.now) (λ a. 0 < length a.now)
    (λ a b h k. subst (λ d. 0 < length d) (sym k) h) (λ a w q h f. omega (arith, h, f.1.ends))

-- the first part of a text that is cut at its spaces
abbrev is_space : ℕ → Bool
is_space byte = eqb byte 32

head_part : (w d : List ℕ) → get_or (slice_split is_space w) 0 d ≡ first_word w
head_part w d =
    ⊎_elim
    (λ l. ap (λ all. get_or all 0 d) (slice_split_first is_space w 0 l))
    (λ l. let none = slice_split_none is_space w (λ k e m. fails_before_first is_space w k e (omega arith)) in
    ap (λ all. get_or all 0 d) none ∙ sym (take_all (position_or_len is_space w) w l))
    (cases_lt (position_or_len is_space w) (length w))

pub first_part : (w : List ℕ) (s t : Split ℕ) (r : Option (Bor (List ℕ))) → split_text s ≡ w → split_has_more s ≡ true
    → split_pattern s ≡ 32 → split_steps FindsChar (λ a b. b ≡ a) s r t → IsSomeAnd r (λ part. part.now ≡ first_word w)
first_part w s t None text more pattern h = absurd (true≢false (sym (h.0 ∙ more)))
first_part w s t (Some x) text more pattern h =
    let all = YieldsList-from_str_split 32 w (lit< tt) text more pattern in
    (YieldsList-turn all [] s refl (Some x) t x refl h).1 ∙ head_part w x.now
