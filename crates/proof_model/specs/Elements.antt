-- The elements of a file whose first or last element leaves, and of one that gets a number at a position: st is the store's cells, gs the
-- file's segments, s its species, b its begin, e its end. Assumes nothing.
use Prim.Native.Nat.{ℕ, ◌+◌, ◌-◌, ◌≤◌, ◌<◌}
use native.Mathlib.Omega.{arith}
use Rattle.std.specs.Prelude.{◌≡◌, ◌≢◌, take}
use Rattle.std.proofs.Math.Path.{sym, ap}
use Rattle.std.proofs.Common.{◌∙◌, get_or-take, take_at}
use Rattle.std.proofs.Math.Logic.{⊎_elim}
use mathlib.Core.List.{List, [], ◌∷◌, ◌++◌}
use Rattle.std.proofs.Math.ListN.{length, drop}
use Rattle.combine.specs.Lists.{put, tab}
use Rattle.combine.specs.Laws.Lists.{length-tab, tab-set}
use Rattle.combine.specs.Laws.Numbers.{le-or-lt}
use Rattle.placing.specs.Sizes.{greatest_species}
use Rattle.placing.specs.Placing.{segment, position, held_of, slot_of}
use Rattle.store.specs.Store.{element_at, segment_of, elements_in}
use Rattle.combine.specs.Laws.Put.{put-within, put-at-end}
use Rattle.store.specs.Laws.Files.{element_in, length-elements, elements-ext, elements-last, elements-first}
use Rattle.placing.specs.Laws.Held.{dropped, slot-within}

module _ (st gs : List ℕ) (s : ℕ) (species : s ≤ greatest_species) (b e : ℕ) (first : 1 ≤ b) (some : b < e) where
  -- the list keeps its last segments
  pub elements-but-first : length gs ≡ held_of s b e → elements_in st (drop (length gs - held_of s (b + 1) e) gs) s (b + 1) e ≡ drop 1 (elements_in st gs s b e)
  unfolding slot_of
  elements-but-first each =
      let kept : List ℕ = drop (length gs - held_of s (b + 1) e) gs in
      let next : List ℕ = drop (slot_of s b (b + 1)) gs in
      ⊎_elim
      (λ l. elements-ext st st kept next s (b + 1) e (λ x bx xe. absurd (let y : ⊥ = omega arith in y)))
      (λ l. ap (λ (k : ℕ). elements_in st (drop k gs) s (b + 1) e) (ap (λ (n : ℕ). n - held_of s (b + 1) e) each ∙ dropped s species b first e (omega arith) l))
      (le-or-lt e (b + 1))
      ∙ sym (ap (drop 1) (elements-first st gs s b e species some))

  -- the list keeps its first segments
  pub elements-but-last : elements_in st (take (held_of s b (e - 1)) gs) s b (e - 1) ≡ take (length (elements_in st gs s b e) - 1) (elements_in st gs s b e)
  unfolding segment_of
  elements-but-last =
      let c : e - 1 + 1 ≡ e = omega arith in
      let before : List ℕ = elements_in st gs s b (e - 1) in
      let end : List ℕ = element_in st gs s b (e - 1) ∷ [] in
      let whole : elements_in st gs s b e ≡ before ++ end = ap (elements_in st gs s b) (sym c) ∙ elements-last st gs s b (e - 1) (omega arith) in
      let size : length (elements_in st gs s b e) - 1 ≡ length before = omega (arith, length-elements st gs s b e, length-elements st gs s b (e - 1)) in
      elements-ext st st (take (held_of s b (e - 1)) gs) gs s b (e - 1)
      (λ x bx xe. ap (λ (g : ℕ). element_at st s (segment g) (position x)) (get_or-take (held_of s b (e - 1)) gs (slot_of s b x) 0 (slot-within s species b first (e - 1) x bx xe)))
      ∙ sym (take_at before end (length (elements_in st gs s b e) - 1) (sym size)) ∙ ap (take (length (elements_in st gs s b e) - 1)) (sym whole)

-- ---- the number n at position v

module _ (st st' gs gs' : List ℕ) (s b e v n : ℕ) (low : b ≤ v) (new : element_in st' gs' s b v ≡ n)
    (others : (x : ℕ) → b ≤ x → x < e → x ≢ v → element_in st' gs' s b x ≡ element_in st gs s b x) where
  pub elements-replaced : v < e → elements_in st' gs' s b e ≡ put (elements_in st gs s b e) (v - b) n
  unfolding elements_in
  elements-replaced l =
      let c : b + (v - b) ≡ v = omega arith in
      let old : ℕ → ℕ = λ i. element_in st gs s b (b + i) in
      tab-set (e - b) old (λ i. element_in st' gs' s b (b + i)) (v - b) n (omega arith) (ap (element_in st' gs' s b) c ∙ new)
      (λ i k d. others (b + i) (omega arith) (omega arith) (λ q. d (omega arith)))
      ∙ sym (put-within (tab (e - b) old) (v - b) n (omega (arith, length-tab (e - b) old)))

  pub elements-appended : v ≡ e → elements_in st' gs' s b (v + 1) ≡ put (elements_in st gs s b e) (v - b) n
  elements-appended q =
      let same : elements_in st' gs' s b v ≡ elements_in st gs s b e =
      ap (elements_in st' gs' s b) q ∙ elements-ext st' st gs' gs s b e (λ x bx xe. others x bx xe (λ w. omega arith)) in
      elements-last st' gs' s b v low ∙ (λ i. same i ++ (new i ∷ []))
      ∙ sym (put-at-end (elements_in st gs s b e) (v - b) n (omega (arith, length-elements st gs s b e)))
