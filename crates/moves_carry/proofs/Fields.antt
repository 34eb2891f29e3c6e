-- The cells of a record that is used, and of the tables around it: the numbers that it holds are replaced. Assumes nothing.
use Prim.Native.Nat.{ℕ, ◌+◌, ◌-◌, ◌<◌}
use native.Mathlib.Omega.{arith}
use mathlib.Core.Path.{◌≡◌, refl, sym, ap, ◌∙◌}
use mathlib.Core.Option.{some}
use mathlib.Core.List.{List, [], ◌∷◌, ◌++◌, append_assoc}
use lib.ListN.{length, take, drop, replicate, length-append, take-append-drop}
use lib.Seq.{paste, take_at, take_all, drop_at, drop-drop, drop-append-add, length-take-le}
use Rattle.combine.specs.Lists.{part}
use Rattle.placing.specs.Sizes.{places, tables_length}
use Rattle.rules.specs.Headings.{Heading}
use Rattle.segments.specs.Free.{SegmentRecord}
use Rattle.tables.specs.Layout.{record_base, record_cells}
use Rattle.tables.specs.Handles.{bit}
use Rattle.tables.specs.Laws.Again.{numbers-again}
use Rattle.cells.specs.Says.{in_places, as_record}

-- ---- the middle of a list is replaced

paste-mid : (x y w m : List ℕ) (a n : ℕ) → length x ≡ a → length y ≡ n → length m ≡ n → paste (x ++ (y ++ w)) a m n ≡ x ++ (m ++ w)
paste-mid x y w m a n lx ly lm =
    let after : drop (a + n) (x ++ (y ++ w)) ≡ w =
    ap (λ (k : ℕ). drop (k + n) (x ++ (y ++ w))) (sym lx) ∙ drop-append-add x (y ++ w) n ∙ drop_at y w n ly in
    (λ i. (take_at x (y ++ w) a lx i ++ take_all n m (omega arith) i) ++ after i)
    ∙ append_assoc x m w

-- ---- the cells of a record that is used

unfoldable pub front : Heading → List ℕ
front h = 1 ∷ (h.name ++ (h.owner ∷ bit h.private ∷ h.species ∷ h.begin ∷ h.end ∷ []))

unfoldable pub zeros : List ℕ → List ℕ
zeros l = replicate (32 - length l) 0

pub cells_of : (q : SegmentRecord) → record_cells (as_record (some q)) ≡ front q.head ++ (q.content ++ zeros q.content)
unfolding record_cells as_record in_places front zeros
cells_of q =
    let h = q.head in
    let l = q.content in
    ap (λ (x : List ℕ). 1 ∷ (h.name ++ (h.owner ∷ bit h.private ∷ h.species ∷ h.begin ∷ h.end ∷ x))) (numbers-again (l ++ replicate (32 - length l) 0))
    ∙ ap (λ (x : List ℕ). 1 ∷ x) (sym (append_assoc h.name (h.owner ∷ bit h.private ∷ h.species ∷ h.begin ∷ h.end ∷ []) (l ++ replicate (32 - length l) 0)))

pub length_front : (h : Heading) → length h.name ≡ 12 → length (front h) ≡ 18
unfolding front
length_front h e = let a = length-append h.name (h.owner ∷ bit h.private ∷ h.species ∷ h.begin ∷ h.end ∷ []) in omega arith

-- ---- a row of the tables

module _ (t : List ℕ) (long : length t ≡ tables_length) (p : ℕ) (lp : p < places) where
  around : take (record_base p) t ++ (part t (record_base p) 50 ++ drop (record_base p + 50) t) ≡ t
  unfolding part
  around =
      ap (λ (x : List ℕ). take (record_base p) t ++ (take 50 (drop (record_base p) t) ++ x)) (sym (drop-drop 50 (record_base p) t))
      ∙ ap (λ (x : List ℕ). take (record_base p) t ++ x) (take-append-drop 50 (drop (record_base p) t))
      ∙ take-append-drop (record_base p) t

  -- the cells c of the record, in front and after its numbers
  pub replaced : (P L Z M : List ℕ) → part t (record_base p) 50 ≡ P ++ (L ++ Z) → length P ≡ 18 → length M ≡ length L → length (P ++ (L ++ Z)) ≡ 50
      → paste t (record_base p + 18) M (length L) ≡ paste t (record_base p) (P ++ (M ++ Z)) 50
  replaced P L Z M e l_p l_m lc =
      let A : List ℕ = take (record_base p) t in
      let B : List ℕ = drop (record_base p + 50) t in
      let l_a : length (take (record_base p) t) ≡ record_base p = length-take-le (record_base p) t (omega arith) in
      let whole : take (record_base p) t ++ ((P ++ (L ++ Z)) ++ drop (record_base p + 50) t) ≡ t =
      ap (λ (x : List ℕ). take (record_base p) t ++ (x ++ drop (record_base p + 50) t)) (sym e) ∙ around in
      let inner : (K : List ℕ) → take (record_base p) t ++ ((P ++ (K ++ Z)) ++ drop (record_base p + 50) t) ≡ (take (record_base p) t ++ P) ++ (K ++ (Z ++ drop (record_base p + 50) t)) =
      λ K. ap (λ (x : List ℕ). take (record_base p) t ++ x) (append_assoc P (K ++ Z) (drop (record_base p + 50) t) ∙ ap (λ (x : List ℕ). P ++ x) (append_assoc K Z (drop (record_base p + 50) t)))
      ∙ sym (append_assoc (take (record_base p) t) P (K ++ (Z ++ drop (record_base p + 50) t))) in
      let l_n : length (P ++ (M ++ Z)) ≡ 50 =
      (let a = length-append P (M ++ Z) in let b = length-append M Z in let c = length-append P (L ++ Z) in let d = length-append L Z in omega arith) in
      let l_ap : length (take (record_base p) t ++ P) ≡ record_base p + 18 = (let a = length-append (take (record_base p) t) P in omega arith) in
      ap (λ (x : List ℕ). paste x (record_base p + 18) M (length L)) (sym whole ∙ inner L)
      ∙ paste-mid (take (record_base p) t ++ P) L (Z ++ drop (record_base p + 50) t) M (record_base p + 18) (length L) l_ap refl l_m
      ∙ sym (inner M)
      ∙ sym (paste-mid (take (record_base p) t) (P ++ (L ++ Z)) (drop (record_base p + 50) t) (P ++ (M ++ Z)) (record_base p) 50 l_a lc l_n)
      ∙ ap (λ (x : List ℕ). paste x (record_base p) (P ++ (M ++ Z)) 50) whole
