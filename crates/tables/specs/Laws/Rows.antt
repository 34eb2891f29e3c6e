-- A row of cells is the cells of the record or the opening that it says: what is put back unchanged changes nothing. Assumes nothing.
use Rattle.std.specs.Prelude.{ℕ, suc, ◌+◌, ◌≤◌, ◌<◌, ◌≡◌, take, drop}
use Rattle.std.proofs.Common.{sym, ◌∙◌, take-append-drop, length-drop, drop-cons, drop-drop, take_all}
use Rattle.std.proofs.Math.Path.{ap}
use mathlib.Core.List.{List, ◌∷◌, ◌++◌, append_assoc}
use native.Mathlib.Omega.{arith}
use Rattle.std.proofs.Math.ListN.{length, get_or}
use Rattle.std.proofs.Math.Seq.{paste}
use Rattle.combine.specs.Lists.{part}
use Rattle.combine.specs.Laws.Parts.{length_part}
use Rattle.placing.specs.Sizes.{tables_length, entries, places, most_held, name_symbols, all_pointers, record_length, opening_length}
use Rattle.tables.specs.Layout.{record_base, opening_base, record_of, record_cells, record_at, put_record, opening_of, opening_cells, opening_at, put_opening}
use Rattle.tables.specs.Laws.Again.{numbers-again, values-again}

-- a part, and what comes after it
part-more : (l : List ℕ) (a n : ℕ) → part l a n ++ drop (a + n) l ≡ drop a l
unfolding part
part-more l a n = ap (λ (x : List ℕ). take n (drop a l) ++ x) (sym (drop-drop n a l)) ∙ take-append-drop n (drop a l)

-- the last part
part-last : (l : List ℕ) (a n : ℕ) → length l ≡ a + n → part l a n ≡ drop a l
unfolding part
part-last l a n e = take_all n (drop a l) (let d = length-drop a l in omega arith)

one_more : (l : List ℕ) (k : ℕ) → k < length l → get_or l k 0 ∷ drop (suc k) l ≡ drop k l
one_more l k h = sym (drop-cons l k 0 h)

module _ (c : List ℕ) where
  pub record-row : length c ≡ record_length → record_cells (record_of c) ≡ c
  unfolding record_of record_cells
  record-row e =
      ap (λ (x : List ℕ). get_or c 0 0 ∷ (part c 1 name_symbols ++ (get_or c 13 0 ∷ get_or c 14 0 ∷ get_or c 15 0 ∷ get_or c 16 0 ∷ get_or c 17 0 ∷ x)))
      (numbers-again (part c 18 most_held) ∙ part-last c 18 most_held e)
      ∙ ap (λ (x : List ℕ). get_or c 0 0 ∷ (part c 1 name_symbols ++ x))
      (ap (λ (x : List ℕ). get_or c 13 0 ∷ get_or c 14 0 ∷ get_or c 15 0 ∷ get_or c 16 0 ∷ x) (one_more c 17 (omega arith))
      ∙ ap (λ (x : List ℕ). get_or c 13 0 ∷ get_or c 14 0 ∷ get_or c 15 0 ∷ x) (one_more c 16 (omega arith))
      ∙ ap (λ (x : List ℕ). get_or c 13 0 ∷ get_or c 14 0 ∷ x) (one_more c 15 (omega arith))
      ∙ ap (λ (x : List ℕ). get_or c 13 0 ∷ x) (one_more c 14 (omega arith))
      ∙ one_more c 13 (omega arith))
      ∙ ap (λ (x : List ℕ). get_or c 0 0 ∷ x) (part-more c 1 name_symbols) ∙ one_more c 0 (omega arith)

  pub opening-row : length c ≡ opening_length → opening_cells (opening_of c) ≡ c
  unfolding opening_of opening_cells
  opening-row e =
      ap (λ (x : List ℕ). get_or c 0 0 ∷ get_or c 1 0 ∷ get_or c 2 0 ∷ get_or c 3 0 ∷ x)
      ((λ i. values-again (part c 4 all_pointers) i ++ (part c 12 name_symbols ++ (numbers-again (part c 24 most_held) ∙ part-last c 24 most_held e) i))
      ∙ ap (λ (x : List ℕ). part c 4 all_pointers ++ x) (part-more c 12 name_symbols) ∙ part-more c 4 all_pointers)
      ∙ ap (λ (x : List ℕ). get_or c 0 0 ∷ get_or c 1 0 ∷ get_or c 2 0 ∷ x) (one_more c 3 (omega arith))
      ∙ ap (λ (x : List ℕ). get_or c 0 0 ∷ get_or c 1 0 ∷ x) (one_more c 2 (omega arith))
      ∙ ap (λ (x : List ℕ). get_or c 0 0 ∷ x) (one_more c 1 (omega arith))
      ∙ one_more c 0 (omega arith)

-- a part that is pasted where it stood
part-again : (t : List ℕ) (at n : ℕ) → at + n ≤ length t → paste t at (part t at n) n ≡ t
part-again t at n h =
    let l = length_part t at n h in
    append_assoc (take at t) (take n (part t at n)) (drop (at + n) t)
    ∙ ap (λ (x : List ℕ). take at t ++ (x ++ drop (at + n) t)) (take_all n (part t at n) (omega arith))
    ∙ ap (λ (x : List ℕ). take at t ++ x) (part-more t at n) ∙ take-append-drop at t

module _ (t : List ℕ) (long : length t ≡ tables_length) where
  pub put-record-again : (p : ℕ) → p < places → put_record t p (record_at t p) ≡ t
  unfolding put_record record_at
  put-record-again p lp =
      let h : record_base p + record_length ≤ length t = omega arith in
      ap (λ (x : List ℕ). paste t (record_base p) x record_length) (record-row (part t (record_base p) record_length) (length_part t (record_base p) record_length h)) ∙ part-again t (record_base p) record_length h

  pub put-opening-again : (i : ℕ) → i < entries → put_opening t i (opening_at t i) ≡ t
  unfolding put_opening opening_at
  put-opening-again i li =
      let h : opening_base i + opening_length ≤ length t = omega arith in
      ap (λ (x : List ℕ). paste t (opening_base i) x opening_length) (opening-row (part t (opening_base i) opening_length) (length_part t (opening_base i) opening_length h)) ∙ part-again t (opening_base i) opening_length h
