-- A record or an opening that is put into the cells t of the tables is found there, and all else stays. Assumes nothing.
use Rattle.std.specs.Prelude.{ℕ, ◌+◌, ◌≤◌, ◌<◌, ◌≡◌, ◌≢◌, List}
use Rattle.std.proofs.Math.Path.{ap}
use Rattle.std.proofs.Common.{◌∙◌, ⊎_elim, arith}
use Rattle.std.proofs.Math.Logic.{inl, inr}
use Rattle.std.proofs.Math.ListN.{length, length-map}
use Rattle.std.proofs.Math.Seq.{length-paste}
use Rattle.combine.specs.Laws.Numbers.{less-or-more}
use Rattle.combine.specs.Lists.{part}
use Rattle.combine.specs.Laws.Parts.{length_part, paste-below, paste-over, part-pasted, part-kept}
use Rattle.placing.specs.Placing.{segment, position}
use Rattle.placing.specs.Sizes.{tables_length, entries, places, most_held, name_symbols, all_pointers, record_length, opening_length}
use Rattle.tables.specs.declared.Record.{Record}
use Rattle.tables.specs.declared.Opening.{Opening}
use Rattle.tables.specs.Layout.{record_base, opening_base, segments_in, record_of, record_cells, record_at, put_record, opening_of, opening_cells, opening_at, put_opening}
use Rattle.tables.specs.Laws.Again.{ShapedRecord, ShapedOpening, length-record, record-again, length-opening, opening-again}

module _ (t : List ℕ) (long : length t ≡ tables_length) where
  module _ (p : ℕ) (r : Record) (lp : p < places) (w : ShapedRecord r) where
    hs : record_length ≤ length (record_cells r)
    hs = let l = length-record r w in omega arith

    hd : record_base p + record_length ≤ length t
    hd = omega arith

    pub length-put-record : length (put_record t p r) ≡ length t
    unfolding put_record
    length-put-record = length-paste t (record_base p) (record_cells r) record_length hd hs

    pub record-put : record_at (put_record t p r) p ≡ r
    unfolding record_at put_record
    record-put = ap record_of (part-pasted t (record_base p) (record_cells r) record_length hd hs (length-record r w)) ∙ record-again r w

    pub record-other : (q : ℕ) → q < places → q ≢ p → record_at (put_record t p r) q ≡ record_at t q
    unfolding record_at put_record
    record-other q lq d = ap record_of (part-kept t (record_base p) (record_cells r) record_length hd hs (record_base q) record_length (omega arith) (⊎_elim (λ h. inl (omega arith)) (λ h. inr (omega arith)) (less-or-more q p d)))

    pub opening-kept : (i : ℕ) → i < entries → opening_at (put_record t p r) i ≡ opening_at t i
    unfolding opening_at put_record
    opening-kept i li = ap opening_of (part-kept t (record_base p) (record_cells r) record_length hd hs (opening_base i) opening_length (omega arith) (inr (omega arith)))

    pub segments-kept : segments_in (put_record t p r) ≡ segments_in t
    unfolding put_record
    segments-kept = paste-below t (record_base p) (record_cells r) record_length hd hs 0 (omega arith)

  module _ (i : ℕ) (o : Opening) (li : i < entries) (w : ShapedOpening o) where
    hs' : opening_length ≤ length (opening_cells o)
    hs' = let l = length-opening o w in omega arith

    hd' : opening_base i + opening_length ≤ length t
    hd' = omega arith

    pub length-put-opening : length (put_opening t i o) ≡ length t
    unfolding put_opening
    length-put-opening = length-paste t (opening_base i) (opening_cells o) opening_length hd' hs'

    pub opening-put : opening_at (put_opening t i o) i ≡ o
    unfolding opening_at put_opening
    opening-put = ap opening_of (part-pasted t (opening_base i) (opening_cells o) opening_length hd' hs' (length-opening o w)) ∙ opening-again o w

    pub opening-over : (q : Opening) → put_opening (put_opening t i o) i q ≡ put_opening t i q
    unfolding put_opening
    opening-over q = paste-over t (opening_base i) (opening_cells o) opening_length hd' hs' (opening_cells q)

    pub opening-other : (j : ℕ) → j < entries → j ≢ i → opening_at (put_opening t i o) j ≡ opening_at t j
    unfolding opening_at put_opening
    opening-other j lj d =
        ap opening_of (part-kept t (opening_base i) (opening_cells o) opening_length hd' hs' (opening_base j) opening_length (omega arith) (⊎_elim (λ h. inl (omega arith)) (λ h. inr (omega arith)) (less-or-more j i d)))

    pub record-kept : (p : ℕ) → p < places → record_at (put_opening t i o) p ≡ record_at t p
    unfolding record_at put_opening
    record-kept p lp = ap record_of (part-kept t (opening_base i) (opening_cells o) opening_length hd' hs' (record_base p) record_length (omega arith) (inl (omega arith)))

    pub segments-stay : segments_in (put_opening t i o) ≡ segments_in t
    unfolding put_opening
    segments-stay = paste-below t (opening_base i) (opening_cells o) opening_length hd' hs' 0 (omega arith)

  -- what stands in the tables has the lengths of the arrays
  pub record-shaped-at : (p : ℕ) → p < places → ShapedRecord (record_at t p)
  unfolding record_at record_of
  record-shaped-at p lp =
      let c : length (part t (record_base p) record_length) ≡ record_length = length_part t (record_base p) record_length (omega arith) in
      record {
        name12 = length_part (part t (record_base p) record_length) 1 name_symbols (omega arith);
        segments32 = length-map (part (part t (record_base p) record_length) 18 most_held) segment ∙ length_part (part t (record_base p) record_length) 18 most_held (omega arith);
      }

  pub opening-shaped-at : (i : ℕ) → i < entries → ShapedOpening (opening_at t i)
  unfolding opening_at opening_of
  opening-shaped-at i li =
      let c : length (part t (opening_base i) opening_length) ≡ opening_length = length_part t (opening_base i) opening_length (omega arith) in
      record {
        pointers8 = length-map (part (part t (opening_base i) opening_length) 4 all_pointers) position ∙ length_part (part t (opening_base i) opening_length) 4 all_pointers (omega arith);
        name12 = length_part (part t (opening_base i) opening_length) 12 name_symbols (omega arith);
        segments32 = length-map (part (part t (opening_base i) opening_length) 24 most_held) segment ∙ length_part (part t (opening_base i) opening_length) 24 most_held (omega arith);
      }
