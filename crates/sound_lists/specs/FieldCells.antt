-- Which cells of the tables t the fields of a record and of an opening are: those that say what its list holds. Assumes nothing.
use Rattle.std.specs.Prelude.{ℕ, ◌+◌, ◌<◌, ◌≡◌, List, get_or}
use Rattle.std.proofs.Math.Path.{ap}
use Rattle.std.proofs.Common.{◌∙◌, add-zero, arith}
use Rattle.std.proofs.Math.ListN.{get_or-map}
use Rattle.combine.specs.Lists.{part}
use Rattle.combine.specs.Laws.Parts.{get_d_part}
use Rattle.placing.specs.declared.Segment.{Segment}
use Rattle.placing.specs.declared.Position.{Position}
use Rattle.placing.specs.Placing.{segment, position}
use Rattle.tables.specs.Layout.{record_base, opening_base, record_of, record_at, opening_of, opening_at}
use Rattle.tables.specs.Fields.{number_at, value_of}

-- the first of a part
first-of-part : (t : List ℕ) (a n : ℕ) → 0 < n → get_or (part t a n) 0 0 ≡ get_or t a 0
first-of-part t a n h = get_d_part t a n 0 h ∙ ap (λ (x : ℕ). get_or t x 0) (add-zero a)

-- a part of a part
part-twice : (t : List ℕ) (a n b m k : ℕ) → k < m → b + k < n → get_or (part (part t a n) b m) k 0 ≡ get_or t (a + b + k) 0
part-twice t a n b m k h l =
    let e : a + (b + k) ≡ a + b + k = omega arith in
    get_d_part (part t a n) b m k h ∙ get_d_part t a n (b + k) l ∙ ap (λ (x : ℕ). get_or t x 0) e

module _ (t : List ℕ) (p : ℕ) where
  pub used-cell : (record_at t p).used ≡ get_or t (record_base p) 0
  unfolding record_at record_of
  used-cell = first-of-part t (record_base p) 50 (omega arith)

  pub species-cell : (record_at t p).species ≡ get_or t (record_base p + 15) 0
  unfolding record_at record_of
  species-cell = get_d_part t (record_base p) 50 15 (omega arith)

  pub begin-cell : (record_at t p).begin.0 ≡ get_or t (record_base p + 16) 0
  unfolding record_at record_of
  begin-cell = get_d_part t (record_base p) 50 16 (omega arith)

  pub end-cell : (record_at t p).end.0 ≡ get_or t (record_base p + 17) 0
  unfolding record_at record_of
  end-cell = get_d_part t (record_base p) 50 17 (omega arith)

  pub number-cell : (k : ℕ) → k < 32 → number_at (record_at t p).segments k ≡ get_or t (record_base p + 18 + k) 0
  unfolding record_at record_of
  number-cell k h =
      ap (λ (g : Segment). g.0) (get_or-map segment (part (part t (record_base p) 50) 18 32) k 0)
      ∙ part-twice t (record_base p) 50 18 32 k h (omega arith)

module _ (t : List ℕ) (i : ℕ) where
  pub opened-cell : (opening_at t i).opened ≡ get_or t (opening_base i) 0
  unfolding opening_at opening_of
  opened-cell = first-of-part t (opening_base i) 56 (omega arith)

  pub place-cell : (opening_at t i).place ≡ get_or t (opening_base i + 1) 0
  unfolding opening_at opening_of
  place-cell = get_d_part t (opening_base i) 56 1 (omega arith)

  pub permit-cell : (opening_at t i).permit ≡ get_or t (opening_base i + 2) 0
  unfolding opening_at opening_of
  permit-cell = get_d_part t (opening_base i) 56 2 (omega arith)

  pub opening-species-cell : (opening_at t i).species ≡ get_or t (opening_base i + 3) 0
  unfolding opening_at opening_of
  opening-species-cell = get_d_part t (opening_base i) 56 3 (omega arith)

  -- pointer 0 is the begin, 1 the end
  pub value_cell : (k : ℕ) → k < 8 → value_of (opening_at t i) k ≡ get_or t (opening_base i + 4 + k) 0
  unfolding opening_at opening_of value_of
  value_cell k h =
      ap (λ (x : Position). x.0) (get_or-map position (part (part t (opening_base i) 56) 4 8) k 0)
      ∙ part-twice t (opening_base i) 56 4 8 k h (omega arith)

  pub opening-begin-cell : value_of (opening_at t i) 0 ≡ get_or t (opening_base i + 4) 0
  opening-begin-cell =
      let e : opening_base i + 4 + 0 ≡ opening_base i + 4 = omega arith in
      value_cell 0 (omega arith) ∙ ap (λ (x : ℕ). get_or t x 0) e

  pub opening-end-cell : value_of (opening_at t i) 1 ≡ get_or t (opening_base i + 5) 0
  opening-end-cell =
      let e : opening_base i + 4 + 1 ≡ opening_base i + 5 = omega arith in
      value_cell 1 (omega arith) ∙ ap (λ (x : ℕ). get_or t x 0) e

  pub opening-number-cell : (k : ℕ) → k < 32 → number_at (opening_at t i).segments k ≡ get_or t (opening_base i + 24 + k) 0
  unfolding opening_at opening_of
  opening-number-cell k h =
      ap (λ (g : Segment). g.0) (get_or-map segment (part (part t (opening_base i) 56) 24 32) k 0)
      ∙ part-twice t (opening_base i) 56 24 32 k h (omega arith)
