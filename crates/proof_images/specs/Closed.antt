-- Tables of which the number of segments and the records stay, and nothing is open. Assumes nothing.
use Prim.Native.Nat.{ℕ, ◌+◌, ◌-◌, ◌*◌, ◌≤◌, ◌<◌}
use Rattle.std.specs.Prelude.{◌≡◌, List, ◌++◌, take}
use Rattle.std.proofs.Common.{sym, ◌∙◌, arith, length-take-le, ext_get_or}
use Rattle.std.proofs.Math.Path.{ap}
use Rattle.std.proofs.Math.Option.{none}
use Rattle.std.proofs.Math.ListN.{length, get_or, replicate, length-append, length-replicate, get_or-replicate, get_or-append}
use Rattle.std.proofs.Math.Seq.{get_or-take, get_or-append-add}
use Rattle.combine.specs.Lists.{part, tab}
use Rattle.combine.specs.Laws.Lists.{tab-cong}
use Rattle.combine.specs.Laws.Parts.{length_part, get_d_part}
use Rattle.placing.specs.Sizes.{tables_length, entries, places, record_length, opening_length, openings_start}
use Rattle.rules.specs.House.{house, closed_down}
use Rattle.tables.specs.Layout.{record_base, segments_in, record_of, record_at, opening_of, opening_at, closed_opening, none_open}
use Rattle.cells.specs.Says.{decoded_record, decoded_opening, house_of}

unfoldable pub closed : List ℕ → List ℕ
closed t = none_open (take openings_start t)

-- the cells behind the records
abbrev behind : ℕ
behind = tables_length - openings_start

module _ (t : List ℕ) (long : length t ≡ tables_length) where
  front : length (take openings_start t) ≡ openings_start
  front = length-take-le openings_start t (omega arith)

  pub length-closed : length (closed t) ≡ tables_length
  unfolding closed
  length-closed = length-append (take openings_start t) (replicate behind 0) ∙ (λ i. front i + length-replicate {A = ℕ} behind 0 i)

  cell-kept : (k : ℕ) → k < openings_start → get_or (closed t) k 0 ≡ get_or t k 0
  unfolding closed
  cell-kept k h = get_or-append (take openings_start t) (replicate behind 0) 0 k (omega (arith, front)) ∙ get_or-take openings_start t k 0 h

  cell-cleared : (k : ℕ) → openings_start ≤ k → k < tables_length → get_or (closed t) k 0 ≡ 0
  unfolding closed
  cell-cleared k h l =
      let j : ℕ = k - openings_start in
      let e : k ≡ length (take openings_start t) + j = omega (arith, front) in
      ap (λ (n : ℕ). get_or (take openings_start t ++ replicate behind 0) n 0) e
      ∙ get_or-append-add (take openings_start t) (replicate behind 0) j 0 ∙ get_or-replicate behind j 0 0 (omega arith)

  pub part-kept : (a n : ℕ) → a + n ≤ openings_start → part (closed t) a n ≡ part t a n
  part-kept a n h =
      let l : length (part (closed t) a n) ≡ n = length_part (closed t) a n (omega (arith, length-closed)) in
      ext_get_or 0 (part (closed t) a n) (part t a n) (l ∙ sym (length_part t a n (omega arith)))
      (λ k r. let b : k < n = omega (arith, r, l) in get_d_part (closed t) a n k b ∙ cell-kept (a + k) (omega arith) ∙ sym (get_d_part t a n k b))

  part-cleared : (a n : ℕ) → a + n ≤ behind → part (closed t) (openings_start + a) n ≡ replicate n 0
  part-cleared a n h =
      let l : length (part (closed t) (openings_start + a) n) ≡ n = length_part (closed t) (openings_start + a) n (omega (arith, length-closed)) in
      ext_get_or 0 (part (closed t) (openings_start + a) n) (replicate n 0) (l ∙ sym (length-replicate n 0))
      (λ k r. let b : k < n = omega (arith, r, l) in
      get_d_part (closed t) (openings_start + a) n k b ∙ cell-cleared (openings_start + a + k) (omega arith) (omega arith) ∙ sym (get_or-replicate n k 0 0 b))

  -- ---- what they say

  pub segments-kept : segments_in (closed t) ≡ segments_in t
  segments-kept = cell-kept 0 (omega arith)

  pub record-kept : (p : ℕ) → p < places → record_at (closed t) p ≡ record_at t p
  unfolding record_at
  record-kept p lp = ap record_of (part-kept (record_base p) record_length (omega arith))

  pub opening-cleared : (i : ℕ) → i < entries → opening_at (closed t) i ≡ closed_opening
  unfolding opening_at opening_of part closed_opening
  opening-cleared i li = ap opening_of (part-cleared (opening_length * i) opening_length (omega arith))

  pub closed-says : house_of (closed t) ≡ closed_down (house_of t)
  unfolding house_of tab decoded_opening closed_opening
  closed-says =
      λ i. house (segments-kept i)
      (tab-cong places (λ p. decoded_record (record_at t p)) (λ p. decoded_record (record_at (closed t) p)) (λ p lp. ap decoded_record (record-kept p lp)) i)
      (tab-cong entries (λ _. none) (λ k. decoded_opening (opening_at (closed t) k)) (λ k lk. ap decoded_opening (opening-cleared k lk)) i)
