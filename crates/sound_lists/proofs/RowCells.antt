-- The rows of records and openings of `Ranged` tables t, by the cells that the code reads. Assumes nothing.
use Prim.Native.Nat.{ℕ, ◌+◌, ◌-◌, ◌/◌, ◌≤◌, ◌<◌}
use mathlib.Core.Path.{◌≡◌, sym, ap, subst, subst₃, ◌∙◌}
use mathlib.Core.Logic.{◌≢◌}
use mathlib.Core.Bool.{true}
use mathlib.Core.List.{List}
use native.Mathlib.Nat.{div-mul-le_self, mul-le-mul_left}
use native.Mathlib.Omega.{arith}
use lib.ListN.{length, get_or, take, drop}
use Rattle.combine.specs.Lists.{part}
use Rattle.combine.specs.Laws.Counts.{count-all}
use Rattle.combine.specs.Laws.Parts.{length_part, get_d_part}
use Rattle.placing.specs.Sizes.{most_segments, most_held, greatest_species, elements_of, places, entries, lists, tables_length}
use Rattle.placing.specs.Placing.{held_of, stretch_of}
use Rattle.placing.specs.Laws.Sized.{elements-many}
use Rattle.tables.specs.Layout.{record_base, opening_base}
use Rattle.tables.specs.Lists.{held_in, listed, stretch_in}
use Rattle.tables.specs.Laws.Sound.{Ranged}
use Rattle.tables.specs.Laws.ExtentFacts.{SoundExtent}
use Rattle.sound_lists.specs.FieldCells as cells
use Rattle.sound_lists.specs.ListCells as list
use Rattle.sound_lists.specs.ListFacts.{record-at, opening-at, list-facts}
use Rattle.sound_lists.specs.Marks.{mark_those, Marked}
use Rattle.sound_lists.specs.Rows.{cell_from, RowOf}
use Rattle.sound_lists.proofs.Marking.{all_same}

-- a stretch has 64 positions or more: the stretch of a position of 32 bits is far below the greatest number of 32 bits
stretch-fits : (s x : ℕ) → s ≤ greatest_species → x < 4294967296 → stretch_of s x + most_held < 4294967296
unfolding stretch_of
stretch-fits s x h l =
    let E : ℕ = elements_of s in
    let q : ℕ = (x - 1) / E in
    omega (arith, div-mul-le_self (x - 1) E, mul-le-mul_left q (elements-many s h))

module _ (t : List ℕ) (ok : Ranged t) where
  -- list i by the cells of its species s, its begin b and its end e
  row_of : (i start s b e n first : ℕ) → i < lists → start + most_held ≤ tables_length → SoundExtent s b e → held_in t i ≡ held_of s b e
      → ((k : ℕ) → k < most_held → listed t i k ≡ cell_from t start k) → ((k : ℕ) → stretch_in t i k ≡ stretch_of s b + k)
      → n ≡ held_of s b e → first ≡ stretch_of s b → RowOf t i start n first
  row_of i start s b e n first li inside extent held number stretch en ef =
      let f = list-facts t ok i li in
      let few : n ≤ most_held = omega (arith, extent.held) in
      record {
        row = record {
          inside = omega (arith, ok.0);
          few = few;
          low = λ k l. omega (arith, ok.3, f.number k (omega arith), number k (omega arith));
          fits = omega (arith, stretch-fits s b extent.species (omega (arith, extent.end, extent.greatest)));
        };
        held = en ∙ sym held;
        number = λ k l. sym (number k (omega arith));
        stretch = λ k. omega (arith, stretch k);
      }

  module _ (p : ℕ) (lp : p < places) (d : get_or t (record_base p) 0 ≢ 0) (b e : ℕ) (eb : b ≡ get_or t (record_base p + 16) 0) (ee : e ≡ get_or t (record_base p + 17) 0) where
    pub record-extent : SoundExtent (get_or t (record_base p + 15) 0) b e
    record-extent =
        subst₃ SoundExtent (cells.species-cell t p) (cells.begin-cell t p ∙ sym eb) (cells.end-cell t p ∙ sym ee) (record-at t ok p lp d).extent

    pub record-row : (start n first : ℕ) → start ≡ record_base p + 18 → n ≡ held_of (get_or t (record_base p + 15) 0) b e → first ≡ stretch_of (get_or t (record_base p + 15) 0) b
        → RowOf t p start n first
    record-row start n first es en ef =
        subst (λ (x : ℕ). RowOf t p x n first) (sym es)
        (row_of p (record_base p + 18) (get_or t (record_base p + 15) 0) b e n first (omega arith) (omega arith) record-extent
        (list.record-held-used t p lp d ∙ sym (λ q. held_of (get_or t (record_base p + 15) 0) (eb q) (ee q))) (list.record-number-cell t p lp) (λ k. list.record-stretch-cell t p lp k ∙ sym (ap (λ (x : ℕ). stretch_of (get_or t (record_base p + 15) 0) x + k) eb)) en ef)

  module _ (j : ℕ) (lj : j < entries) (d : get_or t (opening_base j) 0 ≢ 0) (b e : ℕ) (eb : b ≡ get_or t (opening_base j + 4) 0) (ee : e ≡ get_or t (opening_base j + 5) 0) where
    pub opening-extent : SoundExtent (get_or t (opening_base j + 3) 0) b e
    opening-extent =
        subst₃ SoundExtent (cells.opening-species-cell t j) (cells.opening-begin-cell t j ∙ sym eb) (cells.opening-end-cell t j ∙ sym ee) (opening-at t ok j lj d).extent

    pub opening-row : (start n first : ℕ) → start ≡ opening_base j + 24 → n ≡ held_of (get_or t (opening_base j + 3) 0) b e → first ≡ stretch_of (get_or t (opening_base j + 3) 0) b
        → RowOf t (places + j) start n first
    opening-row start n first es en ef =
        subst (λ (x : ℕ). RowOf t (places + j) x n first) (sym es)
        (row_of (places + j) (opening_base j + 24) (get_or t (opening_base j + 3) 0) b e n first (omega arith) (omega arith) opening-extent
        (list.opening-held-open t j d ∙ sym (λ q. held_of (get_or t (opening_base j + 3) 0) (eb q) (ee q))) (list.opening-number-cell t j) (λ k. list.opening-stretch-cell t j k ∙ sym (ap (λ (x : ℕ). stretch_of (get_or t (opening_base j + 3) 0) x + k) eb)) en ef)

-- ---- the row of n cells from `start` on, as it is lent
module _ (t : List ℕ) (start n : ℕ) (inside : start + n ≤ length t) where
  lent : List ℕ
  lent = take (start + n - start) (drop start t)

  lent-part : lent ≡ part t start n
  unfolding lent part
  lent-part =
      let e : start + n - start ≡ n = omega arith in
      ap (λ (k : ℕ). take k (drop start t)) e

  lent_length : length lent ≡ n
  lent_length = ap length lent-part ∙ length_part t start n inside

  lent-cell : (k : ℕ) → k < n → get_or lent k 0 ≡ cell_from t start k
  lent-cell k l = ap (λ (x : List ℕ). get_or x k 0) lent-part ∙ get_d_part t start n k l

  pub lent-low : ((k : ℕ) → k < n → cell_from t start k < most_segments) → (k : ℕ) → k < length (take (start + n - start) (drop start t))
      → get_or (take (start + n - start) (drop start t)) k 0 < most_segments
  unfolding lent
  lent-low low k h =
      let l : k < n = omega (arith, lent_length) in
      omega (arith, lent-cell k l, low k l)

  pub lent-marked : (m m' : List ℕ)
      → m' ≡ mark_those (λ k. true) (λ k. get_or (take (start + n - start) (drop start t)) k 0) m (length (take (start + n - start) (drop start t)))
      → Marked (λ k. true) (cell_from t start) m n m' n
  unfolding lent
  lent-marked m m' e =
      record {
        after = e ∙ ap (mark_those (λ k. true) (λ k. get_or lent k 0) m) lent_length ∙ all_same (λ k. get_or lent k 0) (cell_from t start) m n lent-cell;
        set = sym (count-all n);
      }
