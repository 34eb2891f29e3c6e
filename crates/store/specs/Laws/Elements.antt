-- The laws of the elements and the cells of a store after a put, a zeroing and a copy, each once over species, segment and position.
-- Assumes nothing.
use Prim.Native.Nat.{ℕ, ◌+◌, ◌-◌, ◌*◌, ◌%◌, ◌^◌, ◌≤◌, ◌<◌}
use Rattle.std.specs.Prelude.{◌≡◌, ◌≢◌, ◌⊎◌, List, ◌++◌, get_or, take, drop, replicate}
use Rattle.std.proofs.Common.{sym, ◌∙◌, le_refl, arith, length-set, length-drop, length-take-le, get_or-take, get_or-set_same, get_or-set_other, take-take}
use Rattle.std.proofs.Math.Path.{ap}
use Rattle.std.proofs.Math.Logic.{inl, inr, ⊎_elim}
use Rattle.std.proofs.Math.Nat.{zero-div, zero-mod}
use Rattle.std.proofs.Math.ListN.{length, get_or-replicate}
use Rattle.std.proofs.lemmas.List.{length-replicate}
use Rattle.std.proofs.Math.Seq.{paste, get_or-drop}
use Rattle.std.proofs.lemmas.List.Edits.{length-paste}
use Rattle.combine.specs.Laws.Numbers.{eq-or-ne, less-or-more}
use Rattle.combine.specs.Lists.{part}
use Rattle.combine.specs.Laws.Parts.{get_d_part, paste-below, paste-above, part-pasted}
use Rattle.packing.specs.Packing.{field, take_bits, put_bits}
use Rattle.packing.specs.Laws.Fields.{bits-lt, bits-same, bits-before, bits-after}
use Rattle.placing.specs.declared.Segment.{Segment}
use Rattle.placing.specs.declared.Position.{Position}
use Rattle.placing.specs.Sizes.{segment_cells, greatest_species, width_of}
use Rattle.placing.specs.Placing.{stretch_of, offset_of, cell_of, bit_of}
use Rattle.placing.specs.Laws.Sized.{bit-fits, cell_in, offsets-differ, apart}
use Rattle.store.specs.Store.{element_at, put_element, zeroed, copied}

-- the store has the segment's 64 cells
abbrev pub Within : Segment → List ℕ → Type 0
Within g st = g.0 * segment_cells + segment_cells ≤ length st

-- cell number k is none of them
abbrev pub Outside : Segment → ℕ → Type 0
Outside g k = (k < g.0 * segment_cells) ⊎ (g.0 * segment_cells + segment_cells ≤ k)

-- ---- an element

pub element-lt : (st : List ℕ) (s : ℕ) (g : Segment) (x : Position) → element_at st s g x < 2 ^ width_of s
unfolding element_at
element-lt st s g x = bits-lt (width_of s) (bit_of s x) (get_or st (cell_of s g x).0 0)

module _ (st st' : List ℕ) (s : ℕ) (h : s ≤ greatest_species) (g g' : Segment) (x : Position) where
  -- it is of its segment's 64 cells
  pub element-of-cells : ((c : ℕ) → c < segment_cells → get_or st (g.0 * segment_cells + c) 0 ≡ get_or st' (g'.0 * segment_cells + c) 0)
      → element_at st s g x ≡ element_at st' s g' x
  unfolding element_at cell_of
  element-of-cells e = ap (take_bits (width_of s) (bit_of s x)) (e _ (omega (arith, (cell_in s h g x).1)))

  -- where the cells of one segment change, the elements of any other stay
  pub element-elsewhere : ((k : ℕ) → Outside g k → get_or st' k 0 ≡ get_or st k 0) → g'.0 ≢ g.0 → element_at st' s g' x ≡ element_at st s g' x
  unfolding element_at
  element-elsewhere kept ne =
      let low = (cell_in s h g' x).0 in
      let high = (cell_in s h g' x).1 in
      ap (take_bits (width_of s) (bit_of s x)) (kept (cell_of s g' x).0 (⊎_elim (λ p. inl (omega arith)) (λ p. inr (omega arith)) (less-or-more g'.0 g.0 ne)))

-- ---- a put

pub put-length : (st : List ℕ) (s : ℕ) (g : Segment) (x : Position) (n : ℕ) → length (put_element st s g x n) ≡ length st
unfolding put_element
put-length st s g x n = length-set st (cell_of s g x).0 _

-- it changes one cell
pub put-cell : (st : List ℕ) (s : ℕ) (g : Segment) (x : Position) (n k : ℕ) → k ≢ (cell_of s g x).0 → get_or (put_element st s g x n) k 0 ≡ get_or st k 0
unfolding put_element
put-cell st s g x n k ne = get_or-set_other st (cell_of s g x).0 k _ 0 ne

module _ (st : List ℕ) (s : ℕ) (h : s ≤ greatest_species) (g : Segment) (x : Position) (n : ℕ) where
  pub put-outside : (k : ℕ) → Outside g k → get_or (put_element st s g x n) k 0 ≡ get_or st k 0
  put-outside k o =
      let low = (cell_in s h g x).0 in
      let high = (cell_in s h g x).1 in
      put-cell st s g x n k (λ e. ⊎_elim (λ p. omega arith) (λ p. omega arith) o)

  -- "A written number too wide for the species loses its top bits"
  pub put_same : Within g st → element_at (put_element st s g x n) s g x ≡ n % 2 ^ width_of s
  unfolding element_at put_element
  put_same l =
      let inside : (cell_of s g x).0 < length st = omega (arith, (cell_in s h g x).1) in
      ap (take_bits (width_of s) (bit_of s x)) (get_or-set_same st (cell_of s g x).0 _ 0 inside) ∙ bits-same (width_of s) (bit_of s x) (get_or st (cell_of s g x).0 0) n

  -- another segment keeps its elements, of whatever species
  pub put-elsewhere : (s' : ℕ) → s' ≤ greatest_species → (g' : Segment) (y : Position) → g'.0 ≢ g.0 → element_at (put_element st s g x n) s' g' y ≡ element_at st s' g' y
  put-elsewhere s' h' g' y ne = element-elsewhere st (put_element st s g x n) s' h' g g' y put-outside ne

  -- two elements of one cell
  beside : (y : Position) → (cell_of s g y).0 ≡ (cell_of s g x).0 → offset_of s y.0 ≢ offset_of s x.0 → (cell : ℕ)
      → take_bits (width_of s) (bit_of s y) (put_bits (width_of s) (bit_of s x) cell n) ≡ take_bits (width_of s) (bit_of s y) cell
  unfolding cell_of bit_of
  beside y e ne cell =
      let w : ℕ = width_of s in
      let o : ℕ = offset_of s x.0 in
      let o' : ℕ = offset_of s y.0 in
      ⊎_elim
      (λ p. bits-before w (bit_of s x) w (bit_of s y) cell n (apart w o' o p (omega arith)) (bit-fits s h x))
      (λ p. bits-after w (bit_of s x) w (bit_of s y) cell n (apart w o o' p (omega arith)) (bit-fits s h y))
      (less-or-more o' o ne)

  -- another position of the stretch keeps its element
  pub put-beside : (y : Position) → Within g st → 1 ≤ x.0 → 1 ≤ y.0 → stretch_of s x.0 ≡ stretch_of s y.0 → y.0 ≢ x.0
      → element_at (put_element st s g x n) s g y ≡ element_at st s g y
  unfolding element_at put_element
  put-beside y l hx hy es ne =
      let w : ℕ = width_of s in
      let cell : ℕ = (cell_of s g x).0 in
      let inside : cell < length st = omega (arith, (cell_in s h g x).1) in
      ⊎_elim
      (λ e. ap (λ (k : ℕ). take_bits w (bit_of s y) (get_or (put_element st s g x n) k 0)) e
      ∙ ap (take_bits w (bit_of s y)) (get_or-set_same st cell _ 0 inside)
      ∙ beside y e (λ q. ne (offsets-differ s y.0 x.0 hy hx (sym es) q)) (get_or st cell 0)
      ∙ ap (λ (k : ℕ). take_bits w (bit_of s y) (get_or st k 0)) (sym e))
      (λ f. ap (take_bits w (bit_of s y)) (put-cell st s g x n (cell_of s g y).0 f))
      (eq-or-ne (cell_of s g y).0 cell)

-- ---- a segment replaced by the first 64 cells of a list

module _ (st : List ℕ) (g : Segment) (l : Within g st) (new : List ℕ) (m : segment_cells ≤ length new) where
  pasted_length : length (paste st (g.0 * segment_cells) new segment_cells) ≡ length st
  pasted_length = length-paste st (g.0 * segment_cells) new segment_cells l m

  pasted-outside : (k : ℕ) → Outside g k → get_or (paste st (g.0 * segment_cells) new segment_cells) k 0 ≡ get_or st k 0
  pasted-outside k o = ⊎_elim (λ p. paste-below st (g.0 * segment_cells) new segment_cells l m k p) (λ p. paste-above st (g.0 * segment_cells) new segment_cells l m k p) o

  pasted-inside : (c : ℕ) → c < segment_cells → get_or (paste st (g.0 * segment_cells) new segment_cells) (g.0 * segment_cells + c) 0 ≡ get_or new c 0
  pasted-inside c b =
      let at : ℕ = g.0 * segment_cells in
      let first : List ℕ = take segment_cells new in
      let size : length first ≡ segment_cells = length-take-le segment_cells new m in
      sym (get_d_part (paste st at new segment_cells) at segment_cells c b)
      ∙ ap (λ (r : List ℕ). get_or (part ((take at st ++ r) ++ drop (at + segment_cells) st) at segment_cells) c 0) (sym (take-take segment_cells segment_cells new (le_refl segment_cells)))
      ∙ ap (λ (r : List ℕ). get_or r c 0) (part-pasted st at first segment_cells l (omega arith) size)
      ∙ get_or-take segment_cells new c 0 b

-- ---- a zeroed segment, and a copied one

zero_bits : (w t : ℕ) → take_bits w t 0 ≡ 0
unfolding take_bits field
zero_bits w t = ap (λ (y : ℕ). y % 2 ^ w) (zero-div (2 ^ (32 - (t + w)))) ∙ zero-mod (2 ^ w)

module _ (st : List ℕ) (g : Segment) (l : Within g st) where
  zeros : segment_cells ≤ length (replicate {A = ℕ} segment_cells 0)
  zeros = omega (arith, length-replicate {A = ℕ} segment_cells 0)

  pub zeroed-length : length (zeroed st g) ≡ length st
  unfolding zeroed
  zeroed-length = pasted_length st g l (replicate segment_cells 0) zeros

  pub zeroed-outside : (k : ℕ) → Outside g k → get_or (zeroed st g) k 0 ≡ get_or st k 0
  unfolding zeroed
  zeroed-outside = pasted-outside st g l (replicate segment_cells 0) zeros

  pub zeroed-inside : (c : ℕ) → c < segment_cells → get_or (zeroed st g) (g.0 * segment_cells + c) 0 ≡ 0
  unfolding zeroed
  zeroed-inside c b = pasted-inside st g l (replicate segment_cells 0) zeros c b ∙ get_or-replicate segment_cells c 0 0 b

  pub zeroed-element : (s : ℕ) → s ≤ greatest_species → (x : Position) → element_at (zeroed st g) s g x ≡ 0
  unfolding element_at cell_of
  zeroed-element s h x = ap (take_bits (width_of s) (bit_of s x)) (zeroed-inside _ (omega (arith, (cell_in s h g x).1))) ∙ zero_bits (width_of s) (bit_of s x)

  pub zeroed-elsewhere : (s : ℕ) → s ≤ greatest_species → (g' : Segment) (x : Position) → g'.0 ≢ g.0 → element_at (zeroed st g) s g' x ≡ element_at st s g' x
  zeroed-elsewhere s h g' x ne = element-elsewhere st (zeroed st g) s h g g' x zeroed-outside ne

module _ (st : List ℕ) (f g : Segment) (m : Within f st) (l : Within g st) where
  enough : segment_cells ≤ length (drop (f.0 * segment_cells) st)
  enough = omega (arith, length-drop (f.0 * segment_cells) st)

  pub copied-length : length (copied st f g) ≡ length st
  unfolding copied
  copied-length = pasted_length st g l (drop (f.0 * segment_cells) st) enough

  pub copied-outside : (k : ℕ) → Outside g k → get_or (copied st f g) k 0 ≡ get_or st k 0
  unfolding copied
  copied-outside = pasted-outside st g l (drop (f.0 * segment_cells) st) enough

  pub copied-inside : (c : ℕ) → c < segment_cells → get_or (copied st f g) (g.0 * segment_cells + c) 0 ≡ get_or st (f.0 * segment_cells + c) 0
  unfolding copied
  copied-inside c b = pasted-inside st g l (drop (f.0 * segment_cells) st) enough c b ∙ get_or-drop (f.0 * segment_cells) st c 0

  pub copied-element : (s : ℕ) → s ≤ greatest_species → (x : Position) → element_at (copied st f g) s g x ≡ element_at st s f x
  copied-element s h x = element-of-cells (copied st f g) st s h g f x copied-inside

  pub copied-elsewhere : (s : ℕ) → s ≤ greatest_species → (g' : Segment) (x : Position) → g'.0 ≢ g.0 → element_at (copied st f g) s g' x ≡ element_at st s g' x
  copied-elsewhere s h g' x ne = element-elsewhere st (copied st f g) s h g g' x copied-outside ne
