-- Elements put one after another, as the code's steps give their premises. Assumes nothing.
use Prim.Native.Nat.{ℕ, zero, suc, ◌+◌, ◌*◌, ◌/◌, ◌%◌, ◌≤◌, ◌<◌}
use mathlib.Core.Path.{◌≡◌, refl, sym, ap, ◌∙◌}
use mathlib.Core.List.{List}
use native.Mathlib.Numerals.{add-one}
use native.Mathlib.Omega.{arith}
use lib.ListN.{length, get_or, set}
use Rattle.packing.specs.Packing.{put_bits}
use Rattle.placing.specs.declared.Segment.{Segment}
use Rattle.placing.specs.declared.Position.{Position}
use Rattle.placing.specs.Sizes.{segment_cells, greatest_species, width_of, greatest_end}
use Rattle.placing.specs.Placing.{position, stretch_of, cell_of, bit_of}
use Rattle.tables.specs.declared.Opening.{Opening}
use Rattle.tables.specs.Layout.{position_number, put_opening}
use Rattle.tables.specs.Fields.{value_of}
use Rattle.tables.specs.Handles.{pointed}
use Rattle.run_spans.specs.Ahead.{Ahead, Follow, Fewer, Fits, Fitting}
use Rattle.run_spans.specs.Laws.Ahead.{fitting-fewer}
use Rattle.run_spans.specs.Bits.{Row}
use Rattle.run_spans.specs.Laws.Bits.{row-starts, row-goes-on, row_lies, row-few, put_is, stretch-row}
use Rattle.run_puts.specs.Puts.{put_first, put_row, limit_of, Many}
use Rattle.run_puts.specs.Laws.Limits.{limit-end, limit-other}

-- ---- the loop: s is the store where j elements are put, a the bits before the next

module _ (s₀ : List ℕ) (b w : ℕ) (l : List ℕ) where
  pub put-none : s₀ ≡ put_row s₀ b w l 0
  unfolding put_row
  put-none = refl

  pub put-more : (s : List ℕ) (j a n : ℕ) (s' : List ℕ) → s ≡ put_row s₀ b w l j → a ≡ b + j * w → n ≡ get_or l j 0 → s' ≡ set s (a / 32) (put_bits w (a % 32) (get_or s (a / 32) 0) n)
      → s' ≡ put_row s₀ b w l (j + 1)
  unfolding put_row
  put-more s j a n s' es ea en e =
      e ∙ (λ i. set (es i) (ea i / 32) (put_bits w (ea i % 32) (get_or (es i) (ea i / 32) 0) (en i))) ∙ ap (put_row s₀ b w l) (sym (add-one j))

  pub put-ends : (s : List ℕ) (j n : ℕ) → s ≡ put_row s₀ b w l j → j ≤ n → n ≤ j → s ≡ put_row s₀ b w l n
  put-ends s j n es h m = let e : j ≡ n = omega arith in es ∙ ap (put_row s₀ b w l) e

pub ruleset puts = (put-none, put-more, put-ends, row-starts, row-goes-on, row_lies, row-few)

-- ---- the first position that is not written at

pub limit-append : (o : Opening) (p : ℕ) (x : Position) → x ≡ position greatest_end → p ≡ 1 → x.0 ≡ limit_of o p
limit-append o p x ex e = ap position_number ex ∙ sym (limit-end o p e)

pub limit-inner : (o : Opening) (p : ℕ) (x : Position) → (p ≡ 1 → ⊥) → x.0 ≡ value_of o 1 → x.0 ≡ limit_of o p
limit-inner o p x d e = e ∙ sym (limit-other o p d)

pub ruleset limits = (limit-append, limit-inner)

-- ---- elements of one stretch, put one after another

-- x is the first position, b the bits before its element, w the width
module _ (k : ℕ) (h : k ≤ greatest_species) (g : Segment) (x : Position) (some : 1 ≤ x.0) (b : ℕ) (eb : b ≡ (cell_of k g x).0 * 32 + bit_of k x) (w : ℕ) (ew : w ≡ width_of k) where
  row_first : (s l : List ℕ) (many : ℕ) → ((j : ℕ) → j < many → stretch_of k (x.0 + j) ≡ stretch_of k x.0) → put_row s b w l many ≡ put_first s k g x.0 l many
  unfolding put_row put_first
  row_first s l zero f = refl
  row_first s l (suc j) f =
      ap (λ (z : List ℕ). set z ((b + j * w) / 32) (put_bits w ((b + j * w) % 32) (get_or z ((b + j * w) / 32) 0) (get_or l j 0))) (row_first s l j (λ i q. f i (omega (arith, q))))
      ∙ put_is k h g x.0 some b eb w ew j (f j (omega arith)) (put_first s k g x.0 l j) (get_or l j 0)

  pub all_lie : (cells many : ℕ) → g.0 * segment_cells + segment_cells ≤ cells → g.0 < 4294967296 → Follow k x.0 many → Row cells b w many
  all_lie cells many fits small f = stretch-row k h g x.0 some b eb w ew cells many fits small f

  pub all-put : (s l : List ℕ) (many : ℕ) (s' : List ℕ) → Follow k x.0 many → s' ≡ put_row s b w l many → s' ≡ put_first s k g x.0 l many
  all-put s l many s' f e = e ∙ row_first s l many f.same

pub ruleset alls = (all_lie, all-put)

-- ---- a stretch: v is the pointer's value, and k elements are put

module _ (o : Opening) (p : ℕ) (v : Position) (ev : v.0 ≡ value_of o p) (k : ℕ) where
  -- e is the first position that the pointer does not write at, m positions lie ahead, and of n of the list's elements k fit
  pub stretch-many : (e : Position) → e.0 ≡ limit_of o p → (m : ℕ) → Ahead o.species v.0 e.0 m → (l : List ℕ) (n : ℕ) → Fewer m (length l) n → Fitting o.species l n k
      → 1 ≤ length l → Fits o.species l 0 → Many o p l k
  stretch-many e ee m a l n few fitting some first =
      let f = fitting-fewer o.species l n k fitting m (length l) few first in
      let b = a.before in
      let c = f.first in
      record {
        few = f.second;
        fit = fitting.fit;
        ahead = record {
          some = f.some a.some some;
          before = omega arith;
          same = λ j q. ap (λ (x : ℕ). stretch_of o.species (x + j)) (sym ev) ∙ a.same j (omega arith) ∙ ap (stretch_of o.species) ev;
        };
      }

  module _ (l : List ℕ) (a : Many o p l k) where
    pub stretch-follows : Follow o.species v.0 k
    stretch-follows =
        record { same = λ j q. ap (λ (x : ℕ). stretch_of o.species (x + j)) ev ∙ a.ahead.same j q ∙ sym (ap (stretch_of o.species) ev) }

    pub stretch-few : k ≤ length l
    stretch-few = a.few

    pub stretch-fits : limit_of o p ≤ greatest_end → v.0 + k ≤ greatest_end
    stretch-fits h = let b = a.ahead.before in omega arith

  pub stretch-store : (s : List ℕ) (g : Segment) (l s' : List ℕ) → s' ≡ put_first s o.species g v.0 l k → s' ≡ put_first s o.species g (value_of o p) l k
  stretch-store s g l s' e = e ∙ ap (λ (x : ℕ). put_first s o.species g x l k) ev

  pub stretch-tables : (t : List ℕ) (i : ℕ) (x : Position) (m : Opening) (t' : List ℕ) → x.0 ≡ v.0 + k → m ≡ pointed o p x → t' ≡ put_opening t i m
      → t' ≡ put_opening t i (pointed o p (position (value_of o p + k)))
  stretch-tables t i x m t' ex em et =
      let at : x.0 ≡ value_of o p + k = ex ∙ ap (λ (n : ℕ). n + k) ev in
      et ∙ ap (put_opening t i) (em ∙ ap (λ (n : ℕ). pointed o p (position n)) at)

pub ruleset stretches = (stretch-follows, stretch-few, stretch-fits, stretch-store, stretch-tables)
