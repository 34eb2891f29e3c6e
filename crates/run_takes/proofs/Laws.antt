-- How many elements are taken, and that they are, as the code's steps give their premises. Assumes nothing.
use Prim.Native.Nat.{ℕ, ◌+◌, ◌-◌, ◌*◌, ◌/◌, ◌%◌, ◌≤◌, ◌<◌}
use mathlib.Core.Path.{◌≡◌, sym, ap, subst, ◌∙◌}
use mathlib.Core.List.{List}
use native.Mathlib.Numerals.{add-one}
use native.Mathlib.Omega.{arith}
use lib.ListN.{length, get_or, set}
use lib.Seq.{paste, paste-zero, paste-suc}
use Rattle.combine.specs.Laws.Lists.{length-tab, tab-at, tab-cong}
use Rattle.packing.specs.Packing.{take_bits}
use Rattle.placing.specs.declared.Segment.{Segment}
use Rattle.placing.specs.declared.Position.{Position}
use Rattle.placing.specs.Sizes.{segment_cells, greatest_species, width_of}
use Rattle.placing.specs.Placing.{position, stretch_of, cell_of, bit_of}
use Rattle.store.specs.Store.{element_at}
use Rattle.tables.specs.declared.Opening.{Opening}
use Rattle.tables.specs.Layout.{put_opening}
use Rattle.tables.specs.Fields.{value_of}
use Rattle.tables.specs.Handles.{pointed}
use Rattle.run_spans.specs.Ahead.{Ahead, Follow, Fewer}
use Rattle.run_spans.specs.Bits.{Row}
use Rattle.run_spans.specs.Laws.Bits.{row-starts, row-goes-on, row_lies, row-few, taken_is, stretch-row}
use Rattle.run_takes.specs.Takes.{taken, taken_row, Far, Took}

-- ---- how far: x is the pointer's value, y the end, m how many positions lie ahead

module _ (o : Opening) (p : ℕ) (x y : Position) (ex : x.0 ≡ value_of o p) (ey : y.0 ≡ value_of o 1) (m : ℕ) (a : Ahead o.species x.0 y.0 m) where
  same-there : (j : ℕ) → j < m → stretch_of o.species (value_of o p + j) ≡ stretch_of o.species (value_of o p)
  same-there j l = subst (λ (v : ℕ). stretch_of o.species (v + j) ≡ stretch_of o.species v) ex (a.same j l)

  pub one-ahead : 1 ≤ m
  one-ahead = a.some

  module _ (left k : ℕ) where
    pub far-first : p ≡ 0 → Fewer (m - 1) left k → Far o p left k
    far-first z f =
        let some = a.some in
        let below = a.before in
        let few = f.first in
        record {
          few = f.second;
          before = omega arith;
          same = λ j l. same-there j (omega (arith, l));
          begin = λ q. (omega arith, same-there k (omega arith));
        }

    pub far-other : (p ≡ 0 → ⊥) → Fewer m left k → Far o p left k
    far-other d f =
        let below = a.before in
        let few = f.first in
        record { few = f.second; before = omega arith; same = λ j l. same-there j (omega (arith, l)); begin = λ q. absurd (d q) }

pub ruleset fars = (one-ahead, far-first, far-other)

-- ---- one after another, by bits

module _ (s : List ℕ) (b w many : ℕ) where
  length-row : length (taken_row s b w many) ≡ many
  unfolding taken_row
  length-row = length-tab many (λ j. take_bits w ((b + j * w) % 32) (get_or s ((b + j * w) / 32) 0))

  row_at : (n : ℕ) → n < many → get_or (taken_row s b w many) n 0 ≡ take_bits w ((b + n * w) % 32) (get_or s ((b + n * w) / 32) 0)
  unfolding taken_row
  row_at n h = tab-at many (λ j. take_bits w ((b + j * w) % 32) (get_or s ((b + j * w) / 32) 0)) n 0 h

  module _ (l : List ℕ) (place : ℕ) where
    -- the first n of them are in the list
    pub record Taking (l' : List ℕ) (n : ℕ) : Type 0 where
      pub list : l' ≡ paste l place (taken_row s b w many) n

    pub take-starts : Taking l 0
    take-starts = record { list = paste-zero l place (taken_row s b w many) }

    module _ (l' : List ℕ) (n : ℕ) (t : Taking l' n) where
      pub take-turn : place + many ≤ length l → n < many → (a e : ℕ) (l'' : List ℕ) → a ≡ b + n * w → e ≡ take_bits w (a % 32) (get_or s (a / 32) 0) → l'' ≡ set l' (place + n) e → Taking l'' (n + 1)
      take-turn fits h a e l'' ea ee el =
          let told : e ≡ get_or (taken_row s b w many) n 0 = ee ∙ ap (λ (y : ℕ). take_bits w (y % 32) (get_or s (y / 32) 0)) ea ∙ sym (row_at n h) in
          record {
            list = el ∙ (λ j. set (t.list j) (place + n) (told j)) ∙ paste-suc l place (taken_row s b w many) n 0 (omega arith) (omega (arith, length-row))
                ∙ ap (paste l place (taken_row s b w many)) (sym (add-one n));
          }

      pub take_ends : n ≤ many → many ≤ n → l' ≡ paste l place (taken_row s b w many) many
      take_ends h h' =
          let e : n ≡ many = omega arith in
          t.list ∙ ap (paste l place (taken_row s b w many)) e

pub ruleset takes = (take-starts, take-turn, take_ends, row-starts, row-goes-on, row_lies, row-few)

-- ---- of one stretch: x is the first position, b the bits before its element, w the width

pub length_taken : (s : List ℕ) (k : ℕ) (g : Segment) (v many : ℕ) → length (taken s k g v many) ≡ many
unfolding taken
length_taken s k g v many = length-tab many (λ j. element_at s k g (position (v + j)))

module _ (k : ℕ) (h : k ≤ greatest_species) (g : Segment) (x : Position) (some : 1 ≤ x.0) (b : ℕ) (eb : b ≡ (cell_of k g x).0 * 32 + bit_of k x) (w : ℕ) (ew : w ≡ width_of k) (many : ℕ)
    (f : Follow k x.0 many) where
  row-taken : (s : List ℕ) → taken_row s b w many ≡ taken s k g x.0 many
  unfolding taken_row taken
  row-taken s = tab-cong many (λ j. element_at s k g (position (x.0 + j))) (λ j. take_bits w ((b + j * w) % 32) (get_or s ((b + j * w) / 32) 0))
      (λ j l. taken_is k h g x.0 some b eb w ew j (f.same j l) s)

  pub all_lie : (cells : ℕ) → g.0 * segment_cells + segment_cells ≤ cells → g.0 < 4294967296 → Row cells b w many
  all_lie cells fits small = stretch-row k h g x.0 some b eb w ew cells many fits small f

  pub all-taken : (s l l' : List ℕ) (place : ℕ) → l' ≡ paste l place (taken_row s b w many) many → l' ≡ paste l place (taken s k g x.0 many) many
  all-taken s l l' place e = e ∙ ap (λ (y : List ℕ). paste l place y many) (row-taken s)

pub ruleset alls = (all_lie, all-taken)

-- ---- the pointer moves behind them: x is its value, y where it is then

pub take-follows : (o : Opening) (p many : ℕ) (x : Position) → x.0 ≡ value_of o p → Follow o.species (value_of o p) many → Follow o.species x.0 many
take-follows o p many x ex f = subst (λ (v : ℕ). Follow o.species v many) (sym ex) f

pub took : (s t : List ℕ) (i : ℕ) (o : Opening) (p : ℕ) (g : Segment) (l : List ℕ) (place many : ℕ) (t' l' : List ℕ) (x y : Position) (o' : Opening)
    → x.0 ≡ value_of o p → l' ≡ paste l place (taken s o.species g x.0 many) many → y.0 ≡ x.0 + many → o' ≡ pointed o p y → t' ≡ put_opening t i o'
    → Took s t i o p g l place many t' l'
took s t i o p g l place many t' l' x y o' ex el ey eo et =
    record {
      list = el ∙ ap (λ (v : ℕ). paste l place (taken s o.species g v many) many) ex;
      tables = et ∙ ap (put_opening t i) (eo ∙ ap (λ (v : ℕ). pointed o p (position v)) (ey ∙ ap (λ (v : ℕ). v + many) ex));
    }
