-- Begin and end of a record, as the code reads and tests them, and of all records. Assumes nothing.
use Prim.Native.Nat.{ℕ, ◌+◌, ◌≤◌, ◌<◌}
use mathlib.Core.Path.{◌≡◌, ap, ◌∙◌}
use mathlib.Core.Bool.{Bool, true, false, ◌&&◌}
use mathlib.Core.List.{List}
use lib.Dec.{leb}
use lib.ListN.{get_or}
use native.Mathlib.Omega.{arith}
use borrow.Author.Tests.{le-leb, lt-leb}
use Rattle.combine.specs.Below.{all_below}
use Rattle.combine.specs.Laws.Below.{both, bad-left, bad-right, loop-true, loop-false}
use Rattle.placing.specs.Sizes.{places}
use Rattle.placing.specs.declared.Position.{Position}
use Rattle.placing.specs.Placing.{position}
use Rattle.tables.specs.Layout.{record_base, record_at}
use Rattle.image.specs.Image.{Form}
use Rattle.image.specs.Reformed.{reachesb}
use Rattle.sound_lists.specs.FieldCells.{begin-cell, end-cell}

number-of : {b : Position} {n : ℕ} → b ≡ position n → b.0 ≡ n
number-of e = ap (λ (x : Position). x.0) e

module _ (t : List ℕ) (g p : ℕ) where
  -- the test of one record
  abbrev pub within : Bool
  within = leb (record_at t p).begin.0 g && leb (record_at t p).end.0 g

  -- begin and end as they are read from their cells
  pub begin-beyond : (b : Position) (x : ℕ) → x ≡ b.0 → b ≡ position (get_or t (record_base p + 16) 0) → g < x → within ≡ false
  begin-beyond b x ex eb h = bad-left _ _ (lt-leb (record_at t p).begin.0 g (omega (arith, ex, number-of eb, begin-cell t p)))

  pub end-beyond : (b : Position) (x : ℕ) → x ≡ b.0 → b ≡ position (get_or t (record_base p + 17) 0) → g < x → within ≡ false
  end-beyond b x ex eb h = bad-right (leb (record_at t p).begin.0 g) (leb (record_at t p).end.0 g) (lt-leb (record_at t p).end.0 g (omega (arith, ex, number-of eb, end-cell t p)))

  pub neither-beyond : (b e : Position) (x y : ℕ) → x ≡ b.0 → b ≡ position (get_or t (record_base p + 16) 0) → y ≡ e.0 → e ≡ position (get_or t (record_base p + 17) 0) → x ≤ g → y ≤ g → within ≡ true
  neither-beyond b e x y ex eb ey ee h k =
      both (le-leb (record_at t p).begin.0 g (omega (arith, ex, number-of eb, begin-cell t p))) (le-leb (record_at t p).end.0 g (omega (arith, ey, number-of ee, end-cell t p)))

-- g is the greatest of the form f
module _ (f : Form) (t : List ℕ) (g : ℕ) (eg : g ≡ f.greatest) where
  pub one-beyond : (p : ℕ) → p < places → within t g p ≡ false → false ≡ reachesb f t
  unfolding reachesb
  one-beyond p l w = loop-false (within t g) places p l w ∙ ap (λ (x : ℕ). all_below places (within t x)) eg

  pub all-within : (p : ℕ) → p ≤ places → places ≤ p → all_below p (within t g) ≡ true → true ≡ reachesb f t
  unfolding reachesb
  all-within p l m w = loop-true (within t g) places p l m w ∙ ap (λ (x : ℕ). all_below places (within t x)) eg
