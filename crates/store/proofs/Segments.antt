-- A store of which one segment's 64 cells were replaced, as the code has it, is a zeroed or a copied one. Assumes
-- nothing.
use Prim.Native.Nat.{ℕ, ◌+◌, ◌-◌, ◌*◌}
use mathlib.Core.Path.{◌≡◌, ap, ◌∙◌}
use mathlib.Core.List.{List}
use native.Mathlib.Omega.{arith}
use borrow.Rule.Slice.PartMut.{put_mid, mid_len}
use lib.ListN.{length, take, drop, replicate, length-replicate}
use lib.Seq.{paste}
use Rattle.std.specs.List.{copy_within}
use Rattle.combine.specs.Laws.Between.{put-all-between}
use Rattle.placing.specs.declared.Segment.{Segment}
use Rattle.placing.specs.Sizes.{segment_cells}
use Rattle.store.specs.Store.{zeroed, copied}
use Rattle.store.specs.Laws.Elements.{Within}

pub zero-done : (st new : List ℕ) (base : ℕ) (g : Segment) → base ≡ g.0 * segment_cells → Within g st → new ≡ replicate (length (take (base + 64 - base) (drop base st))) 0
    → put_mid base (base + 64 - base) st new ≡ zeroed st g
unfolding zeroed
zero-done st new base g e h p =
    let size : length (take (base + 64 - base) (drop base st)) ≡ 64 = mid_len base (base + 64) st (omega arith) ∙ omega arith in
    put-all-between st (replicate 64 0) base 64 (p ∙ ap (λ (n : ℕ). replicate n 0) size) (length-replicate {A = ℕ} 64 0)
    ∙ ap (λ (at : ℕ). paste st at (replicate 64 0) 64) e

pub copy-done : (st : List ℕ) (f g : Segment) (source base : ℕ) → source ≡ f.0 * segment_cells → base ≡ g.0 * segment_cells → copy_within st source (source + 64) base ≡ copied st f g
unfolding copied
copy-done st f g source base ef eg =
    let n : source + 64 - source ≡ 64 = omega arith in
    λ j. paste st (eg j) (drop (ef j) st) (n j)
