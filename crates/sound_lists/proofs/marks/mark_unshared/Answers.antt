-- `sound_lists::marks::mark_unshared` meets its contract. Assumes nothing.
use Prim.Native.Nat.{ℕ}
use mathlib.Core.Path.{sym, subst}
use mathlib.Core.Bool.{not}
use lib.ListN.{set}
use Rattle.sound_lists.specs.Marks.{Marked}
use Rattle.sound_lists.proofs.Marking.{one-shared, one-own}
use Rattle.sound_lists.proofs.marks.mark_unshared.Goals as goal

pub returns-then-shared : goal.returns-then-shared
returns-then-shared c = one-shared _ _ _ c.if-shared.true

pub returns : goal.returns
returns c =
    let a = c.args in
    let m = c.args.marks.now in
    subst (λ (s : ℕ). Marked (λ k. not a.shared) (λ k. a.segment.0) m 1 (set m s 1) 1) (sym c.number-number.ensures) (one-own m a.segment.0 a.shared c.if-shared.false)
