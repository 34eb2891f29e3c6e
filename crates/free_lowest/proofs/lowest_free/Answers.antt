-- `free_lowest::lowest_free` meets its contract: a scan passes a run that a row lists, or finds that no row lists the number. Assumes nothing.
use Prim.Native.Nat.{ℕ}
use mathlib.Core.Path.{refl, sym, ap, subst, ◌∙◌}
use mathlib.Core.List.{List}
use native.Mathlib.Omega.{arith}
use lib.ListN.{length}
use Rattle.combine.specs.Lists.{is_in}
use Rattle.free_lowest.specs.Run.{run_end}
use Rattle.placing.specs.Placing.{segment}
use Rattle.free_lowest.proofs.Runs.{run-less}
use Rattle.free_lowest.proofs.Search.{NoneFree, rows-taken, rows_fit, rows_short, none-run, lowest-none, lowest-here}
use Rattle.free_lowest.proofs.Scan.{scan-start, scan-turn, scan-done}
use Rattle.free_lowest.proofs.lowest_free.Goals as goal
use Rattle.free_lowest.proofs.lowest_free.Goals.{then-segments-number, else-segments-number+else-loop-scanned-test}

pub loop-scanned-init : goal.loop-scanned-init
loop-scanned-init c = (refl, scan-start _ _ _ _ c.search.invariant.0)

-- ---- the row that is looked at

pub numbers_in-listed-requires : goal.numbers_in-listed-requires
numbers_in-listed-requires c =
    (rows_fit c.args.tables.now c.requires _ (rows-taken _ _ _ _ c.held_rows-held.ensures) c.loop-scanned.row (omega arith), c.requires.0)

pub lists-requires : goal.lists-requires
lists-requires c =
    let short = rows_short c.args.tables.now c.requires _ (rows-taken _ _ _ _ c.held_rows-held.ensures) c.loop-scanned.row (omega arith) in
    omega (arith, ap length c.numbers_in-listed.ensures, short)

pub run_end-number-requires : goal.run_end-number-requires
run_end-number-requires c =
    let short = rows_short c.args.tables.now c.requires _ (rows-taken _ _ _ _ c.held_rows-held.ensures) c.loop-scanned.row (omega arith) in
    (omega (arith, ap length c.numbers_in-listed.ensures, short), omega (arith, c.requires.3))

pub search-smaller : goal.search-smaller
search-smaller c =
    let past = run-less _ _ _ c.run_end-number.ensures (sym c.lists.ensures ∙ c.if-lists.true) in
    omega arith

pub search-preserved : goal.search-preserved
search-preserved c =
    let t = c.args.tables.now in
    let l = c.loop-scanned in
    let none = subst (NoneFree t) (sym l.invariant.0) c.search.invariant.1 in
    (l.invariant.1.low, none-run t c.requires _ (rows-taken _ _ _ _ c.held_rows-held.ensures) l.number l.row _ (omega arith) none (c.run_end-number.ensures ∙ ap (λ (row : List ℕ). run_end row l.number) c.numbers_in-listed.ensures))

pub loop-scanned-preserved : goal.loop-scanned-preserved
loop-scanned-preserved c =
    let l = c.loop-scanned in
    (l.invariant.0, scan-turn _ _ _ _ c.search.invariant.0 l.scanned l.row _ c.loop-scanned-test.true l.invariant.1 (ap (is_in l.number) (sym c.numbers_in-listed.ensures) ∙ sym c.lists.ensures ∙ c.if-lists.false) c.row_after-row.ensures)

pub returns : goal.returns
returns c =
    let t = c.args.tables.now in
    c.of.ensures
    ∙ ap segment
    (elim c.if-segments-number.branch [
      | then-segments-number w ↦ w.found-is ∙ lowest-none t _ c.search.number refl c.search.invariant.1 w.if-segments-number.true
      | else-segments-number+else-loop-scanned-test w ↦
          let l = w.loop-scanned in
          let none = subst (NoneFree t) (sym l.invariant.0) c.search.invariant.1 in
          let free = scan-done t _ c.search.row l.number c.search.invariant.0 c.requires (rows-taken _ _ _ _ c.held_rows-held.ensures) l.scanned l.row (omega arith) l.invariant.1 in
          w.found-is ∙ lowest-here t _ l.number refl none (omega arith) free
    ])
