-- `combine::all_equal` meets its contract: `all` is true exactly if each cell passes the test. Assumes nothing.
use Prim.Native.Nat.{ℕ}
use mathlib.Core.Path.{◌≡◌}
use mathlib.Core.Bool.{Bool}
use mathlib.Core.List.{List}
use mathlib.Core.Logic.{◌↔◌}
use lib.ListN.{length, get_or}
use lib.Dec.{eqb}
use borrow.Author.Rules.{rules}
use borrow.Author.Tests.{eq-eqb, eqb-true}
use Rattle.std.specs.Prelude.{EachIndex, IsTrue}
use Rattle.combine.specs.Below.{all_below}
use Rattle.combine.specs.Laws.Below.{bool-ext, all-make, all-at}
use Rattle.combine.proofs.all_equal.Goals as goal

each-equal : (cells : List ℕ) (number : ℕ) (b : Bool) → IsTrue b ↔ EachIndex cells (λ k. get_or cells k 0 ≡ number) → b ≡ all_below (length cells) (λ k. eqb (get_or cells k 0) number)
each-equal cells number b e =
    bool-ext _ _
    (λ t. all-make _ _ (λ k l. eq-eqb _ _ (e.0 t k l)))
    (λ t. e.1 (λ k l. eqb-true _ _ (all-at _ _ t k l)))

pub returns : goal.returns
returns c = each-equal c.args.cells.now c.args.number c.all.result (search rules)
