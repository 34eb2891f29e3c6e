-- `run_spans::ahead` meets its contract: what is left of the stretch, or fewer. Assumes nothing.
use Prim.Native.Nat.{◌-◌}
use borrow.Author.Rules.{rules}
use Rattle.run_spans.specs.Ahead.{Fewer}
use Rattle.run_spans.proofs.Laws.{least-ahead}
use Rattle.run_spans.proofs.ahead.Goals as goal

pub returns : goal.returns
returns c =
    let least : Fewer c.left_in_stretch-here.result (c.number.result - c.number-2.result) c.min.result = search rules in
    search (least-ahead, rules)
