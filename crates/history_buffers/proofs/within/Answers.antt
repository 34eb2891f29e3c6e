use Rattle.std.proofs.Common.{arith, ◌∙◌}
use Rattle.history_buffers.specs.Laws.{min-within}
use Rattle.history_buffers.proofs.within.Goals as goal

pub returns : goal.returns
returns c = (c.min.ensures ∙ min-within c.args.lent c.args.most, omega (arith, c.min.ensures))
