-- `numbers::is_out_of_range` meets its contract. Assumes nothing.
use mathlib.Core.Path.{◌∙◌}
use mathlib.Core.Bool.{true, false}
use Rattle.numbers.proofs.Laws.{out-is}
use Rattle.numbers.proofs.is_out_of_range.Goals as goal

pub returns-then-number-lt-LEAST_SIGNED : goal.returns-then-number-lt-LEAST_SIGNED
returns-then-number-lt-LEAST_SIGNED c = c.if-number-lt-LEAST_SIGNED.true ∙ out-is c.args.number c.ranges.number true c.if-number-lt-LEAST_SIGNED.true

pub returns-else-number-lt-LEAST_SIGNED : goal.returns-else-number-lt-LEAST_SIGNED
returns-else-number-lt-LEAST_SIGNED c = out-is c.args.number c.ranges.number false c.if-number-lt-LEAST_SIGNED.false
