use mathlib.Core.Path.{ap, ◌∙◌}
use lib.IntN.{ℤ}
use Rattle.numbers.proofs.Laws.{read_back}
use Rattle.rules.specs.Calls.{uses, write_signed}
use Rattle.cells.specs.Outcomes.{request_out}
use Rattle.call_write.proofs.write_signed.Goals as goal

pub returns : goal.returns
returns c =
    c.write_of.ensures
    ∙ ap (λ (z : ℤ). request_out (uses (write_signed c.args.pointer z)) c.args.store.now c.args.tables.now c.args.user c.args.entry) (read_back c.args.number c.ranges.number)
