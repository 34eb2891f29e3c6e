-- `numbers::is_too_wide` meets its contract. Assumes nothing.
use mathlib.Core.Path.{ap, sym, ◌∙◌}
use Rattle.numbers.specs.Numbers.{out_of_range, too_wide}
use Rattle.numbers.proofs.Laws.{read_back}
use native.Mathlib.Omega.{arith}
use Rattle.numbers.proofs.is_too_wide.Goals as goal

pub returns-in-Plain : goal.returns-in-Plain
returns-in-Plain c = c.is_too_wide_plain.ensures ∙ sym (ap (too_wide c.args.species) c.in-Plain.is)

pub returns-in-Signed : goal.returns-in-Signed
returns-in-Signed c =
    c.is_out_of_range.ensures ∙ ap out_of_range (read_back c.in-Signed.signed (record { sfits = omega arith })) ∙ sym (ap (too_wide c.args.species) c.in-Signed.is)
