-- The list of forms is cut at each semicolon with a space.
use Rattle.std.proofs.Common.{◌<◌, length, ap, arith}
use Rattle.history_faults.proofs.Cuts.{pattern_of, inside_at_text}
use Rattle.history_faults.proofs.forms.form_of.Goals as goal

pub returns-clause-inside : goal.returns-clause-inside
returns-clause-inside c =
    let cut = c.split.ensures in
    let some : 0 < length (pattern_of c.split.result) = omega (arith, ap (λ text. length text.now) cut.pattern) in
    let parts = inside_at_text _ c.split.result cut.text some in
    grind arith
