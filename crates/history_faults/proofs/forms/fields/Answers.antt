-- A form is cut at each space.
use Rattle.std.proofs.Common.{◌<◌, sym, subst, arith, lit<}
use Rattle.std.specs.Char.{len_utf8}
use Rattle.history_faults.proofs.Cuts.{inside_at_char}
use Rattle.history_faults.proofs.forms.fields.Goals as goal

pub returns : goal.returns
returns c =
    let some = subst (λ byte. 0 < len_utf8 byte) (sym c.split.ensures.pattern) (lit< tt) in
    let parts = inside_at_char c.args.form.now c.split.result c.split.ensures.text some in
    grind arith
