-- The first part that comes of a form is its first word, and stands at its begin.
use Rattle.std.proofs.Common.{◌≡◌, ◌∙◌, sym, ap, true≢false, arith, ◌==◌, ◌++◌, drop, take-append-drop}
use Rattle.std.specs.List.{position_or_len}
use Rattle.std.proofs.lemmas.Slice.Eq.{bytes_eq-Decides, starts_is}
use Rattle.std.proofs.lemmas.Bool.Decides.{Decides-eqb}
use Rattle.history_faults.proofs.Cuts.{first_part}
use Rattle.history_faults.proofs.forms.is_begun_by.Goals as goal

pub returns-then-not-starts_with : goal.returns-then-not-starts_with
returns-then-not-starts_with c =
    let form = c.args.form.now in
    let word = c.args.word.now in
    let rest = drop (position_or_len (λ byte. byte == 32) form) form in
    let starts = (starts_is Decides-eqb c.as_bytes.result.now word c.starts_with.result c.starts_with.ensures.value).1 in
    (λ t. absurd (true≢false (sym t)), λ e. sym c.if-not-starts_with.true ∙ starts rest (c.as_bytes.ensures.value ∙ sym (take-append-drop _ form) ∙ ap (λ l. l ++ rest) e))

pub returns : goal.returns
returns c =
    let cut = c.split.ensures in
    let first = first_part c.args.form.now _ _ _ cut.text cut.has_more cut.pattern c.next.ensures.steps in
    grind (arith, bytes_eq-Decides)
