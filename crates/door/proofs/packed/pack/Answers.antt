-- `door::packed::pack` meets its contract. Assumes nothing.
use Rattle.std.proofs.Common.{◌≡◌, ℕ, ◌+◌, ap, sym, ◌∙◌, arith, rules}
use Rattle.answers.specs.Said.{refusal_number, said}
use Rattle.door.specs.Handed.{first_refused, unpacked}
use Rattle.door.specs.Laws.Handed.{unpacked-done, unpacked-refused}
use Rattle.door.proofs.packed.pack.Goals as goal

pub returns-in-Ok : goal.returns-in-Ok
returns-in-Ok c =
    let same : c.from.result ≡ c.in-Ok.number = search rules in
    ap unpacked same ∙ unpacked-done _ (omega arith) ∙ ap said (sym c.in-Ok.is)

pub returns-in-Err : goal.returns-in-Err
returns-in-Err c =
    let same : c.from-in-Err.result ≡ refusal_number c.in-Err.why = search rules in
    ap (λ (n : ℕ). unpacked (first_refused + n)) same ∙ unpacked-refused _ ∙ ap said (sym c.in-Err.is)
