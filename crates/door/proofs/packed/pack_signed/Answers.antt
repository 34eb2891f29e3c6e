-- `door::packed::pack_signed` meets its contract. Assumes nothing.
use Rattle.std.proofs.Common.{◌≡◌, ap, sym, ◌∙◌, arith, rules, ℤ, pos, ◌+ℤ◌, to_z, of_z}
use mir.Syntax.{w32, w64}
use mir.Val.{SFits}
use Rattle.answers.specs.Said.{said_signed}
use Rattle.combine.specs.Verdict.{refused}
use Rattle.door.specs.Handed.{first_refused}
use Rattle.door.specs.SignedHanded.{unpacked_signed}
use Rattle.door.specs.Laws.SignedHanded.{signed-done, signed-refused}
use Rattle.door.proofs.SignedNumbers.{done-reads, done-packs, refused-reads}
use Rattle.door.proofs.packed.pack_signed.Goals as goal

pub returns-in-Ok : goal.returns-in-Ok
returns-in-Ok c =
    let z = c.in-Ok.number in
    let f : SFits w32 z = record { sfits = omega arith } in
    let same : c.from.result ≡ z = search rules in
    ap (λ (y : ℤ). unpacked_signed (to_z w64 (of_z w64 y))) same
    ∙ ap unpacked_signed (done-reads z f) ∙ signed-done z (done-packs z f) ∙ sym (ap said_signed c.in-Ok.is)

pub returns-in-Err : goal.returns-in-Err
returns-in-Err c =
    let n = c.number.result in
    let same : c.from-in-Err.result ≡ pos n = search rules in
    ap (λ (y : ℤ). unpacked_signed (to_z w64 (of_z w64 (pos first_refused +ℤ to_z w64 (of_z w64 y))))) same
    ∙ ap unpacked_signed (refused-reads n (record { fits = c.number.type_inv }))
    ∙ signed-refused n ∙ ap refused c.number.ensures ∙ sym (ap said_signed c.in-Err.is)
