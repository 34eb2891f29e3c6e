-- Laws of cells/specs/Signed.antt: a promise that is an equation of what a signed call hands over "admits one outcome"; and the bits that a signed write
-- stores are read as the number that was written. Assumes nothing.
use Rattle.std.specs.Prelude.{ℕ, ◌≡◌, false, List, ℤ}
use Rattle.std.proofs.Common.{sym, ap, ◌∙◌}
use Rattle.combine.specs.Verdict.{done}
use Rattle.combine.specs.Outcome.{outcome_of}
use Rattle.numbers.specs.Numbers.{signed_bits, out_of_range}
use Rattle.numbers.specs.Laws.Numbers.{signed_back}
use Rattle.answers.specs.Said.{SignedAnswer}
use Rattle.answers.specs.Laws.Said.{one-signed-answer}
use Rattle.cells.specs.Outcomes.{Lent}
use Rattle.cells.specs.Signed.{SignedOutcome, signed_outcome, read_signed}

pub one-signed : (o : SignedOutcome) (a b : SignedAnswer) (s s' t t' : List ℕ) → signed_outcome a s t ≡ o → signed_outcome b s' t' ≡ o → (a ≡ b) × (s ≡ s') × (t ≡ t')
unfolding signed_outcome
one-signed o a b s s' t t' p q =
    let e : signed_outcome a s t ≡ signed_outcome b s' t' = p ∙ sym q in
    (one-signed-answer a b (ap (λ (z : SignedOutcome). z.answer) e), ap (λ (z : SignedOutcome). z.after.store) e, ap (λ (z : SignedOutcome). z.after.tables) e)

pub read-as-written : (z : ℤ) → out_of_range z ≡ false → (x : Lent) → read_signed (outcome_of (done (signed_bits z)) x) ≡ record { answer = done z; after = x }
unfolding read_signed
read-as-written z h x = λ i. record { answer = done (signed_back z h i); after = x }
