-- Laws of door/specs/SignedHanded.antt: from a signed answer to its number and back. Assumes nothing.
use Rattle.std.specs.Prelude.{ℕ, ◌+◌, ◌≡◌, refl, ◌↔◌, List, ℤ, pos, negsuc}
use Rattle.std.proofs.Common.{sym, ap, ◌∙◌}
use Rattle.answers.specs.Said.{SignedAnswer, said_signed}
use Rattle.answers.specs.Laws.Said.{one-signed-answer}
use Rattle.combine.specs.Verdict.{Verdict, Said, done, refused, on_done}
use Rattle.cells.specs.Outcomes.{Lent, lent}
use Rattle.cells.specs.Signed.{SignedOutcome, signed_outcome}
use Rattle.door.specs.Handed.{first_refused, packed, unpacked, Packs}
use Rattle.door.specs.SignedHanded.{packed_signed, PacksSigned, unpacked_signed, handed_signed}
use Rattle.door.specs.Laws.Exactly.{exactly, one_of}
use Rattle.door.specs.Laws.Handed.{unpacked-done, unpacked-refused, packed-unpacked, packs}

pub signed-done : (z : ℤ) → PacksSigned (done z) → unpacked_signed z ≡ done z
unfolding unpacked_signed
signed-done (pos n) h = ap (on_done pos) (unpacked-done n h)
signed-done (negsuc k) h = refl

pub signed-refused : (n : ℕ) → unpacked_signed (pos (first_refused + n)) ≡ refused n
unfolding unpacked_signed
signed-refused n = ap (on_done pos) (unpacked-refused n)

-- ---- a number is one answer, and an answer has one number

-- a plain answer, read as a signed one, has the same number, and packs where it did
plain-packed : (a : Said) → packed_signed (on_done pos a) ≡ pos (packed a)
plain-packed (done n) = refl
plain-packed (refused n) = refl

plain-packs : (a : Said) → Packs a → PacksSigned (on_done pos a)
plain-packs (done n) h = h
plain-packs (refused n) h = h

pub packed-unpacked-signed : (z : ℤ) → packed_signed (unpacked_signed z) ≡ z
unfolding unpacked_signed
packed-unpacked-signed (pos m) = plain-packed (unpacked m) ∙ ap pos (packed-unpacked m)
packed-unpacked-signed (negsuc k) = refl

pub unpacked-packed-signed : (a : Verdict ℤ) → PacksSigned a → unpacked_signed (packed_signed a) ≡ a
unpacked-packed-signed (done z) h = signed-done z h
unpacked-packed-signed (refused n) h = signed-refused n

packs_signed : (z : ℤ) → PacksSigned (unpacked_signed z)
unfolding unpacked_signed
packs_signed (pos m) = plain-packs (unpacked m) (packs m)
packs_signed (negsuc k) = tt

-- a number is an answer exactly if it is that answer's number
pub number-signed-answer : (z : ℤ) (a : Verdict ℤ) → (unpacked_signed z ≡ a) ↔ ((z ≡ packed_signed a) × PacksSigned a)
number-signed-answer = exactly packed_signed unpacked_signed PacksSigned unpacked-packed-signed packed-unpacked-signed packs_signed

-- two answers of the code that have one number are one answer
pub one-packed-signed : (a b : SignedAnswer) → PacksSigned (said_signed a) → PacksSigned (said_signed b) → packed_signed (said_signed a) ≡ packed_signed (said_signed b) → a ≡ b
one-packed-signed = one_of packed_signed unpacked_signed PacksSigned unpacked-packed-signed said_signed one-signed-answer

-- ---- outcomes

-- two calls have the same outcome exactly if their callers are handed the same number and the same cells
pub one-signed-number : (o p : SignedOutcome) (z w : ℤ) (x y : Lent) → handed_signed z x ≡ o → handed_signed w y ≡ p → (o ≡ p) ↔ ((z ≡ w) × (x ≡ y))
unfolding handed_signed
one-signed-number o p z w x y d e = (
  λ q. let h : handed_signed z x ≡ handed_signed w y = d ∙ q ∙ sym e in
      (sym (packed-unpacked-signed z) ∙ ap (λ (s : SignedOutcome). packed_signed s.answer) h ∙ packed-unpacked-signed w, ap (λ (s : SignedOutcome). s.after) h),
  λ t. sym d ∙ (λ j. handed_signed (t.0 j) (t.1 j)) ∙ e,
)

-- a call's outcome, with the answer as its number
pub hand-signed : (a : SignedAnswer) (s t : List ℕ) (o : SignedOutcome) (z : ℤ) → unpacked_signed z ≡ said_signed a → signed_outcome a s t ≡ o → handed_signed z (lent s t) ≡ o
unfolding handed_signed signed_outcome
hand-signed a s t o z p q = (λ j. record { answer = p j; after = lent s t }) ∙ q
