-- What the code's casts and sums of signed numbers are: a number z is read back from its bits, to_z w (of_z w z). Assumes nothing.
use Prim.Native.Nat.{ℕ, ◌+◌}
use mathlib.Core.Path.{◌≡◌, ap, ◌∙◌}
use mathlib.Core.List.{List}
use native.Mathlib.Omega.{arith}
use lib.IntN.{ℤ, pos, negsuc, ◌+ℤ◌}
use mir.Syntax.{w32, w64}
use mir.Val.{Fits, SFits, of_z, to_z}
use mir.ValLaws.{to_z-of_z}
use Rattle.combine.specs.Verdict.{done}
use Rattle.combine.specs.Outcome.{outcome_of}
use Rattle.answers.specs.Said.{Answer, SignedAnswer, said, said_signed}
use Rattle.rules.specs.Calls.{uses, write_signed}
use Rattle.cells.specs.Outcomes.{Lent, lent, request_out}
use Rattle.cells.specs.Signed.{SignedOutcome, signed_outcome}
use Rattle.door.specs.Handed.{first_refused, unpacked, handed}
use Rattle.door.specs.SignedHanded.{PacksSigned, unpacked_signed, handed_signed}
use Rattle.door.specs.Laws.Handed.{hand}
use Rattle.door.specs.Laws.SignedHanded.{hand-signed}

-- ---- pack_signed: a done number of 32 bits, and a refusal's

module _ (z : ℤ) (f : SFits w32 z) where
  pub done-reads : to_z w64 (of_z w64 z) ≡ z
  done-reads = to_z-of_z w64 z (record { sfits = omega (arith, f.sfits) })

pub done-packs : (z : ℤ) → SFits w32 z → PacksSigned (done z)
done-packs (pos n) f = omega (arith, f.sfits)
done-packs (negsuc k) f = tt

pub refused-reads : (n : ℕ) → Fits w32 n → to_z w64 (of_z w64 (pos first_refused +ℤ to_z w64 (of_z w64 (pos n)))) ≡ pos (first_refused + n)
refused-reads n f =
    ap (λ (z : ℤ). to_z w64 (of_z w64 (pos first_refused +ℤ z))) (to_z-of_z w64 (pos n) (record { sfits = omega (arith, f.fits) }))
    ∙ to_z-of_z w64 (pos (first_refused + n)) (record { sfits = omega (arith, f.fits) })

-- ---- the exports: a signed number that is handed out, and one that is taken

pub handed-back : (a : SignedAnswer) (s t : List ℕ) (o : SignedOutcome) (z : ℤ) → SFits w64 z → unpacked_signed z ≡ said_signed a → signed_outcome a s t ≡ o → handed_signed (to_z w64 (of_z w64 z)) (lent s t) ≡ o
handed-back a s t o z f p q = ap (λ (y : ℤ). handed_signed y (lent s t)) (to_z-of_z w64 z f) ∙ hand-signed a s t o z p q

pub taken_back : (z : ℤ) → SFits w32 z → (s t : List ℕ) (u e p : ℕ) (a : Answer) (m : ℕ) (x : Lent) → unpacked m ≡ said a
    → outcome_of (said a) x ≡ request_out (uses (write_signed p (to_z w32 (of_z w32 z)))) s t u e → handed m x ≡ request_out (uses (write_signed p z)) s t u e
taken_back z f s t u e p a m x h q =
    hand a x _ m h q ∙ ap (λ (y : ℤ). request_out (uses (write_signed p y)) s t u e) (to_z-of_z w32 z f)

pub ruleset signed-calls = (handed-back, taken_back)
