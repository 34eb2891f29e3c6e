-- Laws of answers/specs/Said.antt. Assumes nothing.
use Rattle.std.specs.Prelude.{ℕ, ◌-◌, ◌≡◌, refl, ◌≢◌, [], ◌∷◌, ℤ, get_or, Err, Ok}
use Rattle.std.proofs.Common.{sym, ap, ◌∙◌, arith}
use Rattle.answers.specs.declared.Refusal.{Refusal}
use Rattle.answers.specs.declared.Refusal.TheVariants as R
use Rattle.answers.specs.Said.{Answer, SignedAnswer, refusal_number, said, said_signed}
use Rattle.combine.specs.Verdict.{Verdict, Said, refused, done}

-- ---- there is one answer that says it

-- at 12, which is never given, stands any of them
refusal_of : ℕ → Refusal
refusal_of n = get_or (R.User ∷ R.Entry ∷ R.Open ∷ R.Pointer ∷ R.Permit ∷ R.Below ∷ R.Beyond ∷ R.Segments ∷ R.Room ∷ R.Positions ∷ R.Unknown ∷ R.User ∷ R.NoWork ∷ R.NotNow ∷ R.Empty ∷ R.Taken ∷ R.Place ∷ R.Public ∷ R.Species ∷ R.Tables ∷ R.Pointers ∷ R.Image ∷ R.Wide ∷ R.Far ∷ []) (n - 1) R.User

refusal-of : (r : Refusal) → refusal_of (refusal_number r) ≡ r
unfolding refusal_of
refusal-of R.User = refl
refusal-of R.Entry = refl
refusal-of R.Open = refl
refusal-of R.Pointer = refl
refusal-of R.Permit = refl
refusal-of R.Below = refl
refusal-of R.Beyond = refl
refusal-of R.Segments = refl
refusal-of R.Room = refl
refusal-of R.Positions = refl
refusal-of R.Unknown = refl
refusal-of R.NoWork = refl
refusal-of R.NotNow = refl
refusal-of R.Empty = refl
refusal-of R.Taken = refl
refusal-of R.Place = refl
refusal-of R.Public = refl
refusal-of R.Species = refl
refusal-of R.Tables = refl
refusal-of R.Pointers = refl
refusal-of R.Image = refl
refusal-of R.Wide = refl
refusal-of R.Far = refl

-- "12 is never given again": no refusal has the number
pub twelve-is-none : (r : Refusal) → refusal_number r ≢ 12
unfolding refusal_of
twelve-is-none r e =
    let one : ◌≡◌ {A = ℕ} 1 12 = ap refusal_number (sym (ap refusal_of e) ∙ refusal-of r) ∙ e in
    omega arith

answer_of : Said → Answer
answer_of (done n) = Ok n
answer_of (refused n) = Err (refusal_of n)

answer-of : (a : Answer) → answer_of (said a) ≡ a
unfolding answer_of
answer-of (Ok n) = refl
answer-of (Err r) = ap Err (refusal-of r)

pub one_answer : (a b : Answer) → said a ≡ said b → a ≡ b
one_answer a b e = sym (answer-of a) ∙ ap answer_of e ∙ answer-of b

signed_answer_of : Verdict ℤ → SignedAnswer
signed_answer_of (done z) = Ok z
signed_answer_of (refused n) = Err (refusal_of n)

signed-answer-of : (a : SignedAnswer) → signed_answer_of (said_signed a) ≡ a
unfolding signed_answer_of
signed-answer-of (Ok z) = refl
signed-answer-of (Err r) = ap Err (refusal-of r)

pub one-signed-answer : (a b : SignedAnswer) → said_signed a ≡ said_signed b → a ≡ b
one-signed-answer a b e = sym (signed-answer-of a) ∙ ap signed_answer_of e ∙ signed-answer-of b
