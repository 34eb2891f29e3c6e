-- Laws of door/specs/Handed.antt: from an answer to its number and back. Assumes nothing.
use Rattle.std.specs.Prelude.{ℕ, ◌+◌, ◌-◌, ◌<◌, ◌≡◌, refl, ◌↔◌, Err, Ok}
use Rattle.std.proofs.Math.Path.{sym, ap}
use Rattle.std.proofs.Common.{subst, ◌∙◌, ⊎_elim, arith, lt-ltb, le-ltb}
use Rattle.answers.specs.declared.Refusal.{Refusal}
use Rattle.answers.specs.Said.{Answer, refusal_number, said}
use Rattle.answers.specs.Laws.Said.{one_answer}
use Rattle.combine.specs.Verdict.{Said, done, refused}
use Rattle.combine.specs.Outcome.{Outcome, outcome_of}
use Rattle.combine.specs.Laws.Numbers.{le-or-lt}
use Rattle.door.specs.Laws.Exactly.{exactly, one_of}
use Rattle.door.specs.Handed.{first_refused, packed, unpacked, Packs, handed}

pub unpacked-done : (n : ℕ) → n < first_refused → unpacked n ≡ done n
unfolding unpacked
unpacked-done n h = rw (lt-ltb n first_refused h)

pub unpacked-refused : (n : ℕ) → unpacked (first_refused + n) ≡ refused n
unfolding unpacked
unpacked-refused n =
    let e : first_refused + n - first_refused ≡ n = omega arith in
    rw (le-ltb (first_refused + n) first_refused (omega arith), e)

-- ---- a number is one answer, and an answer has one number

pub packed-unpacked : (m : ℕ) → packed (unpacked m) ≡ m
packed-unpacked m =
    ⊎_elim
    (λ h. let e : first_refused + (m - first_refused) ≡ m = omega arith in ap packed (sym (ap unpacked e) ∙ unpacked-refused (m - first_refused)) ∙ e)
    (λ h. ap packed (unpacked-done m h))
    (le-or-lt first_refused m)

pub unpacked-packed : (a : Said) → Packs a → unpacked (packed a) ≡ a
unpacked-packed (done n) h = unpacked-done n h
unpacked-packed (refused n) h = unpacked-refused n

pub packs : (m : ℕ) → Packs (unpacked m)
packs m =
    ⊎_elim
    (λ h. let e : first_refused + (m - first_refused) ≡ m = omega arith in subst Packs (sym (unpacked-refused (m - first_refused)) ∙ ap unpacked e) tt)
    (λ h. subst Packs (sym (unpacked-done m h)) h)
    (le-or-lt first_refused m)

-- a number is an answer exactly if it is that answer's number
pub number-answer : (m : ℕ) (a : Said) → (unpacked m ≡ a) ↔ ((m ≡ packed a) × Packs a)
number-answer = exactly packed unpacked Packs unpacked-packed packed-unpacked packs

-- it is done n exactly if it is n, below 2^32
pub number-done : (m n : ℕ) → (unpacked m ≡ done n) ↔ ((m ≡ n) × (n < first_refused))
number-done m n = number-answer m (done n)

-- it is refused n exactly if it is 2^32 + n
pub number-refused : (m n : ℕ) → (unpacked m ≡ refused n) ↔ (m ≡ first_refused + n)
number-refused m n = (λ e. ((number-answer m (refused n)).0 e).0, λ h. (number-answer m (refused n)).1 (h, tt))

-- ---- the same of the code's answers

-- two answers that have one number are one answer
pub one-packed : (a b : Answer) → Packs (said a) → Packs (said b) → packed (said a) ≡ packed (said b) → a ≡ b
one-packed = one_of packed unpacked Packs unpacked-packed said one_answer

module _ (a : Answer) (m : ℕ) (e : unpacked m ≡ said a) where
  pub answer-done : (n : ℕ) → (a ≡ Ok n) ↔ ((m ≡ n) × (n < first_refused))
  answer-done n =
      (λ p. (number-done m n).0 (e ∙ ap said p), λ h. one_answer a (Ok n) (sym e ∙ (number-done m n).1 h))

  -- n is a number of the table
  pub answer-refused : (n : ℕ) → ((r : Refusal) × (refusal_number r ≡ n) × (a ≡ Err r)) ↔ (m ≡ first_refused + n)
  answer-refused n =
      (λ t. (number-refused m n).0 (e ∙ ap said t.2 ∙ ap refused t.1), λ h. inside a (sym e ∙ (number-refused m n).1 h))
    where
      inside : (b : Answer) → said b ≡ refused n → (r : Refusal) × (refusal_number r ≡ n) × (b ≡ Err r)
      inside (Ok k) p = let z : ◌≡◌ {A = ℕ} 0 1 = cc in absurd (let w : ⊥ = omega arith in w)
      inside (Err r) p = (r, (cc), refl)

-- ---- outcomes

module _ {S : Type 0} where
  -- two calls have the same outcome exactly if their callers are handed the same number and the same state
  pub one-number : (o p : Outcome S) (m k : ℕ) (x y : S) → handed m x ≡ o → handed k y ≡ p → (o ≡ p) ↔ ((m ≡ k) × (x ≡ y))
  unfolding handed
  one-number o p m k x y d e = (
    λ q. let h : outcome_of (unpacked m) x ≡ outcome_of (unpacked k) y = d ∙ q ∙ sym e in
        (sym (packed-unpacked m) ∙ ap (λ (z : Outcome S). packed z.answer) h ∙ packed-unpacked k, ap (λ (z : Outcome S). z.after) h),
    λ t. sym d ∙ (λ j. handed (t.0 j) (t.1 j)) ∙ e,
  )

  -- a call's outcome, with the answer as its number
  pub hand : (a : Answer) (x : S) (o : Outcome S) (n : ℕ) → unpacked n ≡ said a → outcome_of (said a) x ≡ o → handed n x ≡ o
  unfolding handed
  hand a x o n p q = ap (λ b. outcome_of b x) p ∙ q
