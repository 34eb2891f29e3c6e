-- What is answered and left, where a line may ask for a call. Assumes nothing.
use Rattle.std.specs.Prelude.{ℕ, ◌≡◌, Bool, true, false, cond, List, ℤ, Option, Some, None}
use Rattle.std.proofs.Math.Path.{refl, ap}
use Rattle.std.proofs.Common.{◌∙◌}
use Rattle.numbers.specs.Numbers.{signed_of}
use Rattle.answers.specs.Said.{Answer, SignedAnswer, said, said_signed}
use Rattle.combine.specs.Verdict.{Verdict, Said, done, refused, on_done}
use Rattle.combine.specs.Outcome.{Outcome, outcome_of}
use Rattle.rules.specs.Calls.{Act, rename, reset, new_pointer, delete_pointer, write, next, prev, write_signed, next_signed, prev_signed, ask_species, ask_claim, ask_permit, ask_symbol, ask_begin, ask_end, ask_value}
use Rattle.rules.specs.Calls.{opens, closes, abandons, uses, count, Call, starts, asks, arranges, on, runs}
use Rattle.cells.specs.Outcomes.{Lent, lent, free_out, call_out}
use Rattle.cells.specs.Signed.{SignedOutcome, signed_outcome, read_signed}
use Rattle.cells.specs.Laws.Operator.{asked-count}
use Rattle.history_calls.specs.declared.Reply.{Reply}
use Rattle.history_calls.specs.declared.Reply.TheVariants.{Done, DoneSigned, Refused, Bad}

abbrev pub reply_of : Said → Reply
reply_of (done n) = Done n
reply_of (refused n) = Refused n

abbrev pub reply_signed : Verdict ℤ → Reply
reply_signed (done z) = DoneSigned z
reply_signed (refused n) = Refused n

-- "N signed where it is an element": by the calls that give one of species 6
abbrev pub act_signed : Act → Bool
act_signed (rename bytes) = false
act_signed reset = false
act_signed (new_pointer p) = false
act_signed (delete_pointer p) = false
act_signed (write p n) = false
act_signed (next p) = false
act_signed (prev p) = false
act_signed (write_signed p z) = false
act_signed (next_signed p) = true
act_signed (prev_signed p) = true
act_signed ask_species = false
act_signed ask_claim = false
act_signed ask_permit = false
act_signed (ask_symbol k) = false
act_signed ask_begin = false
act_signed ask_end = false
act_signed (ask_value p) = false

abbrev pub gives_signed : Call → Bool
gives_signed (starts c) = false
gives_signed (asks q) = false
gives_signed (arranges q) = false
gives_signed (on u e (opens w)) = false
gives_signed (on u e (closes p)) = false
gives_signed (on u e abandons) = false
gives_signed (on u e (uses a)) = act_signed a
gives_signed (runs u e r) = false

abbrev pub reply_to : Call → Said → Reply
reply_to c a = cond (gives_signed c) (reply_signed (on_done signed_of a)) (reply_of a)

-- the reply, and the cells afterwards
pub record Told : Type 0 where
  pub reply : Reply
  pub cells : Lent

unfoldable pub told : Reply → Lent → Told
told r x = record { reply = r; cells = x }

unfoldable pub told_by : Call → Outcome Lent → Told
told_by c o = told (reply_to c o.answer) o.after

-- "A line that is none of those below .. changes nothing"
unfoldable pub told_of : Option Call → List ℕ → List ℕ → Told
told_of None s t = told Bad (lent s t)
told_of (Some c) s t = told_by c (call_out c s t)

module _ (s t : List ℕ) where
  pub tell-call : (a : Answer) (r : Reply) (x : Lent) (c : Call) → r ≡ reply_to c (said a) → outcome_of (said a) x ≡ call_out c s t → told r x ≡ told_of (Some c) s t
  unfolding told_of told_by
  tell-call a r x c p q = ap (λ y. told y x) p ∙ ap (told_by c) q

  pub tell-signed : (a : SignedAnswer) (r : Reply) (y z : List ℕ) (c : Call) → gives_signed c ≡ true → r ≡ reply_signed (said_signed a)
      → signed_outcome a y z ≡ read_signed (call_out c s t) → told r (lent y z) ≡ told_of (Some c) s t
  unfolding told_of told_by signed_outcome read_signed
  tell-signed a r y z c g p q = simp g (ap (λ w. told w (lent y z)) p ∙ ap (λ (o : SignedOutcome). told (reply_signed o.answer) o.after) q)

  -- "the number of free segments"
  pub tell-count : (a : Answer) (r : Reply) (x : Lent) (u : ℕ) → r ≡ reply_of (said a) → outcome_of (said a) x ≡ free_out s t u → told r x ≡ told_of (Some (asks (count u))) s t
  tell-count a r x u p q = tell-call a r x (asks (count u)) p (q ∙ asked-count s t u)

  pub tell_none : told Bad (lent s t) ≡ told_of None s t
  unfolding told_of
  tell_none = refl
