-- Laws of demands/specs/Hearing.antt. Assumes nothing.
use Rattle.std.specs.Prelude.{ℕ, ◌≡◌, refl, Bool, true, false, not, cond, T, ltb, eqb}
use Rattle.std.proofs.Common.{sym, subst, eqb-true}
use Rattle.std.proofs.Math.Option.{none}
use Rattle.combine.specs.Verdict.{Said, done, refused, refuse◌when◌else◌}
use Rattle.placing.specs.Sizes.{greatest_user}
use Rattle.rules.specs.Calls.{count, tidy, asks}
use Rattle.rules.specs.Gates.{user_gate, start_gate, still_gate}
use Rattle.rules.specs.House.{has_open}
use Rattle.rules.specs.Runs.{no_run}
use Rattle.model.specs.Model.{Model, free}
use Rattle.model.specs.Step.{Look, ask_model, arrange_model}
use Rattle.demands.specs.Hearing.{counts, left_fate, hear}

-- what is not answered, in the sense of `answered_as`, by a number that passes a test is not stopped by one; a stop of 0 is no refusal
pub unstopped : (f : Said → Bool) (stop : ℕ) (a : Said) → T (not (f (refused 0))) → T (not (f (cond (eqb stop 0) a (refused stop)))) → T (not (f (refused stop)))
unstopped f stop a never t = go (eqb stop 0) refl t
  where
    go : (b : Bool) → eqb stop 0 ≡ b → T (not (f (cond b a (refused stop)))) → T (not (f (refused stop)))
    go true p t = subst (λ (n : ℕ). T (not (f (refused n)))) (sym (eqb-true stop 0 p)) never
    go false p t = t

-- a number that may differ is not heard; the one refusal is, whatever the number would be
number-heard : (n : ℕ) (b : Bool) (j k : ℕ)
    → hear counts (record { answer = refuse n when b else done j; image = none; run = no_run }) ≡ hear counts (record { answer = refuse n when b else done k; image = none; run = no_run })
unfolding refuse◌when◌else◌
number-heard n true j k = refl
number-heard n false j k = refl

-- a count of an unknown user is refused, whatever is free
pub count-heard : (u : ℕ) (m n : Model)
    → hear (left_fate (asks (count u))) (record { answer = ask_model (count u) m; image = none; run = no_run })
    ≡ hear (left_fate (asks (count u))) (record { answer = ask_model (count u) n; image = none; run = no_run })
unfolding user_gate refuse◌when◌else◌
count-heard u m n = number-heard 1 (ltb greatest_user u) (free m.house) (free n.house)

-- a tidying with something open is refused, whatever is to move
pub tidy-heard : (f g : Look) (m n : Model) → has_open m.house ≡ has_open n.house
    → hear counts (record { answer = arrange_model f tidy m; image = none; run = no_run }) ≡ hear counts (record { answer = arrange_model g tidy n; image = none; run = no_run })
unfolding still_gate start_gate refuse◌when◌else◌
tidy-heard f g m n e = rw e (number-heard 14 (has_open n.house) f.copies g.copies)
