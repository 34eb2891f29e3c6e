-- The premises of demand 3 but one: what a story meets that shows the one to be needed. Assumes nothing.
use Rattle.std.specs.Prelude.{ℕ, Bool, true, false, not, ◌&&◌, ◌||◌, cond, List, [], ◌∷◌, ◌++◌, T, eqb}
use Rattle.std.proofs.Math.Bool.{and-false}
use Rattle.std.proofs.Common.{sym, subst}
use Rattle.combine.specs.Verdict.{Said, done, refused, is_done}
use Rattle.combine.specs.Laws.Tests.{and_intro}
use Rattle.rules.specs.Calls.{Call}
use Rattle.cells.specs.Outcomes.{Lent, call_run}
use Rattle.demands.specs.History.{outcome_on, after_call, final, Each}
use Rattle.demands.specs.Laws.History.{each_both}
use Rattle.demands.specs.Hearing.{answered_as}
use Rattle.demands.specs.Abandoning.{is_on, ends, crowded, quiet, Quiet, NoLoad, Story, opening_call, abandoning, Abandoned}

-- ---- but that other calls between may be answered n: 9, "no room", or 14, "not now"

abbrev pub refused_for : ℕ → Said → Bool
refused_for n (done m) = false
refused_for n (refused m) = eqb m n

abbrev pub quiet_but : ℕ → ℕ → ℕ → Call → Said → Bool
quiet_but n u e c a = refused_for n a || quiet u e c a

abbrev pub QuietBut : ℕ → ℕ → ℕ → List Call → Lent → Type 0
QuietBut n u e = Each (λ c x. T (quiet_but n u e c (answered_as c x)))

pub record AbandonedBut (n : ℕ) (h : Story) (x : Lent) : Type 0 where
  pub opened : T (is_done (outcome_on (opening_call h) (final h.before x)).answer)
  pub quietly : QuietBut n h.user h.entry h.between (after_call (opening_call h) (final h.before x))
  pub no_load : NoLoad h.later (final (h.before ++ opening_call h ∷ (h.between ++ abandoning h ∷ [])) x)

-- the premise left out: no call but the user's on the entry is answered n
abbrev pub NoneAnswered : ℕ → ℕ → ℕ → List Call → Lent → Type 0
NoneAnswered n u e = Each (λ c x. T (is_on u e c || not (refused_for n (answered_as c x))))

quiet-with : (n u e : ℕ) (c : Call) (a : Said) → T (quiet_but n u e c a) → T (is_on u e c || not (refused_for n a)) → T (quiet u e c a)
quiet-with n u e c (done m) q t = q
quiet-with n u e c (refused m) q t = go (eqb m n) (is_on u e c) (ends u e c) q t
  where
    go : (for own ending : Bool) → T (for || (not (ending && false) && (own || not (crowded (refused m))))) → T (own || not for)
        → T (not (ending && false) && (own || not (crowded (refused m))))
    go false own ending q t = q
    go true true true q t = tt
    go true true false q t = tt
    go true false ending q t = absurd t

-- with it, these are the premises of demand 3
pub with-none-answered : (n : ℕ) (h : Story) (x : Lent) → AbandonedBut n h x
    → NoneAnswered n h.user h.entry h.between (after_call (opening_call h) (final h.before x)) → Abandoned h x
with-none-answered n h x a t = record { opened = a.opened; quietly = each_both _ _ _ (λ c y. quiet-with n h.user h.entry c (answered_as c y)) h.between _ a.quietly t; no_load = a.no_load }

-- ---- but that a run is taken for what it is answered: what stops it after some elements is not seen

abbrev pub QuietByAnswer : ℕ → ℕ → List Call → Lent → Type 0
QuietByAnswer u e = Each (λ c x. T (quiet u e c (outcome_on c x).answer))

pub record AbandonedByAnswer (h : Story) (x : Lent) : Type 0 where
  pub opened : T (is_done (outcome_on (opening_call h) (final h.before x)).answer)
  pub quietly : QuietByAnswer h.user h.entry h.between (after_call (opening_call h) (final h.before x))
  pub no_load : NoLoad h.later (final (h.before ++ opening_call h ∷ (h.between ++ abandoning h ∷ [])) x)

-- the premise left out: no run but the user's on the entry is stopped by 9 or 14
abbrev pub NoneStopped : ℕ → ℕ → List Call → Lent → Type 0
NoneStopped u e = Each (λ c x. T (is_on u e c || not (crowded (refused (call_run c x.store x.tables).stop))))

quiet-unstopped : (u e : ℕ) (c : Call) (a : Said) (n : ℕ) → T (quiet u e c a) → T (is_on u e c || not (crowded (refused n))) → T (quiet u e c (cond (eqb n 0) a (refused n)))
quiet-unstopped u e c a n q t = go (eqb n 0)
  where
    go : (unstopped : Bool) → T (quiet u e c (cond unstopped a (refused n)))
    go true = q
    go false = and_intro (not (ends u e c && false)) (is_on u e c || not (crowded (refused n))) (subst (λ (b : Bool). T (not b)) (sym (and-false (ends u e c))) tt) t

pub with-none-stopped : (h : Story) (x : Lent) → AbandonedByAnswer h x → NoneStopped h.user h.entry h.between (after_call (opening_call h) (final h.before x)) → Abandoned h x
with-none-stopped h x a t = record { opened = a.opened; quietly = each_both _ _ _ (λ c y. quiet-unstopped h.user h.entry c (outcome_on c y).answer (call_run c y.store y.tables).stop) h.between _ a.quietly t; no_load = a.no_load }

-- ---- but that an image may be loaded after the abandonment

pub record AbandonedThenLoaded (h : Story) (x : Lent) : Type 0 where
  pub opened : T (is_done (outcome_on (opening_call h) (final h.before x)).answer)
  pub quietly : Quiet h.user h.entry h.between (after_call (opening_call h) (final h.before x))

pub with-none-loaded : (h : Story) (x : Lent) → AbandonedThenLoaded h x → NoLoad h.later (final (h.before ++ opening_call h ∷ (h.between ++ abandoning h ∷ [])) x) → Abandoned h x
with-none-loaded h x a n = record { opened = a.opened; quietly = a.quietly; no_load = n }
