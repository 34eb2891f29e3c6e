-- The entry that is to be opened, by the cases that the code goes through. Assumes nothing.
use Rattle.std.specs.Prelude.{Err, Ok}
use Prim.Native.Nat.{ℕ}
use mathlib.Core.Path.{◌≡◌, sym, ap, subst, ◌∙◌}
use mathlib.Core.Logic.{◌≢◌}
use mathlib.Core.Bool.{true}
use mathlib.Core.List.{List}
use lib.ListN.{length, get_or}
use borrow.Author.Tests.{eq-eqb, ne_eqb}
use Rattle.combine.specs.Outcome.{settle}
use Rattle.answers.specs.declared.Refusal.{Refusal}
use Rattle.answers.specs.declared.Refusal.TheVariants.{Open}
use Rattle.answers.specs.Said.{Answer}
use Rattle.placing.specs.Sizes.{entry_of}
use Rattle.rules.specs.Calls.{Way, opens}
use Rattle.tables.specs.Layout.{opening_at, opening_base}
use Rattle.tables.specs.Fields.{is_open}
use Rattle.cells.specs.Outcomes.{outcome, request_out}
use Rattle.cells.specs.Laws.Entered.{request-open}
use Rattle.gate.specs.Gates.{Gate, pass_of}
use Rattle.gate.specs.Passed.{Passed, passes, passes-not}
use Rattle.gate_laws.specs.Behind.{opened-cell}
use Rattle.call_open.specs.Vacant.{Vacant, AtVacant}

module _ (s t : List ℕ) (u e : ℕ) (g : Gate) (eg : g ≡ pass_of (length s) t u e) where
  pub no-entry : (why : Refusal) → g ≡ Err why → (z : Gate) → z ≡ Err why → AtVacant s t u e z
  no-entry why at z ez = subst (AtVacant s t u e) (sym ez) (λ w. passes-not s t u e g eg (opens w) why at)

  module _ (i : ℕ) (at : g ≡ Ok i) where
    pub here : Passed (length s) t u e i
    here = passes s t u e g eg i at

    pub already-open : get_or t (opening_base i) 0 ≡ 1 → AtVacant s t u e (Err Open)
    unfolding settle
    already-open o w =
        let p = here in
        let there : is_open (opening_at t (entry_of u e)) ≡ true = ap (λ (k : ℕ). is_open (opening_at t k)) (sym p.which) ∙ eq-eqb (opening_at t i).opened 1 (opened-cell t i ∙ o) in
        sym (request-open s t u e p.sound p.user p.entry (opens w) there)

    pub is-vacant : get_or t (opening_base i) 0 ≢ 1 → Vacant s t u e i
    is-vacant d = record { passed = here; closed = ne_eqb (opening_at t i).opened 1 (λ o. d (sym (opened-cell t i) ∙ o)) }

-- ---- what the gate that the code has in hand says

module _ (s t : List ℕ) (u e : ℕ) (g : Gate) (a : AtVacant s t u e g) where
  pub vacant-not : (w : Way) (why : Refusal) → g ≡ Err why → (z : Answer) → z ≡ Err why → outcome z s t ≡ request_out (opens w) s t u e
  vacant-not w why at z ez = ap (λ (x : Answer). outcome x s t) ez ∙ subst (AtVacant s t u e) at a w

  pub vacant-at : (i : ℕ) → g ≡ Ok i → Vacant s t u e i
  vacant-at i at = subst (AtVacant s t u e) at a
