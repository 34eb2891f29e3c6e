-- The two calls, plain and signed (k says that it is signed): behind the gate, with the opening that was loaded; and at it. Assumes nothing.
use Rattle.std.specs.Prelude.{Result, Ok, Err}
use Prim.Native.Nat.{ℕ}
use mathlib.Core.Path.{◌≡◌, refl, sym, ap, subst, ◌∙◌}
use mathlib.Core.Bool.{Bool, true, false}
use mathlib.Core.List.{List}
use lib.IntN.{ℤ}
use lib.ListN.{length}
use mir.Syntax.{w32}
use mir.Val.{of_z, to_z}
use Rattle.combine.specs.Verdict.{on_done}
use Rattle.combine.specs.Outcome.{Outcome}
use Rattle.answers.specs.declared.Refusal.{Refusal}
use Rattle.answers.specs.Said.{Answer, SignedAnswer, said, said_signed}
use Rattle.numbers.specs.Numbers.{signed_of}
use Rattle.numbers.proofs.Laws.{read_back, value-fits}
use Rattle.rules.specs.Calls.{uses}
use Rattle.tables.specs.declared.Opening.{Opening}
use Rattle.tables.specs.Layout.{opening_at}
use Rattle.tables.specs.Handles.{handle_in}
use Rattle.cells.specs.Outcomes.{Lent, lent, outcome, request_out}
use Rattle.cells.specs.Signed.{signed_outcome, read_signed}
use Rattle.cells.specs.Laws.Uses.{verdict_on}
use Rattle.gate.specs.Gates.{Gate, reach_of}
use Rattle.gate_laws.specs.Known.{standing}
use Rattle.gate_laws.specs.Gated.{use-refused, use-standing, use-done}
use Rattle.gate_laws.specs.Used.{used_out, used-no}
use Rattle.call_next_prev.specs.declared.Direction.{Direction}
use Rattle.call_next_prev.specs.declared.Direction.TheVariants.{Forward, Backward}
use Rattle.call_next_prev.specs.declared.Reading.{Reading}
use Rattle.call_next_prev.specs.Reads.{act_of, rule_of, ReadPlan}

module _ (d : Direction) (s t : List ℕ) (i : ℕ) (k : Bool) (p : ℕ) (o : Opening) where
  pub read-done : o ≡ opening_at t i → (z : Outcome Lent) → z ≡ used_out s t i o (rule_of d k p (handle_in o)) → z ≡ used_out s t i (opening_at t i) (rule_of d k p (handle_in (opening_at t i)))
  read-done eo z h = h ∙ (λ j. used_out s t i (eo j) (rule_of d k p (handle_in (eo j))))

  -- the reading r is delivered, or refused

  module _ (r : Result Reading Refusal) (a : ReadPlan d o k p r) where
    pub read-found : (q : Reading) → r ≡ Ok q → ReadPlan d o k p (Ok q)
    read-found q e = subst (ReadPlan d o k p) e a

    pub read-kept : (why : Refusal) → r ≡ Err why → (z : Answer) → z ≡ Err why → outcome z s t ≡ used_out s t i o (rule_of d k p (handle_in o))
    read-kept why e z ez = ap (λ (x : Answer). outcome x s t) ez ∙ used-no s t i o (rule_of d k p (handle_in o)) _ (subst (ReadPlan d o k p) e a).plan

pub ruleset calls = (standing, read-done, read-found, read-kept)

-- ---- at the gate: a user u names the entry e, and g is what the gate says

verdict-is : (d : Direction) (k : Bool) (p : ℕ) (t : List ℕ) (o : Opening) → rule_of d k p (handle_in o) ≡ verdict_on (act_of d k p) t o
verdict-is Forward true p t o = refl
verdict-is Forward false p t o = refl
verdict-is Backward true p t o = refl
verdict-is Backward false p t o = refl

module _ (s t : List ℕ) (u e : ℕ) (g : Gate) (eg : g ≡ reach_of (length s) t u e) (i : ℕ) (at : g ≡ Ok i) (d : Direction) (k : Bool) (p : ℕ) (z : Outcome Lent) where
  pub read-called : z ≡ used_out s t i (opening_at t i) (rule_of d k p (handle_in (opening_at t i))) → z ≡ request_out (uses (act_of d k p)) s t u e
  read-called h = use-done s t u e g eg i at (act_of d k p) z (h ∙ ap (used_out s t i (opening_at t i)) (verdict-is d k p t (opening_at t i)))

pub ruleset gates = (use-refused, use-standing, read-called)

-- ---- the signed calls: a is the answer of the reading call

module _ (a : Answer) where
  pub read-refused : (why : Refusal) → a ≡ Err why → (r : SignedAnswer) → r ≡ Err why → said_signed r ≡ on_done signed_of (said a)
  read-refused why e r er = ap said_signed er ∙ sym (ap (λ (b : Answer). on_done signed_of (said b)) e)

  pub read_number : (n : ℕ) → a ≡ Ok n → (z : ℤ) → z ≡ signed_of n → said_signed (Ok (to_z w32 (of_z w32 z))) ≡ on_done signed_of (said a)
  read_number n e z ez =
      ap (λ (y : ℤ). said_signed (Ok (to_z w32 (of_z w32 y)))) ez ∙ ap (λ (y : ℤ). said_signed (Ok y)) (read_back (signed_of n) (value-fits n))
      ∙ sym (ap (λ (b : Answer). on_done signed_of (said b)) e)

  pub read_done : (r : SignedAnswer) (s t : List ℕ) (z : Outcome Lent) → said_signed r ≡ on_done signed_of (said a) → outcome a s t ≡ z → signed_outcome r s t ≡ read_signed z
  unfolding signed_outcome read_signed
  read_done r s t z er ez = (λ j. record { answer = er j; after = lent s t }) ∙ ap read_signed ez

pub ruleset reads = (read-refused, read_number, read_done)
