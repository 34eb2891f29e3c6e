-- The cells that a fresh start leaves, whatever they were before: they are sound, nothing is there, and nothing is open. Assumes nothing.
use Rattle.std.specs.Prelude.{ℕ, ◌≡◌, true, List, leb, length}
use Rattle.std.proofs.Math.Path.{refl, ap}
use Rattle.std.proofs.Common.{sym, ◌∙◌, subst, eq-eqb, leb-true}
use Rattle.combine.specs.Verdict.{done, refuse◌when◌else◌}
use Rattle.combine.specs.Outcome.{Outcome, outcome_of, settle}
use Rattle.placing.specs.Sizes.{fresh_segments, tables_length}
use Rattle.rules.specs.Calls.{fresh, starts}
use Rattle.rules.specs.Gates.{start_gate}
use Rattle.rules.specs.House.{fresh_house}
use Rattle.segments.specs.State.{state}
use Rattle.tables.specs.Layout.{fresh_tables}
use Rattle.tables.specs.Sound.{soundb}
use Rattle.cells.specs.Outcomes.{Lent, lent, fresh_out}
use Rattle.cells.specs.Laws.Operator.{fresh-says}
use Rattle.cells.specs.Laws.Lowered.{state_of}
use Rattle.model.specs.Model.{Model, model}
use Rattle.model.specs.View.{view_house, view}
use Rattle.proof_calls_sound.specs.Fresh.{fresh-tables-sound}
use Rattle.demands.specs.History.{outcome_on, after_call, view_on}
use Rattle.demands.specs.Demands.{Sound}

-- what users know then of a store of so many cells
abbrev pub nothing_there : ℕ → Model
nothing_there n = model n (fresh_house n)

module _ (s t : List ℕ) (n : ℕ) (cells : length s ≡ n) (large : leb 64 n ≡ true) (long : length t ≡ tables_length) where
  started-so : fresh_out s t ≡ outcome_of (done 0) (lent s (fresh_tables (fresh_segments n)))
  unfolding fresh_out start_gate settle refuse◌when◌else◌
  started-so = rw (eq-eqb (length t) tables_length long, cells, large) refl

  pub fresh-is-done : (outcome_on (starts fresh) (lent s t)).answer ≡ done 0
  fresh-is-done = ap (λ (o : Outcome Lent). o.answer) started-so

  pub fresh-leaves-sound : Sound (after_call (starts fresh) (lent s t))
  fresh-leaves-sound =
      subst (λ (o : Outcome Lent). Sound o.after) (sym started-so)
      (subst (λ (k : ℕ). soundb k (fresh_tables (fresh_segments n)) ≡ true) (sym cells) (fresh-tables-sound n (leb-true 64 n large)))

  pub fresh-leaves-nothing : view_on (after_call (starts fresh) (lent s t)) ≡ nothing_there n
  unfolding view
  fresh-leaves-nothing = ap (λ (o : Outcome Lent). view_on o.after) started-so ∙ (λ i. model (cells i) (view_house s (fresh-says (fresh_segments n) i)))

  pub fresh-leaves-state : state_of (after_call (starts fresh) (lent s t)) ≡ state s (fresh_house n)
  fresh-leaves-state = ap (λ (o : Outcome Lent). state_of o.after) started-so ∙ ap (state s) (fresh-says (fresh_segments n))
