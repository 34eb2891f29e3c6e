-- A use of an entry at the gate and behind it: a user u names the entry e; g is what the gate says, and i the entry of 32. Assumes nothing.
use Rattle.std.specs.Prelude.{ℕ, ◌≡◌, refl, List, length, Err, Ok}
use Rattle.std.proofs.Common.{sym, ap, ◌∙◌}
use Rattle.combine.specs.Outcome.{Outcome}
use Rattle.answers.specs.declared.Refusal.{Refusal}
use Rattle.rules.specs.Calls.{Act, uses}
use Rattle.tables.specs.Layout.{opening_at}
use Rattle.cells.specs.Outcomes.{Lent, outcome, request_out}
use Rattle.cells.specs.Laws.Entered.{request-open}
use Rattle.cells.specs.Laws.Uses.{verdict_on}
use Rattle.gate.specs.Gates.{Gate, reach_of}
use Rattle.gate.specs.Passed.{Reached, reaches, reaches-not}
use Rattle.gate_laws.specs.Behind.{reached-open}
use Rattle.gate_laws.specs.Standing.{Standing, reached-standing}
use Rattle.gate_laws.specs.Used.{used_out}

pub request-used : (s t : List ℕ) (u e i : ℕ) → Reached (length s) t u e i → (a : Act) → request_out (uses a) s t u e ≡ used_out s t i (opening_at t i) (verdict_on a t (opening_at t i))
unfolding used_out
request-used s t u e i g a =
    let p = g.passed in
    request-open s t u e p.sound p.user p.entry (uses a) (reached-open g)
    ∙ ap (λ (k : ℕ). used_out s t k (opening_at t k) (verdict_on a t (opening_at t k))) (sym p.which)

-- ---- of a gate that the code has in hand

module _ (s t : List ℕ) (u e : ℕ) (g : Gate) (eg : g ≡ reach_of (length s) t u e) where
  pub use-refused : (a : Act) (why : Refusal) → g ≡ Err why → outcome (Err why) s t ≡ request_out (uses a) s t u e
  use-refused a why at = reaches-not s t u e g eg (uses a) refl why at

  module _ (i : ℕ) (at : g ≡ Ok i) where
    pub use-standing : Standing (length s) t i
    use-standing = reached-standing (reaches s t u e g eg i at)

    pub use-done : (a : Act) (z : Outcome Lent) → z ≡ used_out s t i (opening_at t i) (verdict_on a t (opening_at t i)) → z ≡ request_out (uses a) s t u e
    use-done a z h = h ∙ sym (request-used s t u e i (reaches s t u e g eg i at) a)

pub ruleset gated = (use-refused, use-standing, use-done)
