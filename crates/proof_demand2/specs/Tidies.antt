-- A tidying, beside the model's: users know the same afterwards, and whether something is open they know. Assumes nothing.
use Rattle.std.specs.Prelude.{ℕ, ◌≡◌, refl, Bool, true, false}
use Rattle.std.proofs.Math.Option.{none}
use Rattle.combine.specs.Verdict.{done, refuse◌when◌else◌}
use Rattle.combine.specs.Outcome.{settle}
use Rattle.placing.specs.Sizes.{Cells}
use Rattle.rules.specs.Calls.{tidy, arranges}
use Rattle.rules.specs.Gates.{start_gate, still_gate}
use Rattle.rules.specs.House.{has_open}
use Rattle.rules.specs.Runs.{no_run}
use Rattle.segments.specs.Moves.{tidy_count}
use Rattle.cells.specs.Says.{house_of}
use Rattle.cells.specs.Outcomes.{Lent, lent, sound_lent, tidy_out}
use Rattle.model.specs.Step.{arrange_model}
use Rattle.model.specs.View.{view}
use Rattle.model.specs.Laws.Sight.{open-seen}
use Rattle.demands.specs.History.{look_on}
use Rattle.demands.specs.Demands.{Sound, Refines}
use Rattle.proof_moves.specs.Outcome.{tidy-view}

tidy-answered : (s t : Cells) → sound_lent s t ≡ true → (tidy_out s t).answer ≡ arrange_model (look_on (lent s t)) tidy (view s t)
unfolding tidy_out still_gate start_gate settle refuse◌when◌else◌ view
tidy-answered s t sound = rw (sound, open-seen s (house_of t)) (go (has_open (house_of t)) (tidy_count (house_of t)) _)
  where
    go : (b : Bool) (n : ℕ) (y : Lent) → (settle (lent s t) (refuse 14 when b else done (n, y))).answer ≡ (refuse 14 when b else done n)
    go true n y = refl
    go false n y = refl

pub tidy-refines : (x : Lent) → Sound x → Refines (arranges tidy) x
tidy-refines x sound = λ i. (record { answer = tidy-answered x.store x.tables sound i; image = none; run = no_run }, tidy-view x.store x.tables i)
