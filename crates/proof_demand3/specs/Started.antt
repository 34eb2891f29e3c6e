-- Cells after a fresh start over zero cells: where the stories that show a premise needed begin. Assumes nothing.
use Rattle.std.specs.Prelude.{ℕ, ◌≡◌, true, leb, length, replicate}
use Rattle.std.proofs.lemmas.List.{length-replicate}
use Rattle.placing.specs.Sizes.{tables_length}
use Rattle.rules.specs.Calls.{fresh, starts}
use Rattle.rules.specs.House.{fresh_house}
use Rattle.segments.specs.State.{state}
use Rattle.cells.specs.Outcomes.{Lent, lent}
use Rattle.cells.specs.Laws.Lowered.{state_of}
use Rattle.demands.specs.History.{after_call, view_on}
use Rattle.demands.specs.Demands.{Sound}
use Rattle.proof_examples.specs.Fresh.{nothing_there, fresh-leaves-sound, fresh-leaves-nothing, fresh-leaves-state}

unfoldable pub started_over : ℕ → Lent
started_over n = after_call (starts fresh) (lent (replicate n 0) (replicate tables_length 0))

module _ (n : ℕ) (large : leb 64 n ≡ true) where
  cells : length (replicate {A = ℕ} n 0) ≡ n
  cells = length-replicate {A = ℕ} n 0

  long : length (replicate {A = ℕ} tables_length 0) ≡ tables_length
  long = length-replicate {A = ℕ} tables_length 0

  pub started-sound : Sound (started_over n)
  unfolding started_over
  started-sound = fresh-leaves-sound (replicate n 0) (replicate tables_length 0) n cells large long

  pub started-known : view_on (started_over n) ≡ nothing_there n
  unfolding started_over
  started-known = fresh-leaves-nothing (replicate n 0) (replicate tables_length 0) n cells large long

  pub started-state : state_of (started_over n) ≡ state (replicate n 0) (fresh_house n)
  unfolding started_over
  started-state = fresh-leaves-state (replicate n 0) (replicate tables_length 0) n cells large long
