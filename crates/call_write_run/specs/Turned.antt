-- What a turn of a run of writes says: i is an entry of 32, o its opening, p a pointer, l what is left of the list, s the store's cells, t the tables',
-- s' and t' the same after the turn. Assumes nothing.
use Rattle.std.specs.Prelude.{ℕ, ◌+◌, ◌≤◌, ◌<◌, ◌≡◌, Bool, false, List, [], length, get_or, drop, Result, Ok, Err}
use Rattle.combine.specs.Run.{Ran, ran}
use Rattle.answers.specs.declared.Refusal.{Refusal}
use Rattle.answers.specs.Said.{refusal_number}
use Rattle.numbers.specs.declared.Number.TheVariants.{Plain}
use Rattle.numbers.specs.Numbers.{too_wide}
use Rattle.rules.specs.Calls.{write, writes}
use Rattle.tables.specs.declared.Opening.{Opening}
use Rattle.tables.specs.Layout.{opening_at}
use Rattle.tables.specs.Fields.{value_of}
use Rattle.cells.specs.Outcomes.{Lent, lent, outcome, run_out}
use Rattle.cells.specs.Runs.{Written, written}
use Rattle.gate.specs.Gates.{Gate}
use Rattle.gate_laws.specs.Standing.{Standing}
use Rattle.run_spans.specs.Ahead.{Ahead, Fits}
use Rattle.run_laws.specs.Singles.{use_on, uses_on, writes_of, Goes}
use Rattle.write_plan.specs.declared.Plan.{Plan}
use Rattle.write_plan.specs.Plans.{write_verdict, Planned}

-- the next element of the list is too wide
abbrev pub first_wide : Opening → List ℕ → Bool
first_wide o l = too_wide o.species (Plain (get_or l 0 0))

-- a plan for the next element of the list, decided for the opening as it stands
pub record Decided (s t : List ℕ) (i : ℕ) (o : Opening) (p : ℕ) (l : List ℕ) (plan : Plan) : Type 0 where
  pub standing : Standing (length s) t i
  pub loaded : o ≡ opening_at t i
  pub planned : Planned t o p (write_verdict t o p false (first_wide o l)) (Ok plan)
  pub some : 1 ≤ length l

-- k elements may leave the first stretch, where one stays, and so many numbers of the list are not too wide
pub record Leave (o : Opening) (l : List ℕ) (k : ℕ) : Type 0 where
  pub most : ℕ
  pub ahead : Ahead o.species (value_of o 0) (value_of o 1) most
  pub fewer : k < most
  pub few : k ≤ length l
  pub fit : (j : ℕ) → j < k → Fits o.species l j

-- k elements of the list are written
pub record Writes (i p : ℕ) (l s t : List ℕ) (k : ℕ) (s' t' : List ℕ) : Type 0 where
  pub told : List ℕ
  pub many : length told ≡ k
  pub goes : Goes i (writes_of p l) s t told s' t'

-- the next element is refused, or so many are written
abbrev pub Turn : Type 0
Turn = Result ℕ Refusal

abbrev pub TurnSays : ℕ → ℕ → List ℕ → List ℕ → List ℕ → Turn → List ℕ → List ℕ → Type 0
TurnSays i p l s t (Err why) s' t' = use_on i (write p (get_or l 0 0)) (lent s t) ≡ outcome (Err why) s' t'
TurnSays i p l s t (Ok k) s' t' = Writes i p l s t k s' t'

pub record Turned (i p : ℕ) (l s t : List ℕ) (turn : Turn) (s' t' : List ℕ) : Type 0 where
  pub says : TurnSays i p l s t turn s' t'

-- what the caller has after a run r of what is left, where n elements of his list l are written already
unfoldable pub wrote : (list : List ℕ) (before : ℕ) → Ran Lent → Written
wrote l n r = written (drop (n + r.many) l) r.stop r.after

-- ---- the gate and the run's own refusals, whatever the list: u is a user, e an entry of his

abbrev pub AdmitSays : ℕ → List ℕ → List ℕ → ℕ → ℕ → Gate → Type 0
AdmitSays p s t u e (Err why) = (l : List ℕ) → run_out (writes p l) s t u e ≡ ran 0 (refusal_number why) [] (lent s t)
AdmitSays p s t u e (Ok i) = Standing (length s) t i × ((l : List ℕ) → run_out (writes p l) s t u e ≡ uses_on i (writes_of p l) (lent s t))

pub record Admitted (p : ℕ) (s t : List ℕ) (u e : ℕ) (gate : Gate) : Type 0 where
  pub says : AdmitSays p s t u e gate

-- ---- how a run of the list l ends: all of it is written, or so many elements of it, and the next is refused; x are the
-- cells then, and w is what the caller is to have

abbrev pub Ended : Type 0
Ended = Result (Unit {0}) (ℕ × Refusal)

abbrev pub EndSays : List ℕ → Ended → Lent → Written → Type 0
EndSays l (Ok all) x w = written [] 0 x ≡ w
EndSays l (Err stop) x w = (stop.0 ≤ length l) × (written (drop stop.0 l) (refusal_number stop.1) x ≡ w)

pub record Handed (l : List ℕ) (ended : Ended) (x : Lent) (w : Written) : Type 0 where
  pub says : EndSays l ended x w
