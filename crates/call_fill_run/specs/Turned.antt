-- What a turn of a fill says: at entry i of 32, through pointer p, with the store's cells s, the tables' t and the list l, which is filled up to a
-- place; the tables are t' then, the list l'. Assumes nothing.
use Rattle.std.specs.Prelude.{ℕ, ◌≡◌, List, [], length, drop, Result, Ok, Err}
use Rattle.std.proofs.Math.Seq.{paste}
use Rattle.combine.specs.Verdict.{refused}
use Rattle.combine.specs.Outcome.{outcome_of}
use Rattle.combine.specs.Run.{ran}
use Rattle.answers.specs.declared.Refusal.{Refusal}
use Rattle.answers.specs.Said.{refusal_number}
use Rattle.rules.specs.Calls.{next, fills}
use Rattle.cells.specs.Outcomes.{Lent, lent, run_out}
use Rattle.cells.specs.Runs.{Filled, filled}
use Rattle.gate.specs.Gates.{Gate}
use Rattle.gate_laws.specs.Standing.{Standing}
use Rattle.run_laws.specs.Singles.{use_on, uses_on, nexts_of, Goes}

-- so many single calls are done, and the list has their answers from the place on
pub record Fills (i p : ℕ) (s t l : List ℕ) (place many : ℕ) (t' l' : List ℕ) : Type 0 where
  pub told : List ℕ
  pub long : length told ≡ many
  pub list : l' ≡ paste l place told many
  pub goes : Goes i (nexts_of p (drop place l)) s t told s t'

-- the single call is refused, and the list stays
pub record Stops (i p : ℕ) (s t l : List ℕ) (number : ℕ) (t' l' : List ℕ) : Type 0 where
  pub list : l' ≡ l
  pub call : outcome_of (refused number) (lent s t') ≡ use_on i (next p) (lent s t)

-- the single call is refused, or so many are done
abbrev pub Turn : Type 0
Turn = Result ℕ Refusal

abbrev pub TurnSaid : ℕ → ℕ → List ℕ → List ℕ → List ℕ → ℕ → Turn → List ℕ → List ℕ → Type 0
TurnSaid i p s t l n (Err why) t' l' = Stops i p s t l (refusal_number why) t' l'
TurnSaid i p s t l n (Ok k) t' l' = Fills i p s t l n k t' l'

pub record Turned (i p : ℕ) (s t l : List ℕ) (place : ℕ) (r : Turn) (t' l' : List ℕ) : Type 0 where
  pub says : TurnSaid i p s t l place r t' l'

-- ---- the gate and the fill's own refusals, whatever the list: u is a user, e an entry of his

abbrev pub AdmitSays : ℕ → List ℕ → List ℕ → ℕ → ℕ → Gate → Type 0
AdmitSays p s t u e (Err why) = (l : List ℕ) → run_out (fills p l) s t u e ≡ ran 0 (refusal_number why) [] (lent s t)
AdmitSays p s t u e (Ok i) = Standing (length s) t i × ((l : List ℕ) → run_out (fills p l) s t u e ≡ uses_on i (nexts_of p l) (lent s t))

pub record Admitted (p : ℕ) (s t : List ℕ) (u e : ℕ) (gate : Gate) : Type 0 where
  pub says : AdmitSays p s t u e gate

-- ---- how a fill ends: all of the list l is filled, or so many places of it, and the next call is refused; x are the
-- cells then, and w is what the caller is to have

abbrev pub Ended : Type 0
Ended = Result (Unit {0}) (ℕ × Refusal)

abbrev pub EndSays : List ℕ → Ended → Lent → Filled → Type 0
EndSays l (Ok all) x w = filled (length l) 0 l x ≡ w
EndSays l (Err stop) x w = filled stop.0 (refusal_number stop.1) l x ≡ w

pub record Handed (l : List ℕ) (ended : Ended) (x : Lent) (w : Filled) : Type 0 where
  pub says : EndSays l ended x w
