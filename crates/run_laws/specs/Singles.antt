-- The single calls of a run, at an open entry i of 32: s is the store's cells, t the tables'. Assumes nothing.
use Rattle.std.specs.Prelude.{ℕ, ◌%◌, ◌≤◌, ◌≡◌, List, map, length, drop}
use Rattle.combine.specs.Outcome.{Outcome}
use Rattle.combine.specs.Run.{Ran, run_over}
use Rattle.combine.specs.Laws.Run.{behind}
use Rattle.placing.specs.Sizes.{user_of}
use Rattle.rules.specs.Calls.{Act, uses, write, next}
use Rattle.cells.specs.Outcomes.{Lent, lent, request_out}
use Rattle.gate_laws.specs.Standing.{Standing}

-- the single call, as the entry's user makes it
unfoldable pub use_on : ℕ → Act → Lent → Outcome Lent
use_on i a x = request_out (uses a) x.store x.tables (user_of i) (i % 4)

abbrev pub uses_on : ℕ → List Act → Lent → Ran Lent
uses_on i l x = run_over (use_on i) l x

-- the acts of a run over a list
abbrev pub writes_of : (pointer : ℕ) (list : List ℕ) → List Act
writes_of p l = map (write p) l

abbrev pub nexts_of : (pointer : ℕ) (list : List ℕ) → List Act
nexts_of p l = map (λ n. next p) l

-- the first acts of the list are done, and told is their answers; the cells are s' and t' then
pub record Goes (i : ℕ) (l : List Act) (s t : List ℕ) (told s' t' : List ℕ) : Type 0 where
  pub some : 1 ≤ length told
  pub few : length told ≤ length l
  pub standing : Standing (length s') t' i
  pub left : uses_on i l (lent s t) ≡ behind told (uses_on i (drop (length told) l) (lent s' t'))
