-- What is so of every number by which the rule of a request refuses, and of the gate's, is so of its answer. Assumes nothing.
use Rattle.std.specs.Prelude.{ℕ, get_or}
use Rattle.std.proofs.Math.Option.{Option, none}
use Rattle.combine.specs.Laws.Verdict.{Refuses, refuses-on_done}
use Rattle.combine.specs.Laws.Outcome.{settle-refuses}
use Rattle.placing.specs.Sizes.{entry_of}
use Rattle.rules.specs.Calls.{Request}
use Rattle.rules.specs.Levels.{ruled, or_blank}
use Rattle.rules.specs.Laws.Gates.{gate-refuses}
use Rattle.segments.specs.Free.{SegmentOpening}
use Rattle.segments.specs.Deeds.{segment_level}
use Rattle.cells.specs.Says.{house_of}
use Rattle.cells.specs.Outcomes.{Lent, performed, request_out}

-- what is open at the entry
abbrev pub open_at : (user entry : ℕ) → Lent → Option SegmentOpening
open_at u e x = get_or (house_of x.tables).openings (entry_of u e) none

module _ (P : ℕ → Type 0) (h20 : P 20) (h1 : P 1) (h2 : P 2) (u e : ℕ) where
  pub request-refuses : (r : Request) (x : Lent) → Refuses P (ruled (segment_level x.store) r u (house_of x.tables) (open_at u e x)) → Refuses P (request_out r x.store x.tables u e).answer
  unfolding request_out
  request-refuses r x h =
      let level = segment_level x.store in
      let there = open_at u e x in
      let does = performed x.store x.tables (entry_of u e) (or_blank level there) in
      settle-refuses P _ _ (gate-refuses P h20 h1 h2 _ (refuses-on_done P does (ruled level r u (house_of x.tables) there) h) _ u e)
