-- Requests on a store and what its tables say, apart from the order of cells. Assumes nothing.
use Rattle.std.specs.Prelude.{ℕ, true, List, length, get_or}
use Rattle.std.proofs.Math.Option.{none}
use Rattle.combine.specs.Verdict.{on_done}
use Rattle.combine.specs.Outcome.{Outcome, settle}
use Rattle.placing.specs.Sizes.{entry_of}
use Rattle.rules.specs.Calls.{Request}
use Rattle.rules.specs.Effects.{Effect}
use Rattle.rules.specs.Gates.{entry_gate}
use Rattle.rules.specs.House.{fresh_house, changed}
use Rattle.rules.specs.Levels.{perform, ruled, or_blank}
use Rattle.segments.specs.Free.{SegmentOpening, SegmentHouse}
use Rattle.segments.specs.Deeds.{segment_level, perform_store}

pub record State : Type 0 where
  pub store : List ℕ
  pub house : SegmentHouse

abbrev pub state : List ℕ → SegmentHouse → State
state s h = record { store = s; house = h }

abbrev pub perform_on_segments : State → ℕ → SegmentOpening → Effect → ℕ × State
perform_on_segments m i x f =
    let c = perform (segment_level m.store) m.house x f in
    (c.answer, state (perform_store m.store m.house x f) (changed m.house i c))

abbrev pub request_on_segments : Request → ℕ → ℕ → State → Outcome State
request_on_segments r u e m =
    let x = get_or m.house.openings (entry_of u e) none in
    settle m (entry_gate true u e (on_done (perform_on_segments m (entry_of u e) (or_blank (segment_level m.store) x)) (ruled (segment_level m.store) r u m.house x)))

abbrev pub fresh_state : List ℕ → State
fresh_state s = state s (fresh_house (length s))
