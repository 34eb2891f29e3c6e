-- `Direction::read` meets its contract. Assumes nothing.
use Rattle.opening_steps.specs.Bounds.{from-begin, below_end}
use Rattle.call_next_prev.proofs.Chains.{chains}
use Rattle.call_next_prev.proofs.Direction.read.Goals as goal

pub returns-then-foreign : goal.returns-then-foreign
returns-then-foreign c = search chains

pub returns-then-none : goal.returns-then-none
returns-then-none c = search chains

pub returns-then-lacks_permit : goal.returns-then-lacks_permit
returns-then-lacks_permit c = search chains

pub returns-then-is_before : goal.returns-then-is_before
returns-then-is_before c = search chains

pub returns-then-is_at_most : goal.returns-then-is_at_most
returns-then-is_at_most c = search chains

pub segment_for-segment-requires : goal.segment_for-segment-requires
segment_for-segment-requires c = (
  c.requires,
  from-begin _ _ _ c.value-begin.ensures _ c.is_before.ensures c.if-is_before.false,
  below_end _ _ _ c.value-end.ensures _ c.is_at_most.ensures c.if-is_at_most.false,
)

pub returns : goal.returns
returns c = search chains
