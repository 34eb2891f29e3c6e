-- `write_plan::shares` meets its contract. Assumes nothing.
use native.Mathlib.Omega.{arith}
use Rattle.write_plan.proofs.Asks.{no-record, record-shares}
use Rattle.write_plan.proofs.shares.Goals as goal

pub returns-in_default : goal.returns-in_default
returns-in_default c = no-record _ _ _ (omega arith)

pub returns : goal.returns
returns c = record-shares _ _ _ c.requires _ c.in-Some.ensures _ c.load_record-filed.ensures _ c.held-held.ensures _ c.lists.ensures
