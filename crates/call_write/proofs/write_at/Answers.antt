-- `call_write::write_at` meets its contract. Assumes nothing.
use Rattle.call_write.proofs.Loaded.{loaded, write_done}
use Rattle.call_write.proofs.write_at.Goals as goal

pub load_opening-opening-requires : goal.load_opening-opening-requires
load_opening-opening-requires c = search loaded

pub is_too_wide-wide-requires : goal.is_too_wide-wide-requires
is_too_wide-wide-requires c = search loaded

pub decide-plan-requires : goal.decide-plan-requires
decide-plan-requires c = search loaded

pub carry-requires : goal.carry-requires
carry-requires c = (search loaded, search loaded, search loaded, search loaded, (_, c.decide-plan.ensures))

pub returns : goal.returns
returns c =
    write_done _ _ _ _ _ _ c.load_opening-opening.ensures _ _ _ c.is_signed-signed.ensures c.is_too_wide-wide.ensures c.bits.ensures _
    (c.carry.ensures _ c.decide-plan.ensures)
