-- `tables::Opening::new_pointer` meets its contract. Assumes nothing.
use Rattle.tables.proofs.Outcomes.{pointing, new-full, new-made}
use Rattle.tables.proofs.Opening.new_pointer.Goals as goal

pub returns-then-is_none : goal.returns-then-is_none
returns-then-is_none c = search pointing

pub returns-in_default : goal.returns-in_default
returns-in_default c =
    new-full c.args.self c.args.pointer _ c.value-given.ensures _ c.is_none.ensures c.if-is_none.false c.in_default.ensures

pub returns : goal.returns
returns c =
    let f = c.in-Some in
    new-made c.args.self c.args.pointer _ c.value-given.ensures _ c.is_none.ensures c.if-is_none.false f.free f.ensures.0 _ f.ensures.1 c.step.ensures
