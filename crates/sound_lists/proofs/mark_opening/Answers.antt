-- `sound_lists::mark_opening` meets its contract. Assumes nothing.
use native.Mathlib.Omega.{arith}
use Rattle.sound_lists.proofs.Listing.{read-passes, new-passes, with-permit, work-place, work-record, work-passes}
use Rattle.sound_lists.proofs.mark_opening.Goals as goal

pub returns-then-tables-base-eq0 : goal.returns-then-tables-base-eq0
returns-then-tables-base-eq0 c =
    read-passes c.args.tables.now c.requires.0 c.args.entry c.requires.1 _ c.if-tables-base-eq0.true

pub opening_row-row-requires : goal.opening_row-row-requires
opening_row-row-requires c =
    (c.requires.0, c.requires.1, with-permit c.args.tables.now c.requires.0 c.args.entry c.requires.1 c.if-tables-base-eq0.false)

pub returns-then-place-eq0 : goal.returns-then-place-eq0
returns-then-place-eq0 c =
    new-passes c.args.tables.now c.requires.0 c.args.entry c.requires.1 _ _ _ _ _ _ c.if-place-eq0.true c.opening_row-row.ensures c.mark_whole.ensures

pub overflow_cast-place : goal.overflow_cast-place
overflow_cast-place c =
    omega (arith, work-place c.args.tables.now c.requires.0 c.args.entry c.requires.1 c.if-place-eq0.false)

pub record_row-filed-requires : goal.record_row-filed-requires
record_row-filed-requires c =
    let opened = with-permit c.args.tables.now c.requires.0 c.args.entry c.requires.1 c.if-tables-base-eq0.false in
    (c.requires.0, work-place c.args.tables.now c.requires.0 c.args.entry c.requires.1 c.if-place-eq0.false, work-record c.args.tables.now c.requires.0 c.args.entry c.requires.1 c.if-place-eq0.false opened)

pub returns : goal.returns
returns c =
    work-passes c.args.tables.now c.requires.0 c.args.entry c.requires.1 c.if-place-eq0.false _ _ _ _ _ _ _ _ _ c.opening_row-row.ensures c.record_row-filed.ensures c.mark_changed.ensures
