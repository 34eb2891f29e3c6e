-- `sound_reading::read_sound` meets its contract. Assumes nothing.
use mathlib.Core.Path.{sym, ◌∙◌}
use native.Mathlib.Omega.{arith}
use borrow.Author.Tests.{eq-eqb, ne_eqb}
use Rattle.combine.specs.Lists.{part}
use Rattle.combine.specs.Laws.Rows.{one-bad, all-last}
use Rattle.tables.specs.Layout.{record_of, opening_of}
use Rattle.tables.specs.Openings.{readb}
use Rattle.sound_reading.specs.Cells.{value-test, same_numbers}
use Rattle.sound_reading.proofs.Choices.{swapped}
use Rattle.sound_reading.proofs.read_sound.Goals as goal

pub returns-then-row-filed : goal.returns-then-row-filed
unfolding readb opening_of record_of
returns-then-row-filed c = one-bad _ 2 (ne_eqb _ _ c.if-row-filed.true)

pub returns-then-row-filed-2 : goal.returns-then-row-filed-2
unfolding readb record_of
returns-then-row-filed-2 c = one-bad _ 3 (value-test c.args.row.now 0 _ _ (omega arith) (ne_eqb _ _ c.if-row-filed-2.true))

pub returns-then-row-filed-3 : goal.returns-then-row-filed-3
unfolding readb record_of
returns-then-row-filed-3 c = one-bad _ 4 (value-test c.args.row.now 1 _ _ (omega arith) (ne_eqb _ _ c.if-row-filed-3.true))

pub returns-then-not-may_read : goal.returns-then-not-may_read
unfolding readb
returns-then-not-may_read c = one-bad _ 0 (sym c.may_read.ensures ∙ c.if-not-may_read.true)

pub returns-then-ne : goal.returns-then-ne
unfolding readb opening_of record_of part
returns-then-ne c = one-bad _ 1 (swapped _ c.ne.ensures c.if-ne.true)

pub returns : goal.returns
unfolding readb opening_of record_of part
returns c =
    let row = c.args.row.now in
    all-last _ _ (
      sym c.may_read.ensures ∙ c.if-not-may_read.false,
      (
        swapped _ c.ne.ensures c.if-ne.false,
        (
          eq-eqb _ _ c.if-row-filed.false,
          (
            value-test row 0 _ _ (omega arith) (eq-eqb _ _ c.if-row-filed-2.false),
            (
              value-test row 1 _ _ (omega arith) (eq-eqb _ _ c.if-row-filed-3.false),
              c.eq.ensures ∙ same_numbers row c.args.filed.now 24 18 (omega arith) (omega arith),
            ),
          ),
        ),
      ),
    )
