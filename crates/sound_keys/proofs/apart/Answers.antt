-- `sound_keys::apart` meets its contract. Assumes nothing.
use mathlib.Core.Path.{sym, ap, ◌∙◌}
use mathlib.Core.Bool.{not}
use borrow.Author.Tests.{le-leb, lt-leb, eq-eqb, ne_eqb}
use Rattle.combine.specs.Laws.Below.{bad-left, both, or_left}
use Rattle.sound_keys.specs.Keys.{apartb}
use Rattle.sound_keys.proofs.apart.Goals as goal

pub returns-then-p-lt-FIRST_ASKED : goal.returns-then-p-lt-FIRST_ASKED
unfolding apartb
returns-then-p-lt-FIRST_ASKED c = sym (bad-left _ _ (lt-leb 16 _ c.if-p-lt-FIRST_ASKED.true))

pub returns-then-not-is_new : goal.returns-then-not-is_new
unfolding apartb
returns-then-not-is_new c = sym (rw (le-leb 16 _ c.if-p-lt-FIRST_ASKED.false, sym c.is_new.ensures ∙ c.if-not-is_new.true))

pub returns-then-private-ne0 : goal.returns-then-private-ne0
unfolding apartb
returns-then-private-ne0 c =
    sym
    (both (le-leb 16 _ c.if-p-lt-FIRST_ASKED.false)
    (both (sym c.is_new.ensures ∙ c.if-not-is_new.false) (or_left _ _ (ap not (ne_eqb _ 0 c.if-private-ne0.true)))))

pub returns : goal.returns
unfolding apartb
returns c =
    c.is_new-2.ensures
    ∙ sym
    (rw (
      le-leb 16 _ c.if-p-lt-FIRST_ASKED.false,
      sym c.is_new.ensures ∙ c.if-not-is_new.false,
      eq-eqb _ 0 c.if-private-ne0.false,
    ))
