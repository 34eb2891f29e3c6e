-- `sound_keys::public_short` meets its contract. Assumes nothing.
use mathlib.Core.Path.{sym, ◌∙◌}
use borrow.Author.Tests.{eq-eqb, ne_eqb}
use Rattle.sound_keys.specs.Keys.{public_of}
use Rattle.sound_keys.proofs.public_short.Goals as goal

pub returns-then-private-eq0 : goal.returns-then-private-eq0
unfolding public_of
returns-then-private-eq0 c = c.short.ensures ∙ sym (rw (eq-eqb _ 0 c.if-private-eq0.true))

pub returns : goal.returns
unfolding public_of
returns c = sym (rw (ne_eqb _ 0 c.if-private-eq0.false))
