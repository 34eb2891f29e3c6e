-- `names::name_of` meets its contract: `Reading` says what stands in the name when byte `i` is reached. Assumes
-- nothing.
use native.Mathlib.Omega.{arith}
use mathlib.Core.Path.{sym, ◌∙◌}
use Rattle.names.proofs.Filled.{started, all_read, skipped, ended, one_more, twelve}
use Rattle.names.proofs.name_of.Goals as goal

pub loop-byte-init : goal.loop-byte-init
loop-byte-init c = started _

pub loop-byte-preserved-in-Skipped : goal.loop-byte-preserved-in-Skipped
loop-byte-preserved-in-Skipped c =
    let l = c.loop-byte in
    skipped _ _ _ _ l.invariant (omega arith) (sym c.byte_of.ensures ∙ c.in-Skipped.is)

pub returns-then-count-eq-NAME_SYMBOLS : goal.returns-then-count-eq-NAME_SYMBOLS
returns-then-count-eq-NAME_SYMBOLS c =
    let l = c.loop-byte in
    twelve _ _ _ _ l.invariant (omega arith) _ (sym c.byte_of.ensures ∙ c.in-Symbol.is) c.if-count-eq-NAME_SYMBOLS.true

pub loop-byte-preserved : goal.loop-byte-preserved
loop-byte-preserved c =
    let l = c.loop-byte in
    one_more _ _ _ _ l.invariant (omega arith) _ (sym c.byte_of.ensures ∙ c.in-Symbol.is) c.if-count-eq-NAME_SYMBOLS.false

pub returns-in-Ending : goal.returns-in-Ending
returns-in-Ending c =
    let l = c.loop-byte in
    ended _ _ _ _ l.invariant (omega arith) (sym c.byte_of.ensures ∙ c.in-Ending.is)

pub returns : goal.returns
returns c = all_read _ _ _ _ c.loop-byte.invariant (omega arith)
