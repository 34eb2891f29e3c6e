-- `names::name_of` meets its contract: `Reading` says what stands in the name when byte `i` is reached. Assumes
-- nothing.
use Rattle.names.proofs.Filled.{Reading}
use Rattle.names.proofs.name_of.Given as goal

abbrev pub invariant-loop-byte : goal.invariant-loop-byte
invariant-loop-byte l = Reading l.bytes l.name l.count l.byte-index
