-- `names::used_bytes` meets its contract: `Counting` says that the bytes before `i` are used. Assumes nothing.
use Rattle.names.proofs.Counted.{Counting}
use Rattle.names.proofs.used_bytes.Given as goal

abbrev pub invariant-loop-i : goal.invariant-loop-i
invariant-loop-i l = Counting l.bytes l.left l.i
