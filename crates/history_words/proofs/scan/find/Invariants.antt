use Rattle.std.proofs.Common.{◌≡◌, ◌+◌}
use Rattle.history_words.specs.Words.{index_of, slice}
use Rattle.history_words.proofs.scan.find.Given as goal

abbrev pub invariant-loop-i : goal.invariant-loop-i
invariant-loop-i l = l.i + index_of l.byte (slice l.i l.to l.text) ≡ l.from + index_of l.byte (slice l.from l.to l.text)
