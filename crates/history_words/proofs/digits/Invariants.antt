use Rattle.std.proofs.Common.{◌≡◌, drop}
use Rattle.history_words.specs.Words.{digits_from}
use Rattle.history_words.proofs.digits.Given as goal

abbrev pub invariant-loop-byte : goal.invariant-loop-byte
invariant-loop-byte l = digits_from l.value (drop l.byte-index l.word) ≡ digits_from 0 l.word
