use Rattle.std.proofs.Common.{◌≡◌, map, drop}
use Rattle.history_lines.specs.Spelling.{found}
use Rattle.history_lines.proofs.spelling.meaning_of.Given as goal

abbrev pub invariant-loop-row : goal.invariant-loop-row
invariant-loop-row g l = found (map (λ row. (row.0.now, row.1)) (drop l.row-index l.table)) l.word ≡ found (map (λ row. (row.0.now, row.1)) l.table) l.word
