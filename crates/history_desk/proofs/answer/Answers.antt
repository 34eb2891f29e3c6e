use Rattle.std.proofs.Common.{◌≡◌, length, true-eqb, false-eqb}
use Rattle.history_desk.specs.Speaking.{spoken-lines}
use Rattle.history_desk.proofs.answer.Goals as goal

pub returns-then-is_empty : goal.returns-then-is_empty
returns-then-is_empty c =
    let empty : length c.args.line.now ≡ 0 = true-eqb _ _ c.if-is_empty.ensures in
    search (spoken-lines, empty)

pub returns-then-line-eq-COMMENT : goal.returns-then-line-eq-COMMENT
returns-then-line-eq-COMMENT c =
    let some : length c.args.line.now ≡ 0 → ⊥ = false-eqb _ _ c.if-is_empty.ensures in
    search (spoken-lines, some)

pub returns : goal.returns
returns c =
    let some : length c.args.line.now ≡ 0 → ⊥ = false-eqb _ _ c.if-is_empty.ensures in
    search (spoken-lines, some)
