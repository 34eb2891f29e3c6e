use Rattle.std.proofs.Common.{rules, ◌≡◌, ◌∙◌, ◌+◌, ◌*◌, ◌%◌, fold}
use Rattle.history_buffers.specs.Laws.{summed_by}
use Rattle.history_buffers.proofs.sum.Goals as goal

pub returns : goal.returns
returns c =
    let folded : c.fold.result ≡ fold (λ h cell. (h * 31 + cell) % 4294967291) 0 c.args.cells.now = search rules in
    folded ∙ summed_by c.args.cells.now 0
