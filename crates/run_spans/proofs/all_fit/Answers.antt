use mathlib.Core.Path.{refl, sym, ◌∙◌}
use native.Mathlib.Omega.{arith}
use Rattle.combine.specs.Laws.Below.{not-both}
use Rattle.run_spans.proofs.Fit.{all-fitting}
use Rattle.run_spans.proofs.all_fit.Goals as goal

pub returns-then-width-ge-CELL_BITS : goal.returns-then-width-ge-CELL_BITS
returns-then-width-ge-CELL_BITS c = λ t. absurd (not-both t refl)

pub returns-then-most-gt-MOST_AT_ONCE : goal.returns-then-most-gt-MOST_AT_ONCE
returns-then-most-gt-MOST_AT_ONCE c = λ t. absurd (not-both t refl)

pub returns : goal.returns
returns c =
    λ t. all-fitting c.args.species c.args.list.now c.args.most c.width-width.result c.width-width.ensures (omega arith) c.requires.1 (sym c.all_below.ensures ∙ t)
