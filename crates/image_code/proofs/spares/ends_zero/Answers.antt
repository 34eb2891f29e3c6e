-- `image_code::spares::ends_zero` meets its contract: all records before `p` passed the test. Assumes nothing.
use mathlib.Core.Path.{◌∙◌}
use native.Mathlib.Omega.{arith}
use borrow.Author.Tests.{eq-eqb, ne_eqb}
use Rattle.combine.specs.Laws.Below.{all-zero, all_more, loop-true, loop-false}
use Rattle.placing.specs.Sizes.{places}
use Rattle.image.specs.Image.{sparesb}
use Rattle.image_code.specs.Spare.{spare-in}
use Rattle.image_code.proofs.spares.ends_zero.Goals as goal

pub loop-p-init : goal.loop-p-init
loop-p-init c = all-zero _

pub returns-then-image-p-ne0 : goal.returns-then-image-p-ne0
unfolding sparesb
returns-then-image-p-ne0 c =
    let l = c.loop-p in
    loop-false _ places l.p (omega arith) (spare-in c.args.image.now l.p c.requires (omega arith) ∙ ne_eqb _ _ c.if-image-p-ne0.true)

pub loop-p-preserved : goal.loop-p-preserved
loop-p-preserved c =
    let l = c.loop-p in
    all_more _ l.p l.invariant (spare-in c.args.image.now l.p c.requires (omega arith) ∙ eq-eqb _ _ c.if-image-p-ne0.false)

pub returns : goal.returns
unfolding sparesb
returns c = loop-true _ places _ (omega arith) (omega arith) c.loop-p.invariant
