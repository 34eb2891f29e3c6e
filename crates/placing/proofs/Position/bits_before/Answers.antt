-- `placing::Position::bits_before` meets its contract. Assumes nothing.
use native.Mathlib.Omega.{arith}
use Rattle.placing.proofs.Laws.{bits-code}
use Rattle.placing.proofs.Position.bits_before.Goals as goal

pub overflow_mul-result : goal.overflow_mul-result
overflow_mul-result c =
    let l = (let a = c.args in bits-code a.species c.requires.1 a.self.0 _ _ c.elements.ensures.0 c.width.ensures).1 in record { fits = omega (arith, l) }

pub returns : goal.returns
returns c =
    let a = c.args in bits-code a.species c.requires.1 a.self.0 _ _ c.elements.ensures.0 c.width.ensures
