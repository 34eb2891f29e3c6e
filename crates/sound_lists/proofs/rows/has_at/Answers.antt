-- `sound_lists::rows::has_at` meets its contract. Assumes nothing.
use mathlib.Core.Path.{ap, ◌∙◌}
use native.Mathlib.Omega.{arith}
use lib.Dec.{eqb}
use Rattle.sound_lists.proofs.Sharing.{has-before, has-beyond, has_within}
use Rattle.sound_lists.proofs.rows.has_at.Goals as goal

pub returns-then-stretch-row : goal.returns-then-stretch-row
returns-then-stretch-row c = has-before _ _ _ _ _ c.if-stretch-row.true

pub returns-then-row-place : goal.returns-then-row-place
returns-then-row-place c = has-beyond _ _ _ _ _ (omega arith) c.if-row-place.true

pub returns : goal.returns
returns c = ap (eqb _) c.number.ensures ∙ has_within _ _ _ _ _ (omega arith) (omega arith)
