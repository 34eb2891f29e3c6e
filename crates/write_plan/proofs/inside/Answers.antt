use Rattle.write_plan.proofs.Insides.{insides}
use Rattle.write_plan.proofs.inside.Goals as goal

pub returns-then-is_at_most : goal.returns-then-is_at_most
returns-then-is_at_most c = search insides

pub returns-then-wide : goal.returns-then-wide
returns-then-wide c = search insides

pub returns-then-first : goal.returns-then-first
returns-then-first c = search insides

pub seat-requires : goal.seat-requires
seat-requires c = search insides

pub returns : goal.returns
returns c = search insides
