-- `call_ask::field` meets its contract. Assumes nothing.
use borrow.Author.Rules.{rules}
use Rattle.call_ask.specs.Told.{field_at}
use Rattle.call_ask.proofs.field.Goals as goal

pub returns : goal.returns
unfolding field_at
returns c = search rules
