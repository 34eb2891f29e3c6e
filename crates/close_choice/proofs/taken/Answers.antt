-- `close_choice::taken` meets its contract. Assumes nothing.
use Rattle.close_choice.proofs.Chain.{own-taken, private-free, public-taken}
use Rattle.close_choice.proofs.taken.Goals as goal

pub returns-then-own-lt-PLACES : goal.returns-then-own-lt-PLACES
returns-then-own-lt-PLACES c = search own-taken

pub returns-then-not-public : goal.returns-then-not-public
returns-then-not-public c = search private-free

pub returns : goal.returns
returns c = search public-taken
