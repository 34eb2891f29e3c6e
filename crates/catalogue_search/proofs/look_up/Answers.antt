-- `catalogue_search::look_up` meets its contract. Assumes nothing.
use Rattle.catalogue_search.proofs.Searched.{own_first, then-public}
use Rattle.catalogue_search.proofs.look_up.Goals as goal

pub returns-then-own-lt-PLACES : goal.returns-then-own-lt-PLACES
returns-then-own-lt-PLACES c = own_first _ _ _ _ c.find-own.ensures c.if-own-lt-PLACES.true

pub returns : goal.returns
returns c = then-public _ _ _ _ c.find-own.ensures c.if-own-lt-PLACES.false _ c.find.ensures
