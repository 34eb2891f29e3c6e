-- `catalogue_search::concerns` meets its contract. Assumes nothing.
use Rattle.catalogue_search.proofs.Fitting.{own-wanted, public-wanted}
use Rattle.catalogue_search.proofs.concerns.Goals as goal

pub returns-in-Own : goal.returns-in-Own
returns-in-Own c = own-wanted _ _ _ _ c.in-Own.is

pub returns-in-Public : goal.returns-in-Public
returns-in-Public c = public-wanted _ _ _ c.in-Public.is
