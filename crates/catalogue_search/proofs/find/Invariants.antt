-- `catalogue_search::find` meets its contract: no place below `place` has such a record. Assumes nothing.
use mathlib.Core.Path.{◌≡◌}
use Rattle.combine.specs.First.{first_below}
use Rattle.catalogue_laws.specs.Places.{another}
use Rattle.catalogue_search.specs.Sought.{sought}
use Rattle.catalogue_search.proofs.find.Given as goal

abbrev pub invariant-loop-place : goal.invariant-loop-place
invariant-loop-place l = first_below l.place (another (sought l.wanted l.name) l.tables l.but) ≡ l.place
