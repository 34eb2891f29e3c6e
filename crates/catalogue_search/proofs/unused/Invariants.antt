-- `catalogue_search::unused` meets its contract: every place below `lowest` is used. Assumes nothing.
use mathlib.Core.Path.{◌≡◌}
use Rattle.combine.specs.First.{first_below}
use mathlib.Core.Bool.{not}
use Rattle.tables.specs.Layout.{record_at}
use Rattle.tables.specs.Fields.{is_used}
use Rattle.catalogue_search.proofs.unused.Given as goal

abbrev pub invariant-loop-lowest : goal.invariant-loop-lowest
invariant-loop-lowest l = first_below l.lowest (λ q. not (is_used (record_at l.tables q))) ≡ l.lowest
