-- `catalogue_search::busy` meets its contract: no entry below `entry` keeps others off. Assumes nothing.
use mathlib.Core.Path.{◌≡◌}
use Rattle.combine.specs.First.{first_below}
use Rattle.tables.specs.Layout.{opening_at}
use Rattle.catalogue_laws.specs.Entries.{keeps_off}
use Rattle.catalogue_search.proofs.busy.Given as goal

abbrev pub invariant-loop-entry : goal.invariant-loop-entry
invariant-loop-entry l = first_below l.entry (λ i. keeps_off l.work l.place (opening_at l.tables i)) ≡ l.entry
