use mathlib.Core.Path.{◌≡◌}
use mathlib.Core.Bool.{false}
use Rattle.opening_laws.specs.Shared.{lists_number}
use Rattle.write_plan.proofs.lists.Given as goal

abbrev pub invariant-loop-found : goal.invariant-loop-found
invariant-loop-found l = lists_number l.fn.list l.found-index l.number ≡ false
