-- A choice of two tests. Assumes nothing.
use mathlib.Core.Path.{◌≡◌, sym, ap, ◌∙◌}
use mathlib.Core.Bool.{Bool, true, false, not, ◌||◌}
use Rattle.combine.specs.Laws.Below.{or_left}

pub or-first : (a b : Bool) → a ≡ true → true ≡ (a || b)
or-first a b p = sym (or_left a b p)

pub or-second : (a b : Bool) → a ≡ false → b ≡ (a || b)
or-second a b p = rw p

-- what `!=` says, of the test that `==` is
pub swapped : {r b : Bool} (x : Bool) → r ≡ not x → r ≡ b → x ≡ not b
swapped true e t = ap not (sym e ∙ t)
swapped false e t = ap not (sym e ∙ t)
