-- The two ways to open an old file. Assumes nothing.
use Rattle.std.specs.Prelude.{ℕ, Bool, true, false, List}
use Rattle.rules.specs.Calls.{Way, work, read}

unfoldable pub way_of : Bool → List ℕ → Way
way_of true bytes = work bytes
way_of false bytes = read bytes
