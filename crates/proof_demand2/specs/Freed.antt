-- The free count "equals the segments no list names". Assumes nothing.
use Rattle.std.specs.Prelude.{ℕ, ◌≤◌, ◌≡◌, refl, true, List, length}
use Rattle.std.proofs.Common.{le-ltb}
use Rattle.combine.specs.Below.{count_below}
use Rattle.combine.specs.Verdict.{done, refuse◌when◌else◌}
use Rattle.combine.specs.Outcome.{outcome_of, settle}
use Rattle.placing.specs.Sizes.{greatest_user}
use Rattle.rules.specs.Gates.{user_gate}
use Rattle.segments.specs.Free.{is_free, free_count}
use Rattle.tables.specs.Layout.{segments_in}
use Rattle.tables.specs.Laws.Sound.{ranged-of}
use Rattle.cells.specs.Says.{house_of}
use Rattle.cells.specs.Outcomes.{lent, sound_lent, free_out}
use Rattle.free_count.specs.Lists.{free-unlisted, unlisted-free}
use Rattle.demands.specs.Demands.{FreeCounted}

counted : (s t : List ℕ) (u : ℕ) → sound_lent s t ≡ true → u ≤ greatest_user
    → free_out s t u ≡ outcome_of (done (count_below (segments_in t) (is_free (house_of t)))) (lent s t)
unfolding free_out user_gate settle refuse◌when◌else◌ free_count house_of
counted s t u sound l = rw (sound, le-ltb greatest_user u l) refl

pub free-counted : FreeCounted
free-counted x u sound l =
    let w = ranged-of (length x.store) x.tables sound in
    (counted x.store x.tables u sound l, λ g. (free-unlisted x.tables w g, unlisted-free x.tables w g))
