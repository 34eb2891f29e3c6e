-- The records that a search is for: of user u, with the name n. Assumes nothing.
use Rattle.std.specs.Prelude.{ℕ, ◌≡◌, refl, Bool, not, ◌&&◌, List, eqb}
use Rattle.rules.specs.Headings.{Heading}
use Rattle.rules.specs.Rules.{has_name, is_own, is_public}
use Rattle.catalogue_search.specs.declared.Wanted.{Wanted}
use Rattle.catalogue_search.specs.declared.Wanted.TheVariants.{Own, Public}

-- by owner and privacy
unfoldable pub concerned : Wanted → ℕ → Bool → Bool
concerned (Own u) owner private = eqb owner u
concerned Public owner private = not private

unfoldable pub sought : Wanted → List ℕ → Heading → Bool
sought (Own u) n r = is_own u n r
sought Public n r = is_public n r

pub sought-named : (w : Wanted) (n : List ℕ) (r : Heading) → sought w n r ≡ (concerned w r.owner r.private && has_name n r)
unfolding concerned sought
sought-named (Own u) n r = refl
sought-named Public n r = refl
