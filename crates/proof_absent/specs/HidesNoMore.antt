-- Nothing else looks absent: 11 is answered only where no record that the user may read has the name. Assumes nothing.
use Rattle.std.specs.Prelude.{ℕ, List, map, T, eqb}
use Rattle.std.proofs.Common.{subst}
use Rattle.std.proofs.Math.Option.{Option, none, some}
use Rattle.combine.specs.Verdict.{Said}
use Rattle.combine.specs.Laws.Verdict.{Refuses}
use Rattle.combine.specs.Laws.Tests.{false_of}
use Rattle.rules.specs.Calls.{Way, opens}
use Rattle.rules.specs.Headings.{Heading, head_of}
use Rattle.rules.specs.House.{others_of}
use Rattle.rules.specs.Levels.{ruled}
use Rattle.rules.specs.Readable.{asks_for}
use Rattle.rules.specs.Laws.Readable.{NoneThere}
use Rattle.rules.proofs.Laws.Readable.{way-hides}
use Rattle.segments.specs.Free.{SegmentOpening}
use Rattle.segments.specs.Deeds.{segment_level}
use Rattle.cells.specs.Says.{house_of}
use Rattle.cells.specs.Outcomes.{Lent, request_out}
use Rattle.demands.specs.Absent.{HidesNoMore}
use Rattle.proof_absent.specs.Refused.{open_at, request-refuses}

module _ (u e : ℕ) (w : Way) (x : Lent) where
  abbrev headings : List (Option Heading)
  headings = map head_of (house_of x.tables).records

  abbrev Hides : ℕ → Type 0
  Hides k = T (eqb k 11) → NoneThere u (asks_for w) headings

  rule-hides : (there : Option SegmentOpening) → Refuses Hides (ruled (segment_level x.store) (opens w) u (house_of x.tables) there)
  rule-hides none = way-hides w u headings (others_of ((segment_level x.store).room (house_of x.tables)) (house_of x.tables).openings)
  rule-hides (some o) = λ t. absurd t

  answer-hides : Refuses Hides (request_out (opens w) x.store x.tables u e).answer
  answer-hides = request-refuses Hides (λ t. absurd t) (λ t. absurd t) (λ t. absurd t) u e (opens w) x (rule-hides (open_at u e x))

pub hides-no-more : HidesNoMore
hides-no-more u e w x q = false_of _ (subst (λ (a : Said). Refuses (Hides u e w x) a) q (answer-hides u e w x) tt)
