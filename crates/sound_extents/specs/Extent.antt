-- An extent with the list of the segments that it holds: s is a species, b and e a file's begin and end. Assumes nothing.
use Rattle.std.specs.Prelude.{ℕ, ◌≡◌, Bool, List, [], ◌∷◌}
use Rattle.std.proofs.Common.{◌∙◌}
use Rattle.combine.specs.Rows.{all_of}
use Rattle.placing.specs.declared.Position.{Position}
use Rattle.placing.specs.declared.Segment.{Segment}
use Rattle.placing.specs.Placing.{position, held_of}
use Rattle.tables.specs.Records.{extentb, listb}

-- the two tests, in a store of n segments
unfoldable pub contentb : (n s b e : ℕ) → List Segment → Bool
contentb n s b e l = all_of (extentb s b e ∷ listb n (held_of s b e) l ∷ [])

-- the number of segments held, computed of positions
pub held_at : (s b e n : ℕ) (x y : Position) → x ≡ position b → y ≡ position e → n ≡ held_of s x.0 y.0 → n ≡ held_of s b e
held_at s b e n x y p q h = h ∙ (λ i. held_of s (p i).0 (q i).0)
