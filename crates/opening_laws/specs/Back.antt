-- A deed on what the cells of an opening say, written back, is the deed on the opening by value. Assumes nothing.
use Rattle.std.specs.Prelude.{ℕ, ◌+◌, ◌-◌, ◌≤◌, ◌<◌, ◌≡◌, refl, ◌≢◌, Bool, true, cond, List, [], ◌∷◌, ◌++◌, map, ltb, length, get_or, take, drop, set}
use Rattle.std.proofs.Common.{sym, ◌∙◌, arith, length-take-le, get_or-set_same, get_or-set_other}
use Rattle.std.proofs.Math.Path.{ap}
use Rattle.std.proofs.Math.Bool.{false}
use Rattle.std.proofs.Math.Option.{some}
use Rattle.std.proofs.Math.Dec.{eqb}
use Rattle.std.proofs.lemmas.List.{length-map}
use Rattle.combine.specs.Lists.{put}
use Rattle.placing.specs.declared.Segment.{Segment}
use Rattle.placing.specs.Sizes.{greatest_species, greatest_end, most_held}
use Rattle.placing.specs.Placing.{segment, position, held_of}
use Rattle.rules.specs.Headings.{Handle, opening, value, moved, holds}
use Rattle.rules.specs.Effects.{first_leaves, last_leaves}
use Rattle.segments.specs.Free.{SegmentHouse}
use Rattle.segments.specs.Deeds.{segments_after}
use Rattle.tables.specs.declared.Opening.{Opening}
use Rattle.tables.specs.Layout.{segment_number, position_number}
use Rattle.tables.specs.Fields.{value_of, held_by_opening}
use Rattle.tables.specs.Handles.{handle_in, pointed}
use Rattle.tables.specs.Laws.Again.{set_back}
use Rattle.tables.specs.Laws.Pointers.{value_in}
use Rattle.cells.specs.Says.{opening_in, in_places, as_opening}
use Rattle.opening_laws.specs.Deeded.{with_segments, with_segment, first_left, last_left}
use Rattle.placing.specs.Laws.Held.{held-from-next, held-to-last}
use Rattle.opening_laws.specs.Places.{places-at, places-from, places-to, places-put}

-- what an open entry of sound tables is
pub record OpenFile (o : Opening) : Type 0 where
  pub opened : o.opened ≡ 1
  -- "species 0 to 5; 1 <= begin <= end; at most 32 segments held"
  pub species : o.species ≤ greatest_species
  pub first : 1 ≤ value_of o 0
  pub order : value_of o 0 ≤ value_of o 1
  pub last : value_of o 1 ≤ greatest_end
  pub few : held_of o.species (value_of o 0) (value_of o 1) ≤ most_held
  pub pointers8 : length o.pointers ≡ 8
  pub segments32 : length o.segments ≡ 32
  -- its cells are determined by what they say
  pub determined : as_opening (some (opening_in o)) ≡ o

either : (o : Opening) (b : Bool) (l : List Segment) → with_segments o (cond b l o.segments) ≡ cond b (with_segments o l) o
either o true l = refl
either o false l = refl

module _ (o : Opening) (w : OpenFile o) where
  pub holds-in : held_by_opening o ≡ held_of o.species (value_of o 0) (value_of o 1)
  unfolding held_by_opening
  holds-in =
      let e : eqb o.opened 0 ≡ false = ap (λ (k : ℕ). eqb k 0) w.opened in
      rw e

  pub length-in : length (opening_in o).content ≡ held_of o.species (value_of o 0) (value_of o 1)
  length-in =
      let e : length (map segment_number o.segments) ≡ 32 = length-map o.segments segment_number ∙ w.segments32 in
      length-take-le (held_by_opening o) (map segment_number o.segments) (omega (arith, holds-in, w.few)) ∙ holds-in

  few-in : length (opening_in o).content ≤ 32
  few-in = omega (arith, length-in, w.few)

  places-in : in_places (opening_in o).content ≡ o.segments
  unfolding as_opening
  places-in = ap (λ (x : Opening). x.segments) w.determined

  -- a pointer moves, and the content changes
  pub deed-back : (p v : ℕ) (l : List ℕ) → as_opening (some (opening (moved (handle_in o) p v) l)) ≡ with_segments (pointed o p (position v)) (in_places l)
  unfolding as_opening
  deed-back p v l =
      let b : as_opening (some (opening_in o)) ≡ o = w.determined in
      λ i. record {
        opened = ap (λ (x : Opening). x.opened) b i;
        place = ap (λ (x : Opening). x.place) b i;
        permit = ap (λ (x : Opening). x.permit) b i;
        species = o.species;
        pointers = set_back o.pointers p v i;
        name = o.name;
        segments = in_places l;
      }

  -- the values of the handle afterwards
  pub value-moved : (p v : ℕ) → p < 8 → value (moved (handle_in o) p v) p ≡ v
  value-moved p v l =
      let e : length (map position_number o.pointers) ≡ 8 = length-map o.pointers position_number ∙ w.pointers8 in
      get_or-set_same (map position_number o.pointers) p v 0 (omega arith)

  pub value_stays : (p v q : ℕ) → q ≢ p → value (moved (handle_in o) p v) q ≡ value_of o q
  value_stays p v q d = get_or-set_other (map position_number o.pointers) p q v 0 d ∙ value_in o q

  -- ---- the first element leaves

  module _ (there : value_of o 0 < value_of o 1) where
    begun : Handle
    begun = moved (handle_in o) 0 (value_of o 0 + 1)

    holds-begun : holds begun ≡ held_of o.species (value_of o 0 + 1) (value_of o 1)
    unfolding begun
    holds-begun = λ i. held_of o.species (value-moved 0 (value_of o 0 + 1) (omega arith) i) (value_stays 0 (value_of o 0 + 1) 1 (λ q. omega arith) i)

    pub first_back : (h : SegmentHouse)
        → let n = moved (handle_in o) 0 (value_of o 0 + 1) in
        as_opening (some (opening n (segments_after h (opening_in o) n first_leaves))) ≡ first_left o
    unfolding first_left begun
    first_back h =
        let m = held-from-next o.species w.species (value_of o 0) w.first (value_of o 1) there in
        let o' = pointed o 0 (position (value_of o 0 + 1)) in
        let c = (opening_in o).content in
        deed-back 0 (value_of o 0 + 1) (drop (length c - holds begun) c)
        ∙ ap (with_segments o') (places-from c few-in (holds begun) (omega (arith, holds-begun, length-in)) (omega (arith, holds-begun, length-in)))
        ∙ (λ i. with_segments o' (cond (ltb (holds-begun i) (length-in i)) (drop 1 (places-in i) ++ (segment 0 ∷ [])) (places-in i)))
        ∙ either o' (ltb (held_of o.species (value_of o 0 + 1) (value_of o 1)) (held_of o.species (value_of o 0) (value_of o 1))) (drop 1 o.segments ++ (segment 0 ∷ []))

    -- ---- the last element leaves

    ending : Handle
    ending = moved (handle_in o) 1 (value_of o 1 - 1)

    holds-ending : holds ending ≡ held_of o.species (value_of o 0) (value_of o 1 - 1)
    unfolding ending
    holds-ending = λ i. held_of o.species (value_stays 1 (value_of o 1 - 1) 0 (λ q. omega arith) i) (value-moved 1 (value_of o 1 - 1) (omega arith) i)

    pub last-back : (h : SegmentHouse)
        → let n = moved (handle_in o) 1 (value_of o 1 - 1) in
        as_opening (some (opening n (segments_after h (opening_in o) n last_leaves))) ≡ last_left o
    unfolding last_left ending
    last-back h =
        let m = held-to-last o.species w.species (value_of o 0) w.first (value_of o 1) there in
        let o' = pointed o 1 (position (value_of o 1 - 1)) in
        let c = (opening_in o).content in
        deed-back 1 (value_of o 1 - 1) (take (holds ending) c)
        ∙ ap (with_segments o') (places-to c few-in (holds ending) (omega (arith, holds-ending, length-in)) (omega (arith, holds-ending, length-in)))
        ∙ (λ i. with_segments o' (cond (ltb (holds-ending i) (length-in i)) (set (places-in i) (length-in i - 1) (segment 0)) (places-in i)))
        ∙ either o' (ltb (held_of o.species (value_of o 0) (value_of o 1 - 1)) (held_of o.species (value_of o 0) (value_of o 1))) (set o.segments (held_of o.species (value_of o 0) (value_of o 1) - 1) (segment 0))

  -- ---- a segment is stored into: it is put at its place, or behind the last

  pub store-back : (p v k g : ℕ) → k ≤ held_of o.species (value_of o 0) (value_of o 1) → k < 32
      → as_opening (some (opening (moved (handle_in o) p v) (put (opening_in o).content k g))) ≡ with_segment (pointed o p (position v)) k (segment g)
  store-back p v k g h l =
      deed-back p v (put (opening_in o).content k g)
      ∙ ap (with_segments (pointed o p (position v))) (places-put (opening_in o).content few-in k g (omega (arith, length-in)) l ∙ ap (λ (x : List Segment). set x k (segment g)) places-in)

  -- a pointer moves, and the content stays
  pub stay-back : (p v : ℕ) → as_opening (some (opening (moved (handle_in o) p v) (opening_in o).content)) ≡ pointed o p (position v)
  stay-back p v = deed-back p v (opening_in o).content ∙ ap (with_segments (pointed o p (position v))) places-in

  -- ---- the segments that the cells say are those of the list

  pub segment-listed : (k : ℕ) → segment (get_or (opening_in o).content k 0) ≡ get_or o.segments k (segment 0)
  segment-listed k = sym (places-at (opening_in o).content k) ∙ ap (λ (x : List Segment). get_or x k (segment 0)) places-in
