-- The segment for the element that is written, as the code's steps give its premises. Assumes nothing.
use Rattle.std.specs.Prelude.{Result, Ok, Err}
use Prim.Native.Nat.{ℕ, ◌≤◌, ◌<◌}
use mathlib.Core.Path.{◌≡◌, refl, sym, ap, subst, ◌∙◌}
use mathlib.Core.Bool.{Bool, true, false, not, ◌&&◌, cond}
use mathlib.Core.List.{List}
use native.Mathlib.Omega.{arith}
use lib.Dec.{leb, ltb}
use lib.ListN.{get_or}
use borrow.Author.Tests.{le-leb, lt-leb, lt-ltb, le-ltb, ltb-true, not-true, not-false}
use Rattle.combine.specs.Laws.Below.{or_left}
use Rattle.combine.specs.Laws.Verdict.{refused-here, went_on}
use Rattle.answers.specs.declared.Refusal.{Refusal}
use Rattle.answers.specs.declared.Refusal.TheVariants.{Room}
use Rattle.placing.specs.declared.Segment.{Segment}
use Rattle.placing.specs.declared.Position.{Position}
use Rattle.placing.specs.Placing.{segment, held_of, slot_of}
use Rattle.store.specs.Store.{zeroed, copied}
use Rattle.segments.specs.Free.{SegmentOpening, SegmentHouse, lowest_free, has_room}
use Rattle.segments.specs.Deeds.{lacks, segment_at, shares_at, takes_at, target, prepared}
use Rattle.tables.specs.declared.Opening.{Opening}
use Rattle.tables.specs.Layout.{segment_number, segments_in}
use Rattle.tables.specs.Fields.{value_of, number_at}
use Rattle.cells.specs.Says.{opening_in, house_of}
use Rattle.opening_laws.specs.Shared.{shares_number, lacks-in, segment-in, shares-in}
use Rattle.opening_steps.specs.Spans.{Spans, file-spans}
use Rattle.gate_laws.specs.Known.{Known}
use Rattle.write_plan.specs.declared.Plan.TheVariants.{Put, Copy, Zero}
use Rattle.write_plan.specs.Plans.{room_of, Seats, seat_verdict, Stores, Decision, Planned}

-- a segment is free where the lowest free one is below their number
room-is : (t : List ℕ) → has_room (house_of t) ≡ ltb (lowest_free (house_of t)) (segments_in t)
unfolding house_of
room-is t = refl

module _ (t : List ℕ) where
  room-by : (b : Bool) → has_room (house_of t) ≡ b → room_of t ≡ cond b (Ok (segment (lowest_free (house_of t)))) (Err Room)
  unfolding room_of
  room-by b h = rw h refl

  -- the lowest free one, which was found
  module _ (f : Segment) (ef : f ≡ segment (lowest_free (house_of t))) (n : ℕ) (en : n ≡ f.0) where
    pub room-none : segments_in t ≤ n → Err Room ≡ room_of t
    room-none l =
        let q = ap segment_number ef in
        sym (room-by false (room-is t ∙ le-ltb (lowest_free (house_of t)) (segments_in t) (omega arith)))

    pub room-there : n < segments_in t → Ok f ≡ room_of t
    room-there l =
        let q = ap segment_number ef in
        ap Ok ef ∙ sym (room-by true (room-is t ∙ lt-ltb (lowest_free (house_of t)) (segments_in t) (omega arith)))

  -- what the room says
  module _ (r : Result Segment Refusal) (er : r ≡ room_of t) where
    full-by : (b : Bool) → has_room (house_of t) ≡ b → (why : Refusal) → r ≡ Err why → (why ≡ Room) × (has_room (house_of t) ≡ false)
    full-by false h why at =
        let q : ◌≡◌ {A = Result Segment Refusal} (Err why) (Err Room) = sym at ∙ er ∙ room-by false h in
        let z : why ≡ Room = cc in (z, h)
    full-by true h why at =
        let q : ◌≡◌ {A = Result Segment Refusal} (Err why) (Ok (segment (lowest_free (house_of t)))) = sym at ∙ er ∙ room-by true h in
        absurd (let z : ◌≡◌ {A = ℕ} 0 1 = cc in omega arith)

    free-by : (b : Bool) → has_room (house_of t) ≡ b → (f : Segment) → r ≡ Ok f → (f ≡ segment (lowest_free (house_of t))) × (has_room (house_of t) ≡ true)
    free-by true h f at =
        let q : ◌≡◌ {A = Result Segment Refusal} (Ok f) (Ok (segment (lowest_free (house_of t)))) = sym at ∙ er ∙ room-by true h in
        let z : f ≡ segment (lowest_free (house_of t)) = cc in (z, h)
    free-by false h f at =
        let q : ◌≡◌ {A = Result Segment Refusal} (Ok f) (Err Room) = sym at ∙ er ∙ room-by false h in
        absurd (let z : ◌≡◌ {A = ℕ} 0 1 = cc in omega arith)

    full : (why : Refusal) → r ≡ Err why → (why ≡ Room) × (has_room (house_of t) ≡ false)
    full = full-by (has_room (house_of t)) refl

    free : (f : Segment) → r ≡ Ok f → (f ≡ segment (lowest_free (house_of t))) × (has_room (house_of t) ≡ true)
    free = free-by (has_room (house_of t)) refl

pub ruleset rooms = (room-none, room-there)

-- the store's cells before the element is put
module _ (s : List ℕ) (h : SegmentHouse) (x : SegmentOpening) (v : ℕ) where
  prepared-zero : lacks x v ≡ true → prepared s h x v ≡ zeroed s (segment (target h x v))
  unfolding prepared
  prepared-zero a = rw a refl

  prepared_copy : lacks x v ≡ false → shares_at h.records x v ≡ true → prepared s h x v ≡ copied s (segment (segment_at x v)) (segment (target h x v))
  unfolding prepared
  prepared_copy a b = rw (a, b) refl

  prepared-same : lacks x v ≡ false → shares_at h.records x v ≡ false → prepared s h x v ≡ s
  unfolding prepared
  prepared-same a b = rw (a, b) refl

module _ (t : List ℕ) (o : Opening) (p : ℕ) (w : Known t o) (z : Seats o p) where
  takes : Bool
  takes = takes_at (house_of t).records (opening_in o) (value_of o p)

  -- no segment is free; d is the decision
  no_room : takes ≡ true → (r : Result Segment Refusal) → r ≡ room_of t → (why : Refusal) → r ≡ Err why → (d : Decision) → d ≡ Err why → Planned t o p (seat_verdict t o p) d
  unfolding seat_verdict takes
  no_room a r er why at d ed =
      let f = full t r er why at in
      let b = f.1 in
      subst (λ (x : Decision). Planned t o p (seat_verdict t o p) x) (sym (ed ∙ ap Err f.0)) (record { says = λ n. refused-here 9 _ _ (rw (a, b) refl) })

  module _ (v : Position) (ev : v.0 ≡ value_of o p) (k : ℕ) (kv : k ≡ slot_of o.species (value_of o 0) v.0) where
    ek : k ≡ slot_of o.species (value_of o 0) (value_of o p)
    ek = kv ∙ ap (λ (j : ℕ). slot_of o.species (value_of o 0) j) ev

    -- the element goes to g
    into : (g : Segment) → g ≡ segment (target (house_of t) (opening_in o) (value_of o p)) → g.0 < segments_in t → (takes && not (has_room (house_of t))) ≡ false
        → Stores t o p (seat_verdict t o p) k g
    unfolding seat_verdict takes
    into g e l a = record { seats = z; place = ek; which = e; range = l; told = λ n. went_on 9 _ _ _ a refl }

    -- to the lowest free segment
    module _ (r : Result Segment Refusal) (er : r ≡ room_of t) (f : Segment) (at : r ≡ Ok f) (here : takes ≡ true) where
      found : (f ≡ segment (lowest_free (house_of t))) × (has_room (house_of t) ≡ true)
      found = free t r er f at

      target_free : segment (target (house_of t) (opening_in o) (value_of o p)) ≡ f
      unfolding target takes
      target_free = rw here (sym found.0)

      into-free : Stores t o p (seat_verdict t o p) k f
      into-free =
          let q = ap segment_number found.0 in
          let b = found.1 in
          let l = ltb-true (lowest_free (house_of t)) (segments_in t) (sym (room-is t) ∙ b) in
          into f (sym target_free) (omega arith) (rw (here, b) refl)

    module _ (h : ℕ) (eh : h ≡ held_of o.species (value_of o 0) (value_of o 1)) where
      lacking : lacks (opening_in o) (value_of o p) ≡ leb h k
      lacking = lacks-in o w.file (value_of o p) ∙ (λ i. leb (sym eh i) (sym ek i))

      -- the stretch has no segment
      module _ (past : h ≤ k) where
        lacks-it : lacks (opening_in o) (value_of o p) ≡ true
        lacks-it = lacking ∙ le-leb h k past

        takes-it : takes ≡ true
        unfolding takes
        takes-it = or_left _ _ lacks-it

        module _ (r : Result Segment Refusal) (er : r ≡ room_of t) where
          pub seat-no-room : (why : Refusal) → r ≡ Err why → (d : Decision) → d ≡ Err why → Planned t o p (seat_verdict t o p) d
          seat-no-room = no_room takes-it r er

          pub seat-zero : (f : Segment) → r ≡ Ok f → Planned t o p (seat_verdict t o p) (Ok (Zero k f))
          seat-zero f at =
              record {
                says = record {
                  into = into-free r er f at takes-it;
                  cells = λ s. prepared-zero s (house_of t) (opening_in o) (value_of o p) lacks-it ∙ ap (zeroed s) (target_free r er f at takes-it);
                };
              }

      -- the stretch has the segment g; b says that it is the record's too
      module _ (inside : k < h) (g : Segment) (eg : g ≡ get_or o.segments k (segment 0)) (b : Bool) (eb : b ≡ shares_number t o g.0) where
        holds-it : lacks (opening_in o) (value_of o p) ≡ false
        holds-it = lacking ∙ lt-leb h k inside

        own : g ≡ segment (segment_at (opening_in o) (value_of o p))
        own = eg ∙ ap (λ (j : ℕ). get_or o.segments j (segment 0)) ek ∙ sym (segment-in o w.file (value_of o p))

        shares-it : shares_at (house_of t).records (opening_in o) (value_of o p) ≡ b
        shares-it =
            shares-in o w.file (value_of o p) t
            ∙ ap (λ (j : ℕ). shares_number t o (number_at o.segments j)) (sym ek) ∙ ap (λ (x : Segment). shares_number t o x.0) (sym eg) ∙ sym eb

        seat-range : g.0 < segments_in t
        seat-range = let q = ap segment_number eg in omega (arith, w.range k (omega arith))

        takes-b : takes ≡ b
        unfolding takes
        takes-b = rw (holds-it, shares-it) refl

        pub seat-put : not b ≡ true → Planned t o p (seat_verdict t o p) (Ok (Put g))
        unfolding target takes
        seat-put n =
            let a : takes ≡ false = takes-b ∙ not-true b n in
            let q : g ≡ segment (target (house_of t) (opening_in o) (value_of o p)) = rw a own in
            let i = into g q seat-range (rw a refl) in
            record {
              says = record {
                into = record { seats = z; place = refl; which = q; range = seat-range; told = i.told };
                there = ap (λ (j : ℕ). get_or o.segments j (segment 0)) (sym ek) ∙ sym eg;
                held = omega (arith, ek, eh);
                alone = sym eb ∙ not-true b n;
                cells = λ s. prepared-same s (house_of t) (opening_in o) (value_of o p) holds-it (shares-it ∙ not-true b n);
              };
            }

        module _ (n : not b ≡ false) (r : Result Segment Refusal) (er : r ≡ room_of t) where
          takes-copy : takes ≡ true
          takes-copy = takes-b ∙ not-false b n

          pub seat-no-copy : (why : Refusal) → r ≡ Err why → (d : Decision) → d ≡ Err why → Planned t o p (seat_verdict t o p) d
          seat-no-copy = no_room takes-copy r er

          pub seat-copy : (f : Segment) → r ≡ Ok f → Planned t o p (seat_verdict t o p) (Ok (Copy k g f))
          seat-copy f at =
              record {
                says = record {
                  into = into-free r er f at takes-copy;
                  source = seat-range;
                  cells = λ s. prepared_copy s (house_of t) (opening_in o) (value_of o p) holds-it (shares-it ∙ not-false b n) ∙ (λ i. copied s (sym own i) (target_free r er f at takes-copy i));
                };
              }

-- the place is one of the list
pub seat-index : (t : List ℕ) (o : Opening) (p : ℕ) → Seats o p → (v : Position) → v.0 ≡ value_of o p → (k : ℕ) → k ≡ slot_of o.species (value_of o 0) v.0 → k < 32
seat-index t o p z v ev k kv =
    let l = z.small in
    let e : k ≡ slot_of o.species (value_of o 0) (value_of o p) = kv ∙ ap (λ (j : ℕ). slot_of o.species (value_of o 0) j) ev in
    omega arith

pub known-spans : (t : List ℕ) (o : Opening) → Known t o → Spans o
known-spans t o w = file-spans o w.file

pub ruleset seats = (seat-index, known-spans, seat-no-room, seat-zero, seat-put, seat-no-copy, seat-copy)
