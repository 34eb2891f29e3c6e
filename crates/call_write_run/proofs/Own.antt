-- A segment that an opening holds alone: a write into it is put there, and so is the write at each later position of the stretch. t are the
-- tables' cells, o an opening, p a pointer, g a segment. Assumes nothing.
use Rattle.std.specs.Prelude.{Ok}
use Prim.Native.Nat.{ℕ, zero, suc, ◌+◌, ◌-◌, ◌≤◌, ◌<◌}
use mathlib.Core.Path.{◌≡◌, refl, sym, ap, subst, ◌∙◌}
use mathlib.Core.Logic.{◌≢◌, ⊎_elim}
use mathlib.Core.Bool.{false}
use mathlib.Core.List.{List}
use native.Mathlib.Nat.{add-zero}
use native.Mathlib.Omega.{arith}
use lib.Dec.{leb, ltb, eqb}
use lib.ListN.{length, get_or}
use borrow.Author.Tests.{ne_eqb, le-ltb, lt-leb}
use Rattle.combine.specs.Lists.{is_in}
use Rattle.combine.specs.Laws.Lists.{tab-cong}
use Rattle.combine.specs.Laws.Numbers.{eq-or-ne}
use Rattle.numbers.specs.Numbers.{is_foreign}
use Rattle.placing.specs.declared.Segment.{Segment}
use Rattle.placing.specs.Sizes.{greatest_end, most_held, places, entries, all_pointers, tables_length}
use Rattle.placing.specs.Placing.{segment, position, stretch_of, held_of, slot_of}
use Rattle.placing.specs.Laws.Held.{held-behind}
use Rattle.segments.specs.Free.{place_segments}
use Rattle.tables.specs.declared.Opening.{Opening}
use Rattle.tables.specs.Layout.{record_at, opening_at, put_opening}
use Rattle.tables.specs.Fields.{value_of}
use Rattle.tables.specs.Handles.{handle_in, pointed}
use Rattle.tables.specs.Laws.Again.{ShapedOpening}
use Rattle.tables.specs.Laws.Put.{opening-shaped-at, record-kept}
use Rattle.cells.specs.Says.{decoded_record, house_of}
use Rattle.opening_laws.specs.Shared.{shares_number}
use Rattle.opening_steps.specs.Spans.{end-holds}
use Rattle.gate_laws.specs.Known.{Known}
use Rattle.write_plan.specs.declared.Plan.TheVariants.{Put}
use Rattle.write_plan.specs.Plans.{Seats, write_verdict, seat_verdict, Planned}
use Rattle.write_plan.proofs.Seats.{seat-put}
use Rattle.write_plan.proofs.Appends.{append-seats, append-on}
use Rattle.write_plan.proofs.Insides.{inside-seats, inside_on}
use Rattle.write_plan.proofs.Decides.{write-append, write-inside}
use Rattle.run_spans.specs.Ahead.{Ahead}
use Rattle.run_laws.specs.Pointed.{pointed-shaped, by_value, by-beside}
use Rattle.run_puts.specs.Puts.{limit_of}
use Rattle.run_puts.specs.Laws.Limits.{limit-end, limit-other}

-- the position of pointer p lies in segment g, which the opening holds alone, and is written at
pub record Own (t : List ℕ) (o : Opening) (p : ℕ) (g : Segment) : Type 0 where
  pub known : p < all_pointers
  pub kind : is_foreign false o.species ≡ false
  pub inner : p ≢ 0
  pub works : o.permit ≡ 1
  pub low : value_of o 0 ≤ value_of o p
  pub below : value_of o p < limit_of o p
  pub held : slot_of o.species (value_of o 0) (value_of o p) < held_of o.species (value_of o 0) (value_of o 1)
  pub there : get_or o.segments (slot_of o.species (value_of o 0) (value_of o p)) (segment 0) ≡ g
  pub alone : shares_number t o g.0 ≡ false

-- ---- a write there is put

module _ (t : List ℕ) (o : Opening) (w : Known t o) (g : Segment) where
  seat : (p : ℕ) → Own t o p g → Seats o p → Planned t o p (seat_verdict t o p) (Ok (Put g))
  seat p a z =
      seat-put t o p w z (position (value_of o p)) refl (slot_of o.species (value_of o 0) (value_of o p)) refl (held_of o.species (value_of o 0) (value_of o 1)) refl a.held g
      (sym a.there) false (sym a.alone) refl

  some : (p : ℕ) → Own t o p g → eqb (value_of o p) 0 ≡ false
  some p a = ne_eqb (value_of o p) 0 (λ e. let f = w.file.first in let l = a.low in omega arith)

  from : (p : ℕ) → Own t o p g → ltb (value_of o p) (value_of o 0) ≡ false
  from p a = le-ltb (value_of o p) (value_of o 0) a.low

  append-planned : Own t o 1 g → Planned t o 1 (write_verdict t o 1 false false) (Ok (Put g))
  append-planned a =
      let f = w.file in
      let e = position (value_of o 1) in
      let x = position (value_of o 1 + 1) in
      let m = pointed o 1 (position (value_of o 1 + 1)) in
      let h = held_of m.species (value_of m 0) (value_of m 1) in
      let l : leb greatest_end (value_of o 1) ≡ false = lt-leb greatest_end (value_of o 1) (omega (arith, a.below, limit-end o 1 refl)) in
      let few : h ≤ most_held =
      omega (arith, end-holds o m f x refl, held-behind o.species f.species (value_of o 0) f.first (value_of o 1) f.order, a.held, f.few) in
      write-append t o 1 false false _ refl a.kind (value_of o 1) refl _ refl (some 1 a) a.works (value_of o 0) refl _ refl (from 1 a) refl (Ok (Put g))
      (append-on t o false refl e refl _ refl l w x refl m refl h refl few (Ok (Put g)) (seat 1 a (append-seats t o false refl e refl _ refl l w x refl m refl h refl few)))

  inner-planned : (p : ℕ) → Own t o p g → p ≢ 1 → Planned t o p (write_verdict t o p false false) (Ok (Put g))
  inner-planned p a d =
      let high : leb (value_of o 1) (value_of o p) ≡ false = lt-leb (value_of o 1) (value_of o p) (omega (arith, a.below, limit-other o p d)) in
      write-inside t o p false false _ refl a.kind (value_of o p) refl _ refl (some p a) a.works (value_of o 0) refl _ refl (from p a) d (Ok (Put g))
      (inside_on t o p false (value_of o p) (value_of o 1) refl refl _ refl high refl (ne_eqb p 0 a.inner) (Ok (Put g))
      (seat p a (inside-seats t o p false (value_of o p) (value_of o 1) refl refl _ refl high w a.low)))

  pub own-planned : (p : ℕ) → Own t o p g → Planned t o p (write_verdict t o p false false) (Ok (Put g))
  own-planned p a =
      ⊎_elim
      (λ (e : p ≡ 1). subst (λ (q : ℕ). Own t o q g → Planned t o q (write_verdict t o q false false) (Ok (Put g))) (sym e) append-planned a)
      (λ d. inner-planned p a d) (eq-or-ne p 1)

-- ---- a later position of the stretch: the pointer is j further on, and the opening was put back so

module _ (t : List ℕ) (long : length t ≡ tables_length) (i : ℕ) (li : i < entries) where
  records-stay : (n : Opening) → ShapedOpening n → (house_of (put_opening t i n)).records ≡ (house_of t).records
  unfolding house_of
  records-stay n shape = tab-cong places (λ q. decoded_record (record_at t q)) (λ q. decoded_record (record_at (put_opening t i n) q)) (λ q lq. ap decoded_record (record-kept t long i n li shape q lq))

  module _ (w : Known t (opening_at t i)) (p : ℕ) (g : Segment) (a : Own t (opening_at t i) p g)
      (k : ℕ) (f : let o = opening_at t i in Ahead o.species (value_of o p) (limit_of o p) k) (j : ℕ) (lt : j < k) where
    o : Opening
    o = opening_at t i

    v : ℕ
    v = value_of (opening_at t i) p

    o' : Opening
    o' = pointed (opening_at t i) p (position (value_of (opening_at t i) p + j))

    at : value_of o' p ≡ v + j
    unfolding o' v
    at = by_value t long i li p a.known j

    begins : value_of o' 0 ≡ value_of o 0
    unfolding o' o
    begins = by-beside t long i li p j 0 (λ q. a.inner (sym q))

    ends : p ≢ 1 → value_of o' 1 ≡ value_of o 1
    unfolding o' o
    ends d = by-beside t long i li p j 1 (λ q. d (sym q))

    limit-same : limit_of o' p ≡ limit_of o p
    unfolding o' o
    limit-same = ⊎_elim (λ (e : p ≡ 1). limit-end o' p e ∙ sym (limit-end o p e)) (λ d. limit-other o' p d ∙ ends d ∙ sym (limit-other o p d)) (eq-or-ne p 1)

    slot_same : (m : ℕ) → m < k → slot_of o.species (value_of o 0) (v + m) ≡ slot_of o.species (value_of o 0) v
    unfolding slot_of o v
    slot_same m l = ap (λ (n : ℕ). n - stretch_of o.species (value_of o 0)) (f.same m l)

    slot-there : slot_of o.species (value_of o' 0) (value_of o' p) ≡ slot_of o.species (value_of o 0) v
    slot-there = (λ q. slot_of o.species (begins q) (at q)) ∙ slot_same j lt

    -- the file that ends m positions behind v, where v is its end
    held_on : p ≡ 1 → (m : ℕ) → m < k → slot_of o.species (value_of o 0) v < held_of o.species (value_of o 0) (v + m)
    unfolding o v
    held_on e zero l =
        let z : v + 0 ≡ value_of o 1 = ap (λ (q : ℕ). value_of o q + 0) e ∙ add-zero (value_of o 1) in
        omega (arith, a.held, ap (held_of o.species (value_of o 0)) z)
    held_on e (suc m) l =
        let z : v + suc m ≡ v + m + 1 = omega arith in
        omega (arith, ap (held_of o.species (value_of o 0)) z, held-behind o.species w.file.species (value_of o 0) w.file.first (v + m) (let b = a.low in omega arith), slot_same m (omega (arith, l)))

    held-there : slot_of o.species (value_of o 0) v < held_of o.species (value_of o' 0) (value_of o' 1)
    unfolding o v
    held-there = ⊎_elim
        (λ (e : p ≡ 1).
        let h : held_of o.species (value_of o' 0) (value_of o' 1) ≡ held_of o.species (value_of o 0) (v + j) = λ q. held_of o.species (begins q) ((ap (value_of o') (sym e) ∙ at) q) in
        omega (arith, h, held_on e j lt))
        (λ d.
        let h : held_of o.species (value_of o' 0) (value_of o' 1) ≡ held_of o.species (value_of o 0) (value_of o 1) = λ q. held_of o.species (begins q) (ends d q) in
        omega (arith, h, a.held)) (eq-or-ne p 1)

    alone-there : shares_number (put_opening t i o') o' g.0 ≡ shares_number t o g.0
    unfolding shares_number o' o
    alone-there = ap (λ rs. is_in g.0 (place_segments rs (handle_in o).place)) (records-stay o' (pointed-shaped o p _ (opening-shaped-at t long i li)))

    pub own_on : let n = pointed (opening_at t i) p (position (value_of (opening_at t i) p + j)) in Own (put_opening t i n) n p g
    unfolding o' o v
    own_on =
        record {
          known = a.known;
          kind = a.kind;
          inner = a.inner;
          works = a.works;
          low = let l = a.low in omega (arith, begins, at);
          below = let l = f.before in omega (arith, at, limit-same);
          held = omega (arith, slot-there, held-there);
          there = ap (λ (n : ℕ). get_or o.segments n (segment 0)) slot-there ∙ a.there;
          alone = alone-there ∙ a.alone;
        }
