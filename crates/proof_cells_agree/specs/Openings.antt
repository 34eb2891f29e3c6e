-- An opening o at entry i of the cells t that passes the tests is sound. Assumes nothing.
use Prim.Native.Nat.{ℕ, zero, suc, ◌+◌, ◌-◌, ◌≤◌, ◌<◌}
use native.Mathlib.Omega.{arith}
use Rattle.std.specs.Prelude.{◌≡◌, Bool, not, ◌||◌, List, map, T, length, get_or, take}
use Rattle.std.proofs.Math.Path.{refl, subst}
use Rattle.std.proofs.Common.{sym, ap, ◌∙◌, subst₂, ⊎_elim, ext_get_or}
use Rattle.std.proofs.Math.Bool.{true, false, cond}
use Rattle.std.proofs.Math.Option.{none, some}
use Rattle.std.proofs.Math.Dec.{eqb}
use borrow.Author.Tests.{eqb-true, eqb-false, leb-true}
use Rattle.std.proofs.Math.ListN.{length-map, get_or-eq_default}
use Rattle.combine.specs.Laws.Numbers.{le-or-lt}
use Rattle.combine.specs.Laws.Below.{all-at}
use Rattle.combine.specs.Laws.Rows.{each_of}
use Rattle.combine.specs.Laws.Same.{same_true}
use Rattle.placing.specs.Sizes.{user_of, places, most_held, greatest_end, tables_length}
use Rattle.placing.specs.Placing.{segment, held_of}
use Rattle.rules.specs.Headings.{value}
use Rattle.segments.specs.Free.{SegmentRecord}
use Rattle.segments.specs.Laws.Sound.{SoundFile, OneStretch, Tied, Placed, SoundOpen}
use Rattle.tables.specs.declared.Record.{Record}
use Rattle.tables.specs.declared.Opening.{Opening}
use Rattle.tables.specs.Layout.{segment_number, segments_in, position_number}
use Rattle.tables.specs.Fields.{is_used, is_open, value_of, number_at, record_for, held_by_record, held_by_opening}
use Rattle.tables.specs.Handles.{handle_in, place_of}
use Rattle.tables.specs.Openings.{linkb, readb, workb, beside_recordb, pointersb, openb}
use Rattle.tables.specs.Laws.Again.{ShapedRecord, ShapedOpening}
use Rattle.tables.specs.Laws.Put.{record-shaped-at}
use Rattle.cells.specs.Says.{record_in, opening_in, house_of}
use Rattle.combine.specs.Laws.Tests.{or-first, or-second, or_split, true_of}
use Rattle.proof_cells_agree.specs.There.{says-used, held-used, held-open, value-said, record-at}
use Rattle.proof_cells_agree.specs.Files.{file-sound}

-- ---- a read opening and its record

tied-read : (i : ℕ) (o : Opening) (r : Record) → ShapedOpening o → ShapedRecord r → is_open o ≡ true → is_used r ≡ true → readb i o r ≡ true
    → Tied false (user_of i) (record_in r) (opening_in o)
unfolding readb
tied-read i o r wo wr opened used ok =
    let f = each_of _ ok in
    let e = wo.segments32 in
    let species = eqb-true o.species r.species f.1.1.0 in
    let begin = eqb-true (value_of o 0) r.begin.0 f.1.1.1.0 in
    let end = eqb-true (value_of o 1) r.end.0 f.1.1.1.1.0 in
    let held : held_by_opening o ≡ held_by_record r = held-open o opened ∙ (λ k. held_of (species k) (begin k) (end k)) ∙ sym (held-used r used) in
    let segments : o.segments ≡ r.segments = ext_get_or (segment 0) o.segments r.segments (e ∙ sym wr.segments32)
    (λ k l. ap segment (eqb-true (number_at o.segments k) (number_at r.segments k) (all-at _ most_held f.1.1.1.1.1.0 k (omega (arith, l, e))))) in (
      seen f.0,
      same_true o.name r.name f.1.0,
      species,
      value-said o 0 ∙ begin,
      value-said o 1 ∙ end,
      λ k. take (held k) (map segment_number (segments k)),
    )
  where
    seen : (eqb r.private 0 || eqb r.owner (user_of i)) ≡ true → T (not (eqb r.private 1) || eqb r.owner (user_of i))
    seen p = or_split (eqb r.private 0) (eqb r.owner (user_of i)) (rw p tt)
        (λ z. or-first (not (eqb r.private 1)) (eqb r.owner (user_of i)) (rw (eqb-true r.private 0 (true_of (eqb r.private 0) z)) tt))
        (λ z. or-second (not (eqb r.private 1)) (eqb r.owner (user_of i)) z)

module _ (t : List ℕ) (i : ℕ) (o : Opening) (w : ShapedOpening o) (ok : openb t i o ≡ true) where
  -- ---- by itself

  open-ok : is_open o ≡ true
  unfolding openb
  open-ok = (each_of _ ok).0

  pub open-file : SoundFile (segments_in t) o.species (value (handle_in o) 0) (value (handle_in o) 1) (opening_in o).content
  unfolding openb
  open-file =
      let f = (each_of _ ok).1.1.1.1.1 in
      rw (held-open o open-ok)
      (subst₂ (λ (b e : ℕ). SoundFile (segments_in t) o.species b e (take (held_of o.species (value_of o 0) (value_of o 1)) (map segment_number o.segments)))
      (sym (value-said o 0)) (sym (value-said o 1))
      (file-sound (segments_in t) o.species (value_of o 0) (value_of o 1) o.segments w.segments32 f.0 f.1.1.1.0))

  own-points : (1 ≤ value (handle_in o) 2) × ((k : ℕ) → k < 6 → value (handle_in o) (2 + k) ≤ greatest_end)
  unfolding openb pointersb
  own-points =
      let f = each_of _ (each_of _ ok).1.1.1.1.1.1.0 in
      (rw (value-said o 2) (leb-true 1 (value_of o 2) f.0), λ k l. rw (value-said o (2 + k)) (leb-true (value_of o (2 + k)) greatest_end (all-at _ 6 f.1.0 k l)))

  points : (p : ℕ) → value (handle_in o) p ≤ greatest_end
  points zero = omega (arith, open-file.order, open-file.last)
  points (suc zero) = open-file.last
  points (suc (suc p)) = ⊎_elim
      (λ (l : 6 ≤ p).
      let long : length (handle_in o).pointers ≤ suc (suc p) = omega (arith, length-map o.pointers position_number, w.pointers8) in
      rw (get_or-eq_default (handle_in o).pointers 0 long) (omega arith))
      (λ (l : p < 6). let e : 2 + p ≡ suc (suc p) = omega arith in rw (← e) (own-points.1 p l)) (le-or-lt 6 p)

  -- ---- with its record

  place_in : o.place ≤ places
  unfolding openb
  place_in = leb-true o.place places (each_of _ ok).1.1.1.1.1.1.1.0

  linked : (b : Bool) → eqb o.place 0 ≡ b → cond b (eqb o.permit 1) (is_used (record_for t o)) ≡ true
  unfolding openb linkb
  linked b e = rw e at (each_of _ ok).1.1.0

  -- read, or work
  pub shared : (permit : ℕ) → o.permit ≡ permit → eqb o.place 0 ≡ false → cond (eqb permit 0) (readb i o (record_for t o)) (workb t i o (record_for t o)) ≡ true
  unfolding openb beside_recordb
  shared permit e place =
      subst (λ (v : ℕ). cond (eqb v 0) (readb i o (record_for t o)) (workb t i o (record_for t o)) ≡ true) e (rw place at (each_of _ ok).1.1.1.0)

  tied : length t ≡ tables_length → eqb o.place 0 ≡ false → is_used (record_for t o) ≡ true → OneStretch (record_in (record_for t o)) (opening_in o)
      → (permit : ℕ) → o.permit ≡ permit → permit ≤ 1 → Tied (eqb permit 1) (user_of i) (record_in (record_for t o)) (opening_in o)
  unfolding workb
  tied long place used one zero e l =
      let below : o.place - 1 < places = let h = place_in in let d = eqb-false o.place 0 place in omega arith in
      tied-read i o (record_for t o) w (record-shaped-at t long (o.place - 1) below) open-ok used (shared zero e place)
  tied long place used one (suc zero) e l =
      let f = each_of _ (shared 1 e place) in
      (eqb-true (record_for t o).owner (user_of i) f.0, eqb-true (record_for t o).species o.species f.1.0, one)
  tied long place used one (suc (suc v)) e l = absurd (let y : ⊥ = omega arith in y)

  placed : length t ≡ tables_length → ((r : SegmentRecord) → get_or (house_of t).records (o.place - 1) none ≡ some r → OneStretch r (opening_in o))
      → Placed (user_of i) (house_of t).records (opening_in o) (place_of o.place)
  unfolding openb
  placed long one = go (eqb o.place 0) refl
    where
      go : (b : Bool) → eqb o.place 0 ≡ b → Placed (user_of i) (house_of t).records (opening_in o) (cond b none (some (o.place - 1)))
      go true e = rw (linked true e) tt
      go false e =
          let used = linked false e in
          let l : o.place - 1 < places = let h = place_in in let d = eqb-false o.place 0 e in omega arith in
          let there = record-at t (o.place - 1) l ∙ says-used (record_for t o) used in
          (record_in (record_for t o), there, tied long e used (one (record_in (record_for t o)) there) o.permit refl (leb-true o.permit 1 (each_of _ ok).1.0))

  pub open-sound : length t ≡ tables_length → ((r : SegmentRecord) → get_or (house_of t).records (o.place - 1) none ≡ some r → OneStretch r (opening_in o))
      → SoundOpen (segments_in t) (user_of i) (house_of t).records (opening_in o)
  unfolding openb
  open-sound long one = record {
    file = open-file;
    eight = length-map o.pointers position_number ∙ w.pointers8;
    works = own-points.0;
    points = points;
    twelve = w.name12;
    title = (each_of _ ok).1.1.1.1.0;
    placed = placed long one;
  }
