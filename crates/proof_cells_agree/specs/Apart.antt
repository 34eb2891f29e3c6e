-- Where the lists in the cells t are distinct, the records and openings that the cells say are apart. Assumes nothing.
use Rattle.std.specs.Prelude.{ℕ, ◌+◌, ◌<◌, ◌≡◌, refl, ◌≢◌, Bool, true, false, not, List, map, T, eqb, get_or}
use Rattle.std.proofs.Common.{arith, sym, ap, ◌∙◌, subst, T_not}
use Rattle.std.proofs.Math.Decide.{ℕ_discrete}
use Rattle.std.proofs.Math.Option.{Option, none, some}
use Rattle.std.proofs.Math.Dec.{eqb_refl}
use Rattle.combine.specs.Lists.{is_in}
use Rattle.placing.specs.Sizes.{places, user_of, entries, lists}
use Rattle.rules.specs.Headings.{handle_of, passes}
use Rattle.segments.specs.Free.{SegmentRecord, SegmentOpening, SegmentHouse, record_segments}
use Rattle.segments.specs.Laws.Sound.{Tied, Placed, SoundOpen, SoundEntry, Alone}
use Rattle.tables.specs.Laws.Lists.{Distinct}
use Rattle.cells.specs.Says.{house_of}
use Rattle.combine.specs.Laws.Tests.{and_intro}
use Rattle.proof_requests_sound.specs.Away.{handle-at}
use Rattle.proof_requests_sound.specs.Counts.{in-at}
use Rattle.proof_cells_agree.specs.Wording.{Lists, opening_stretch, RecordsApart, MixedApart, OpeningsApart}
use Rattle.proof_cells_agree.specs.There.{record-there, opening-there}
use Rattle.proof_cells_agree.specs.Shown.{EachRecord, EachOpening, family_for, record-shown, opening-shown, shown-apart}

-- one thing stands at one place
pub only_one : {A : Type 0} (l : List (Option A)) (i j : ℕ) (x y : A) → i ≡ j → get_or l i none ≡ some x → get_or l j none ≡ some y → x ≡ y
only_one l i j x y e p q = let z : some x ≡ some y = sym p ∙ ap (λ (k : ℕ). get_or l k none) e ∙ q in cc

module _ (t : List ℕ) (distinct : Distinct t lists) (each_record : EachRecord (house_of t)) where
  abbrev h : SegmentHouse
  h = house_of t

  pub records-apart : RecordsApart h
  records-apart g p q j k r r' er er' lj lk =
      let w = shown-apart t (record-shown t each_record p r er) (record-shown t each_record q r' er') lists distinct
      (omega (arith, (record-there t p r er).below)) (omega (arith, (record-there t q r' er').below)) g j k lj lk in
      (w.0, let e : r ≡ r' = only_one h.records p q r r' w.0 er er' in let s = rw e at w.1 in omega arith)

  module _ (each_opening : EachOpening (house_of t)) where
    pub mixed-apart : MixedApart h
    mixed-apart g p i j k r x er ex lj lk =
        let lp = (record-there t p r er).below in
        let w = shown-apart t (record-shown t each_record p r er) (opening-shown t each_opening i x ex) lists distinct
        (omega arith) (omega (arith, (opening-there t i x ex).below)) g j k lj lk in
        (go x.handle.place lp w.0, sym w.1)
      where
        go : (q : Option ℕ) → p < places → p ≡ family_for i q → q ≡ some p
        go none l e = absurd (let y : ⊥ = omega arith in y)
        go (some q) l e = ap {B = Option ℕ} some (sym e)

    module _ (n : ℕ) (entries : (i : ℕ) → SoundEntry n (user_of i) h.records (get_or h.openings i none)) (alone : Alone (map handle_of h.openings)) where
      placed_at : (i : ℕ) (x : SegmentOpening) → get_or h.openings i none ≡ some x → (q : Option ℕ) → x.handle.place ≡ q → Placed (user_of i) h.records x q
      placed_at i x ex q e =
          let s : SoundOpen n (user_of i) h.records x = subst (λ (y : Option SegmentOpening). SoundEntry n (user_of i) h.records y) ex (entries i) in
          subst (λ (q : Option ℕ). Placed (user_of i) h.records x q) e s.placed

      -- what two entries list, a record lists
      two-entries : (g i l j : ℕ) (x y : SegmentOpening) → get_or h.openings i none ≡ some x → get_or h.openings l none ≡ some y → Lists x.content j g
          → (a b : Option ℕ) → x.handle.place ≡ a → y.handle.place ≡ b → family_for i a ≡ family_for l b
          → ((p : ℕ) → T (not (is_in g (record_segments (get_or h.records p none))))) → i ≢ l → ⊥
      two-entries g i l j x y ex ey lj none none ea eb f n d = d (omega arith)
      two-entries g i l j x y ex ey lj none (some q) ea eb f n d =
          let w = placed_at l y ey (some q) eb in omega (arith, (record-there t q w.0 w.1).below)
      two-entries g i l j x y ex ey lj (some p) none ea eb f n d =
          let w = placed_at i x ex (some p) ea in omega (arith, (record-there t p w.0 w.1).below)
      two-entries g i l j x y ex ey lj (some p) (some q) ea eb f n d =
          let w = placed_at i x ex (some p) ea in go x.handle.permit refl w.0 w.1 w.2
        where
          opens : T (passes (eqb p) y.handle.place)
          opens = rw (eb, ← f) (eqb_refl p)

          go : (b : Bool) → x.handle.permit ≡ b → (r : SegmentRecord) → get_or h.records p none ≡ some r → Tied b (user_of i) r x → ⊥
          go true w r er k =
              alone p i l d (rw (handle-at h.openings i, ex) (and_intro x.handle.permit (passes (eqb p) x.handle.place) (rw w tt) (rw ea (eqb_refl p))))
              (rw (handle-at h.openings l, ey) opens)
          go false w r er k =
              T_not (is_in g r.content) (rw er at (n p)) (rw (← k.5) (in-at g x.content j lj.0 lj.1))

      pub openings-apart : OpeningsApart h
      openings-apart g i l j k x y ex ey lj lk n = go (ℕ_discrete i l)
        where
          w : (family_for i x.handle.place ≡ family_for l y.handle.place) × (opening_stretch x + j ≡ opening_stretch y + k)
          w = shown-apart t (opening-shown t each_opening i x ex) (opening-shown t each_opening l y ey) lists distinct
              (omega (arith, (opening-there t i x ex).below)) (omega (arith, (opening-there t l y ey).below)) g j k lj lk

          go : Dec (i ≡ l) → (i ≡ l) × (j ≡ k)
          go (yes e) = (e, let s : x ≡ y = only_one h.openings i l x y e ex ey in let v = rw s at w.1 in omega arith)
          go (no d) = absurd (two-entries g i l j x y ex ey lj x.handle.place y.handle.place refl refl w.0 n d)
