-- The record behind a heading; and a record that no other entry opens, whose change no other opening sees. Assumes nothing.
use Rattle.std.specs.Prelude.{ℕ, ◌≡◌, refl, ◌≢◌, Bool, not, ◌&&◌, List, map, eqb, get_or, set}
use Rattle.std.proofs.Common.{arith, sym, ap, ◌∙◌, subst, eqb→eq, T_not, get_or-set_other}
use Rattle.std.proofs.Math.Option.{Option, none, some}
use Rattle.std.proofs.Math.Dec.{T, eqb_refl, not_T}
use Rattle.std.proofs.Math.ListN.{get_or-map}
use Rattle.placing.specs.Sizes.{user_of}
use Rattle.rules.specs.Headings.{Heading, head_of, handle_of, passes, is_some}
use Rattle.rules.specs.House.{opens_place}
use Rattle.segments.specs.Free.{SegmentRecord, SegmentOpening, SegmentHouse, record_segments, place_segments}
use Rattle.segments.specs.Laws.Sound.{Placed, SoundEntry, SoundHouse}
use Rattle.combine.specs.Laws.Tests.{and_intro}
use Rattle.proof_requests_sound.specs.Allowed.{PlaceOf, Filing}

pub record Behind (rs : List (Option SegmentRecord)) (p : ℕ) (h : Heading) : Type 0 where
  pub filed : SegmentRecord
  pub there : get_or rs p none ≡ some filed
  pub head : filed.head ≡ h

pub behind : (rs : List (Option SegmentRecord)) (p : ℕ) (h : Heading) → get_or (map head_of rs) p none ≡ some h → Behind rs p h
behind rs p h e = go (get_or rs p none) refl
  where
    e' : head_of (get_or rs p none) ≡ some h
    e' = sym (get_or-map head_of rs p none) ∙ e

    go : (x : Option SegmentRecord) → get_or rs p none ≡ x → Behind rs p h
    go none q = let z : none ≡ some h = ap head_of (sym q) ∙ e' in let y : ◌≡◌ {A = ℕ} 0 1 = cc in absurd (omega arith)
    go (some r) q = let z : some r.head ≡ some h = ap head_of (sym q) ∙ e' in record { filed = r; there = q; head = cc }

pub handle-at : (xs : List (Option SegmentOpening)) (j : ℕ) → get_or (map handle_of xs) j none ≡ handle_of (get_or xs j none)
handle-at xs j = get_or-map handle_of xs j none

-- ---- openings of other records don't see the record at p change

module _ (rs : List (Option SegmentRecord)) (p : ℕ) (y : Option SegmentRecord) where
  elsewhere : (q : ℕ) → T (not (eqb p q)) → get_or (set rs p y) q none ≡ get_or rs q none
  elsewhere q t = get_or-set_other rs p q y none (λ e. T_not (eqb p q) t (rw e (eqb_refl p)))

  pub segments-away : (q : Option ℕ) → T (not (passes (eqb p) q)) → place_segments (set rs p y) q ≡ place_segments rs q
  segments-away none t = refl
  segments-away (some q) t = ap record_segments (elsewhere q t)

  placed-away : (u : ℕ) (x : SegmentOpening) (q : Option ℕ) → T (not (passes (eqb p) q)) → Placed u rs x q → Placed u (set rs p y) x q
  placed-away u x none t k = k
  placed-away u x (some q) t k = (k.0, elsewhere q t ∙ k.1, k.2)

  pub entry-away : (n u : ℕ) (x : Option SegmentOpening) → T (not (passes (opens_place p) (handle_of x))) → SoundEntry n u rs x → SoundEntry n u (set rs p y) x
  entry-away n u none t f = tt
  entry-away n u (some x) t f = record {
    file = f.file;
    eight = f.eight;
    works = f.works;
    points = f.points;
    twelve = f.twelve;
    title = f.title;
    placed = placed-away u x x.handle.place t f.placed;
  }

-- ---- place p is opened by nobody but entry i

unfoldable pub Away : SegmentHouse → ℕ → ℕ → Type 0
Away h i p = (j : ℕ) → j ≢ i → T (not (passes (opens_place p) (handle_of (get_or h.openings j none))))

module _ (h : SegmentHouse) (s : SoundHouse h) (i p : ℕ) where
  -- entry i works on it
  pub away-works : (x : SegmentOpening) → get_or h.openings i none ≡ some x → x.handle.place ≡ some p → T x.handle.permit → Away h i p
  unfolding Away
  away-works x ix e w j d = not_T (passes (opens_place p) (handle_of (get_or h.openings j none))) (λ o.
      s.alone p i j (λ q. d (sym q)) (rw (handle-at h.openings i, ix) (works x.handle.permit w)) (rw (handle-at h.openings j) o))
    where
      works : (b : Bool) → T b → T (b && passes (eqb p) x.handle.place)
      works b w = and_intro b (passes (eqb p) x.handle.place) w (rw e (eqb_refl p))

  -- it has no record
  away-unused : T (not (is_some (get_or (map head_of h.records) p none))) → Away h i p
  unfolding Away
  away-unused f j d = not_T (passes (opens_place p) (handle_of (get_or h.openings j none))) (λ o. go (get_or h.openings j none) (s.openings j) o)
    where
      f' : T (not (is_some (head_of (get_or h.records p none))))
      f' = rw (get_or-map head_of h.records p none) at f

      at_place : (x : SegmentOpening) (q : Option ℕ) → Placed (user_of j) h.records x q → T (passes (eqb p) q) → ⊥
      at_place x none r o = o
      at_place x (some q) r o =
          let e : p ≡ q = eqb→eq p q o in
          let z : get_or h.records p none ≡ some r.0 = rw e r.1 in
          subst (λ (y : Option SegmentRecord). T (not (is_some (head_of y)))) z f'

      go : (x : Option SegmentOpening) → SoundEntry h.segments (user_of j) h.records x → T (passes (opens_place p) (handle_of x)) → ⊥
      go none g o = o
      go (some x) g o = at_place x x.handle.place g.placed o

  pub away-filed : (x : SegmentOpening) (u : ℕ) (r : Heading) → get_or h.openings i none ≡ some x → Filing u (map head_of h.records) x.handle p r → Away h i p
  away-filed x u r ix f = go x.handle.place refl f.place
    where
      go : (q : Option ℕ) → x.handle.place ≡ q → PlaceOf (map head_of h.records) q p → Away h i p
      go none e k = away-unused k.1
      go (some q) e k = away-works x ix (e ∙ ap {B = Option ℕ} some k) f.permit
