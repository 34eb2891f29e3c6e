-- What sound cells tell a landlord: his neighbours' private business aside. Assumes nothing.
use Rattle.std.specs.Prelude.{ℕ, ◌≡◌, refl, Bool, true, false, not, List, map, T, eqb, length, get_or}
use Rattle.std.proofs.Common.{sym, ap, ◌∙◌, subst}
use Rattle.std.proofs.Math.Option.{Option, none, some}
use Rattle.std.proofs.Math.Dec.{eqb_refl}
use Rattle.std.proofs.lemmas.List.{length-map}
use Rattle.std.proofs.Math.ListN.{get_or-map}
use Rattle.placing.specs.Sizes.{entry_of, user_of}
use Rattle.rules.specs.Calls.{Request, opens, closes, abandons, uses, Call, starts, asks, arranges, on, runs}
use Rattle.rules.specs.Readable.{may_read}
use Rattle.rules.specs.Headings.{Heading, Open, head_of, handle_of, passes, is_some}
use Rattle.rules.specs.House.{house}
use Rattle.rules.specs.Rules.{is_own, is_public}
use Rattle.segments.specs.Free.{SegmentRecord, SegmentOpening, SegmentHouse}
use Rattle.segments.specs.Laws.Sound.{Single, SoundHouse, SoundEntry, SoundOpen, Placed, Tied as TiedSegments}
use Rattle.cells.specs.Says.{house_of}
use Rattle.cells.specs.Outcomes.{Lent}
use Rattle.model.specs.Model.{Body}
use Rattle.model.specs.View.{view_place, view_opening, view_entry, view_house, view}
use Rattle.model.specs.Laws.Sight.{head-seen, heads-seen}
use Rattle.proof_cells_agree.specs.SoundSays.{sound-says}
use Rattle.demands.specs.History.{view_on}
use Rattle.demands.specs.Demands.{Sound}
use Rattle.combine.specs.Laws.Tests.{or-second}
use Rattle.proof_neighbours.specs.Neighbours.{public_at, opens_public, NonePublic, asks_openly, openly}
use Rattle.proof_neighbours.proofs.Effects.{Tied, AllTied}
use Rattle.proof_neighbours.proofs.Busy.{Known}

module _ (s : List ℕ) where
  module _ (h : SegmentHouse) where
    abbrev rs : List (Option SegmentRecord)
    rs = h.records

    -- ---- whether an entry has a public file open

    public-seen : (m : Option ℕ) → public_at (map (view_place s) rs) m ≡ public_at rs m
    public-seen none = refl
    public-seen (some p) = ap (λ (o : Option Heading). passes (λ r. not r.private) o) (ap head_of (get_or-map (view_place s) rs p none) ∙ head-seen s (get_or rs p none))

    entry-public : (z : Option SegmentOpening) → passes (λ x. public_at (map (view_place s) rs) x.place) (handle_of (view_entry s rs z)) ≡ passes (λ x. public_at rs x.place) (handle_of z)
    entry-public none = refl
    entry-public (some z) = public-seen z.handle.place

    pub opens-seen : (i : ℕ) → opens_public (view_house s h) i ≡ opens_public h i
    opens-seen i =
        ap (λ (z : Option (Open Body)). passes (λ x. public_at (map (view_place s) rs) x.place) (handle_of z)) (get_or-map (view_entry s rs) h.openings i none)
        ∙ entry-public (get_or h.openings i none)

    -- ---- what soundness says of it

    module _ (sound : SoundHouse h) where
      readable : (b : Bool) (u : ℕ) (r : SegmentRecord) (z : SegmentOpening) → TiedSegments b u r z → T (may_read u r.head)
      readable true u r z t = or-second (not r.head.private) (eqb r.head.owner u) (subst (λ (v : ℕ). T (eqb r.head.owner v)) t.0 (eqb_refl r.head.owner))
      readable false u r z t = t.0

      worker : (b : Bool) (u : ℕ) (r : SegmentRecord) (z : SegmentOpening) → TiedSegments b u r z → T b → r.head.owner ≡ u
      worker true u r z t w = t.0
      worker false u r z t w = absurd w

      tied-view : (i p : ℕ) (z : SegmentOpening) → SoundOpen h.segments (user_of i) rs z → z.handle.place ≡ some p → Tied (view_house s h) i p (view_opening s rs z)
      tied-view i p z o e =
          let t : Placed (user_of i) rs z (some p) = subst (Placed (user_of i) rs z) e o.placed in
          record {
            filed = _;
            there = get_or-map (view_place s) rs p none ∙ ap (view_place s) t.1;
            readable = readable z.handle.permit (user_of i) t.0 z t.2;
            worker = worker z.handle.permit (user_of i) t.0 z t.2;
          }

      entry-tied : (i p : ℕ) (x : Open Body) (z : Option SegmentOpening) → SoundEntry h.segments (user_of i) rs z → view_entry s rs z ≡ some x → x.handle.place ≡ some p → Tied (view_house s h) i p x
      entry-tied i p x none o e q = absurd (subst (λ (y : Option (Open Body)). T (not (is_some y))) e tt)
      entry-tied i p x (some z) o e q =
          let same : view_opening s rs z ≡ x = cc in
          subst (λ (y : Open Body). y.handle.place ≡ some p → Tied (view_house s h) i p y) same (λ q. tied-view i p z o q) q

      tied-house : AllTied (view_house s h)
      tied-house i p x ix e = entry-tied i p x (get_or h.openings i none) (sound.openings i) (sym (get_or-map (view_entry s rs) h.openings i none) ∙ ix) e

      pub known-house : (a : ℕ) → NonePublic a (view_house s h) → Known a (view_house s h)
      known-house a quiet = record {
        own = λ n. subst (λ (l : List (Option Heading)). Single (passes (is_own a n)) l) (sym (heads-seen s rs)) (sound.own a n);
        public = λ n. subst (λ (l : List (Option Heading)). Single (passes (is_public n)) l) (sym (heads-seen s rs)) (sound.public n);
        tied = tied-house;
        quiet = quiet;
        entries = length-map h.openings (view_entry s rs) ∙ sound.entries;
      }

-- ---- of cells

pub known-view : (a : ℕ) (x : Lent) → Sound x → NonePublic a (view_on x).house → Known a (view_on x).house
unfolding view
known-view a x sound quiet = known-house x.store (house_of x.tables) (sound-says (length x.store) x.tables sound) a quiet

pub ties-view : (x : Lent) → Sound x → AllTied (view_on x).house
unfolding view
ties-view x sound = tied-house x.store (house_of x.tables) (sound-says (length x.store) x.tables sound)

pub quiet-view : (a : ℕ) (x : Lent) → NonePublic a (house_of x.tables) → NonePublic a (view_on x).house
unfolding view
quiet-view a x q i d = rw (opens-seen x.store (house_of x.tables) i) (q i d)

request-openly : (r : Request) (i : ℕ) (x : Lent) → asks_openly r i (house_of x.tables) ≡ asks_openly r i (view_on x).house
unfolding view
request-openly (opens w) i x = sym (opens-seen x.store (house_of x.tables) i)
request-openly (closes b) i x = refl
request-openly abandons i x = refl
request-openly (uses act) i x = refl

pub openly-view : (c : Call) (x : Lent) → openly c (house_of x.tables) ≡ openly c (view_on x).house
openly-view (starts c) x = refl
openly-view (asks q) x = refl
openly-view (arranges q) x = refl
openly-view (on v d r) x = request-openly r (entry_of v d) x
openly-view (runs v d r) x = refl
