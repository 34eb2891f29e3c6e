-- A house stays sound when an entry changes: an opening ends, a new file or an old file is opened. Assumes nothing.
use Rattle.std.specs.Prelude.{ℕ, zero, suc, ◌≤◌, ◌<◌, ◌≡◌, Bool, not, ◌||◌, List, [], ◌∷◌, map, length, get_or, set, replicate}
use Rattle.std.proofs.Common.{arith, ◌∙◌, lit≤, length-set}
use Rattle.std.proofs.Math.Decide.{ℕ_discrete}
use Rattle.std.proofs.Math.Path.{refl, sym, ap, subst}
use Rattle.std.proofs.Math.Bool.{true, false}
use Rattle.std.proofs.Math.Option.{Option, none, some}
use Rattle.std.proofs.Math.Dec.{T, eqb}
use Rattle.placing.specs.Sizes.{entries, user_of, greatest_end, greatest_species}
use Rattle.rules.specs.Headings.{Heading, Handle, opening, head_of, handle_of}
use Rattle.rules.specs.Effects.{Effect}
use Rattle.rules.specs.Rules.{work_start, opened_as, busy, new_handle}
use Rattle.rules.specs.Laws.Opened.{start_has}
use Rattle.rules.specs.House.{house, changed, others_of}
use Rattle.rules.specs.Levels.{perform}
use Rattle.segments.specs.Free.{SegmentRecord, SegmentOpening, SegmentHouse, record_segments, has_room}
use Rattle.segments.specs.Deeds.{segment_level}
use Rattle.segments.specs.Laws.Sound.{times, times_in_record, mentions, SoundFiled, SoundPlace, SoundOpen, SoundEntry, Tied, Alone, SoundHouse}
use Rattle.combine.specs.Laws.Sums.{total-at}
use Rattle.combine.specs.Laws.Replaced.{at_set, replicate-at, map-set}
use Rattle.proof_requests_sound.specs.Names.{title-of-scratch, twelve-of-scratch, title-of-name}
use Rattle.proof_requests_sound.specs.Allowed.{Old, Opens, a-new, an-old}
use Rattle.proof_requests_sound.specs.Counts.{times-two, but-own, but-none}
use Rattle.placing.specs.Laws.Held.{held_none}
use Rattle.proof_requests_sound.specs.Away.{Behind, behind}
use Rattle.proof_requests_sound.specs.Alone.{alone-end, alone-work, alone-read, alone-none}
use Rattle.proof_requests_sound.specs.Listed.{once-entry}

-- the pointers of a file as it is opened: no own ones
first-pointers : (b e v : ℕ) → b ≤ greatest_end → e ≤ greatest_end → v ≤ greatest_end → (q : ℕ) → get_or (b ∷ e ∷ v ∷ replicate 5 0) q 0 ≤ greatest_end
first-pointers b e v hb he hv zero = hb
first-pointers b e v hb he hv (suc zero) = he
first-pointers b e v hb he hv (suc (suc zero)) = hv
first-pointers b e v hb he hv (suc (suc (suc q))) = omega (arith, replicate-at {A = ℕ} 5 q 0)

pub sound-at : (h : SegmentHouse) → SoundHouse h → (i : ℕ) (x : SegmentOpening) → get_or h.openings i none ≡ some x → SoundOpen h.segments (user_of i) h.records x
sound-at h s i x ix = subst (λ (y : Option SegmentOpening). SoundEntry h.segments (user_of i) h.records y) ix (s.openings i)

module _ (h : SegmentHouse) (s : SoundHouse h) (i : ℕ) (il : i < entries) where
  pub entry_in : i < length h.openings
  entry_in = omega (arith, s.entries)

  -- ---- an entry changes

  pub entry-sound : (y : Option SegmentOpening) → SoundEntry h.segments (user_of i) h.records y
      → ((g : ℕ) → mentions (house h.segments h.records (set h.openings i y)) g ≤ 1)
      → Alone (set (map handle_of h.openings) i (handle_of y)) → SoundHouse (house h.segments h.records (set h.openings i y))
  entry-sound y f once alone = record {
    least = s.least;
    most = s.most;
    places = s.places;
    entries = length-set h.openings i y ∙ s.entries;
    once = once;
    records = s.records;
    openings = at_set (λ j x. SoundEntry h.segments (user_of j) h.records x) h.openings i y none entry_in f (λ j d. s.openings j);
    alone = rw (map-set handle_of h.openings i y) alone;
    own = s.own;
    public = s.public;
  }

  pub ended-sound : SoundHouse (house h.segments h.records (set h.openings i none))
  ended-sound = entry-sound none tt (once-entry h s.once i entry_in none (λ g. omega arith)) (alone-end (map handle_of h.openings) i s.alone)

  new-sound : (k : ℕ) → k ≤ greatest_species → SoundHouse (house h.segments h.records (set h.openings i (some (opening (new_handle k) []))))
  new-sound k l = entry-sound (some (opening (new_handle k) [])) fine (once-entry h s.once i entry_in _ (λ g. omega (arith, but-none g [] [] tt)))
      (alone-none (map handle_of h.openings) i s.alone (new_handle k) refl)
    where
      fine : SoundOpen h.segments (user_of i) h.records (opening (new_handle k) [])
      fine = record {
        file = record {
          species = l;
          first = lit≤ tt;
          order = lit≤ tt;
          last = lit≤ tt;
          few = omega (arith, held_none k 1 1 (lit≤ tt));
          each = sym (held_none k 1 1 (lit≤ tt));
          range = λ j w. absurd (omega arith);
        };
        eight = refl;
        works = lit≤ tt;
        points = first-pointers 1 1 1 (lit≤ tt) (lit≤ tt) (lit≤ tt);
        twelve = twelve-of-scratch;
        title = title-of-scratch;
        placed = tt;
      }

  -- ---- an old file is opened

  module _ (u : ℕ) (user : user_of i ≡ u) (p : ℕ) (n : Handle) (o : Old u (map head_of h.records) (others_of (has_room h) h.openings) p n) where
    found : Behind h.records p o.heading
    found = behind h.records p o.heading o.there

    abbrev r : SegmentRecord
    r = found.filed

    sound-record : SoundFiled h.segments r
    sound-record = subst (λ (y : Option SegmentRecord). SoundPlace h.segments y) found.there (s.records p)

    -- the record's segments are distinct
    distinct : (j k : ℕ) → j < length r.content → k < length r.content → get_or r.content j 0 ≡ get_or r.content k 0 → j ≡ k
    distinct j k jl kl e = go (ℕ_discrete j k)
      where
        g : ℕ
        g = get_or r.content k 0

        here : times_in_record g (get_or h.records p none) ≡ times g r.content
        here = ap (times_in_record g) found.there

        go : Dec (j ≡ k) → j ≡ k
        go (yes q) = q
        go (no q) = absurd (omega (arith, times-two g r.content j k jl kl q e refl, here, s.once g, total-at (times_in_record g) h.records p none refl))

    abbrev opened : Bool → SegmentOpening
    opened w = opening (opened_as w p r.head) r.content

    tied : (w : Bool) → (T w → r.head.owner ≡ u) → Tied w (user_of i) r (opened w)
    unfolding opened_as
    tied true m = (m tt ∙ sym user, refl, λ j k jl kl e. rw (distinct j k jl kl e) refl)
    tied false m = (seen, refl, refl, refl, refl, refl)
      where
        seen : T (not r.head.private || eqb r.head.owner (user_of i))
        seen = rw user (subst (λ (q : Heading). T (not q.private || eqb q.owner u)) (sym found.head) o.seen)

    sound-opened : (w : Bool) → (T w → r.head.owner ≡ u) → SoundOpen h.segments (user_of i) h.records (opened w)
    unfolding opened_as
    sound-opened w m =
        let file = sound-record.file in
        let b = r.head.begin in
        let e = r.head.end in
        let begin-last : b ≤ greatest_end = omega (arith, file.order, file.last) in
        record {
          file = file;
          eight = refl;
          works = start_has (λ (v : ℕ). 1 ≤ v) w b e file.first (omega (arith, file.first, file.order));
          points = first-pointers b e (work_start w b e) begin-last file.last (start_has (λ (v : ℕ). v ≤ greatest_end) w b e begin-last file.last);
          twelve = sound-record.twelve;
          title = title-of-name r.head.name sound-record.name;
          placed = (r, found.there, tied w m);
        }

    alone-opened : (w : Bool) → T (not (busy w p (others_of (has_room h) h.openings))) → Alone (set (map handle_of h.openings) i (some (opened_as w p r.head)))
    unfolding opened_as
    alone-opened true f = alone-work (map handle_of h.openings) i s.alone (opened_as true p r.head) p refl f
    alone-opened false f = alone-read (map handle_of h.openings) i s.alone (opened_as false p r.head) p refl tt f

    old-sound : SoundHouse (house h.segments h.records (set h.openings i (some (opening n (record_segments (get_or h.records p none))))))
    unfolding opened_as
    old-sound = subst (λ (x : SegmentOpening). SoundHouse (house h.segments h.records (set h.openings i (some x)))) same-opening
        (entry-sound (some (opened o.work)) (sound-opened o.work (λ w. ap (λ (q : Heading). q.owner) found.head ∙ o.mine w))
        (once-entry h s.once i entry_in _ (λ g. rw (ap record_segments found.there) (omega (arith, but-own g r.content))))
        (alone-opened o.work o.free))
      where
        same-opening : opened o.work ≡ opening n (record_segments (get_or h.records p none))
        same-opening = λ k. opening ((ap (opened_as o.work p) found.head ∙ sym o.handle) k) (ap record_segments (sym found.there) k)

  pub opens-sound : (u : ℕ) → user_of i ≡ u → (cells : List ℕ) (x : SegmentOpening) (f : Effect)
      → Opens u (map head_of h.records) (others_of (has_room h) h.openings) f
      → SoundHouse (changed h i (perform (segment_level cells) h x f))
  opens-sound u user cells x f (a-new k l) = new-sound k l
  opens-sound u user cells x f (an-old p n o) = old-sound u user p n o
