-- What the cells of sound tables say is sound. Assumes nothing.
use Rattle.std.specs.Prelude.{ℕ, ◌-◌, ◌<◌, ◌≡◌, refl, true, List, map, length, get_or}
use Rattle.std.proofs.Common.{◌∙◌, subst}
use Rattle.std.proofs.Math.Logic.{⊎_elim}
use Rattle.std.proofs.Math.Option.{none, some}
use borrow.Author.Tests.{leb-true}
use Rattle.combine.specs.Laws.Below.{split-bool}
use Rattle.combine.specs.Laws.Rows.{each_of}
use Rattle.combine.specs.Laws.Lists.{length-tab}
use Rattle.placing.specs.Sizes.{places, entries, user_of, most_segments, tables_length, lists}
use Rattle.rules.specs.Headings.{handle_of, holds}
use Rattle.segments.specs.Free.{SegmentOpening}
use Rattle.segments.specs.Laws.Sound.{SoundPlace, SoundOpen, SoundEntry, Alone, SoundHouse}
use Rattle.tables.specs.Layout.{segments_in, record_at, opening_at}
use Rattle.tables.specs.Fields.{is_open}
use Rattle.tables.specs.Laws.Lists.{Distinct, distinct_of}
use Rattle.tables.specs.Sound.{numberb, soundb}
use Rattle.tables.specs.Laws.Sound.{ranged-of}
use Rattle.tables.specs.Laws.Put.{record-shaped-at, opening-shaped-at}
use Rattle.cells.specs.Says.{opening_in, decoded_record, decoded_opening, house_of}
use Rattle.proof_cells_agree.specs.Wording.{Apart}
use Rattle.proof_cells_agree.specs.There.{says-open, each-record, each-opening, opening-at, opening-there}
use Rattle.proof_cells_agree.specs.Records.{record-ok, place-sound}
use Rattle.proof_cells_agree.specs.Names.{own-names, public-names}
use Rattle.proof_cells_agree.specs.Openings.{open-file, open-sound}
use Rattle.proof_cells_agree.specs.Entries.{opening-ok, open-tests, entries-alone}
use Rattle.proof_cells_agree.specs.Shown.{EachRecord, EachOpening}
use Rattle.proof_cells_agree.specs.Apart.{records-apart, mixed-apart, openings-apart}
use Rattle.proof_cells_agree.specs.Counted.{counted}

module _ (cells : ℕ) (t : List ℕ) (ok : soundb cells t ≡ true) where
  long : length t ≡ tables_length
  long = (ranged-of cells t ok).0

  distinct : Distinct t lists
  unfolding soundb
  distinct = distinct_of t lists (each_of _ ok).1.1.1.0

  records-sound : (p : ℕ) → SoundPlace (segments_in t) (get_or (house_of t).records p none)
  records-sound p = each-record t (SoundPlace (segments_in t)) p
      (λ l. place-sound (segments_in t) (record_at t p) (record-shaped-at t long p l) (record-ok t (segments_in t) (ranged-of cells t ok).1 p l)) tt

  each-held : EachRecord (house_of t)
  each-held p r e = let f : SoundPlace (segments_in t) (some r) = rw e at (records-sound p) in f.file.each

  opening-held : EachOpening (house_of t)
  opening-held i x e =
      let o = opening-there t i x e in
      let f = open-file t i (opening_at t i) (opening-shaped-at t long i o.below) (open-tests t i (opening-ok t (ranged-of cells t ok).2 i o.below) o.opened) in
      subst (λ (y : SegmentOpening). length y.content ≡ holds y.handle) o.same f.each

  open-entry : (i : ℕ) → i < entries → is_open (opening_at t i) ≡ true → SoundOpen (segments_in t) (user_of i) (house_of t).records (opening_in (opening_at t i))
  open-entry i l u =
      let o = opening_at t i in
      let there = opening-at t i l ∙ says-open o u in
      open-sound t i o (opening-shaped-at t long i l) (open-tests t i (opening-ok t (ranged-of cells t ok).2 i l) u) long
      (λ r e j k jl kl q. (mixed-apart t distinct each-held opening-held (get_or r.content k 0) (o.place - 1) i k j r (opening_in o) e there (kl, refl) (jl, q)).1)

  openings-sound : (i : ℕ) → SoundEntry (segments_in t) (user_of i) (house_of t).records (get_or (house_of t).openings i none)
  unfolding decoded_opening
  openings-sound i = each-opening t (SoundEntry (segments_in t) (user_of i) (house_of t).records) i
      (λ l. ⊎_elim (λ u. rw u (open-entry i l u)) (λ u. rw u tt) (split-bool (is_open (opening_at t i)))) tt

  alone : Alone (map handle_of (house_of t).openings)
  alone = entries-alone t long (ranged-of cells t ok).2

  apart : Apart (house_of t)
  apart = record {
    records = records-apart t distinct each-held;
    mixed = mixed-apart t distinct each-held opening-held;
    openings = openings-apart t distinct each-held opening-held (segments_in t) openings-sound alone;
  }

  pub sound-says : SoundHouse (house_of t)
  unfolding soundb numberb house_of
  sound-says =
      let n = each_of _ (each_of _ ok).1.1.1.1.0 in
      let tests = (ranged-of cells t ok).1 in
      record {
        least = leb-true 1 (segments_in t) n.0;
        most = leb-true (segments_in t) most_segments n.1.0;
        places = length-tab places (λ p. decoded_record (record_at t p));
        entries = length-tab entries (λ i. decoded_opening (opening_at t i));
        once = counted (house_of t) apart;
        records = records-sound;
        openings = openings-sound;
        alone = alone;
        own = own-names t (segments_in t) tests;
        public = public-names t (segments_in t) tests;
      }
