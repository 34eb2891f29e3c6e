-- Cells in which each record and each opening is what is written for what it says: sound tables, and what a change leaves of them.
-- Assumes nothing.
use Rattle.std.specs.Prelude.{ℕ, ◌<◌, ◌≡◌, true, List, length, get_or}
use Rattle.std.proofs.Math.Decide.{ℕ_discrete}
use Rattle.std.proofs.Common.{sym, ap, ◌∙◌, subst}
use Rattle.std.proofs.Math.Option.{Option, none}
use Rattle.placing.specs.Sizes.{places, entries, tables_length}
use Rattle.rules.specs.House.{Filing, kept, becomes, Change}
use Rattle.segments.specs.Free.{SegmentRecord, SegmentOpening}
use Rattle.tables.specs.declared.Record.{Record}
use Rattle.tables.specs.declared.Opening.{Opening}
use Rattle.tables.specs.Layout.{segments_in, record_at, opening_at, put_opening}
use Rattle.tables.specs.Laws.Put.{length-put-record, record-put, record-other, opening-kept, length-put-opening, opening-put, opening-other, record-kept, record-shaped-at}
use Rattle.tables.specs.Sound.{soundb}
use Rattle.tables.specs.Laws.Sound.{ranged-of}
use Rattle.cells.specs.Says.{decoded_record, decoded_opening, house_of, as_record, as_opening, filed_in, written}
use Rattle.cells.specs.Laws.Determined.{record-back, opening-back}
use Rattle.cells.specs.Laws.Written.{shaped-place, said-place, shaped-entry, said-entry, FitsPlace, FitsEntry, FitsFiling}
use Rattle.proof_cells_agree.specs.There.{record-at, opening-at}
use Rattle.proof_cells_agree.specs.Records.{record-ok}
use Rattle.proof_cells_agree.specs.Entries.{opening-ok}

pub record Canonical (t : List ℕ) : Type 0 where
  pub records : (p : ℕ) → p < places → as_record (decoded_record (record_at t p)) ≡ record_at t p
  pub openings : (i : ℕ) → i < entries → as_opening (decoded_opening (opening_at t i)) ≡ opening_at t i

pub sound-canonical : (cells : ℕ) (t : List ℕ) → soundb cells t ≡ true → Canonical t
sound-canonical cells t ok =
    let r = ranged-of cells t ok in
    record {
      records = λ p l. record-back (record_at t p) (record-shaped-at t r.0 p l) (segments_in t) (record-ok t (segments_in t) r.1 p l);
      openings = λ i l. opening-back t i r.0 l (opening-ok t r.2 i l);
    }

-- what a place or an entry has determines its cells
module _ (t : List ℕ) (canonical : Canonical t) where
  pub record-determined : (p : ℕ) → p < places → (y : Option SegmentRecord) → get_or (house_of t).records p none ≡ y → record_at t p ≡ as_record y
  record-determined p l y e = sym (canonical.records p l) ∙ ap as_record (sym (record-at t p l) ∙ e)

  pub opening-determined : (i : ℕ) → i < entries → (y : Option SegmentOpening) → get_or (house_of t).openings i none ≡ y → opening_at t i ≡ as_opening y
  opening-determined i l y e = sym (canonical.openings i l) ∙ ap as_opening (sym (opening-at t i l) ∙ e)

-- ---- after a change

-- what is written, or what was there
canonical-record : (r : Record) (y : Option SegmentRecord) → FitsPlace y → r ≡ as_record y → as_record (decoded_record r) ≡ r
canonical-record r y w e = subst (λ (q : Record). as_record (decoded_record q) ≡ q) (sym e) (ap as_record (said-place y w))

canonical-opening : (o : Opening) (x : Option SegmentOpening) → FitsEntry x → o ≡ as_opening x → as_opening (decoded_opening o) ≡ o
canonical-opening o x w e = subst (λ (y : Opening). as_opening (decoded_opening y) ≡ y) (sym e) (ap as_opening (said-entry x w))

module _ (t : List ℕ) (long : length t ≡ tables_length) (c : Canonical t) where
  filing-leaves : (f : Filing (List ℕ)) → FitsFiling f → (length (filed_in t f) ≡ tables_length) × Canonical (filed_in t f)
  filing-leaves kept w = (long, c)
  filing-leaves (becomes p r) w =
      let s = shaped-place r w.1 in (
        length-put-record t long p (as_record r) w.0 s ∙ long,
        record {
          records = λ q l. go q l (ℕ_discrete q p);
          openings = λ i l. subst (λ (o : Opening). as_opening (decoded_opening o) ≡ o) (sym (opening-kept t long p (as_record r) w.0 s i l)) (c.openings i l);
        },
      )
    where
      go : (q : ℕ) → q < places → Dec (q ≡ p) → as_record (decoded_record (record_at (filed_in t (becomes p r)) q)) ≡ record_at (filed_in t (becomes p r)) q
      go q l (yes e) =
          canonical-record (record_at (filed_in t (becomes p r)) q) r w.1
          (ap (record_at (filed_in t (becomes p r))) e ∙ record-put t long p (as_record r) w.0 (shaped-place r w.1))
      go q l (no d) =
          subst (λ (y : Record). as_record (decoded_record y) ≡ y) (sym (record-other t long p (as_record r) w.0 (shaped-place r w.1) q l d)) (c.records q l)

  entry-leaves : (k : ℕ) (x : Option SegmentOpening) → k < entries → FitsEntry x
      → (length (put_opening t k (as_opening x)) ≡ tables_length) × Canonical (put_opening t k (as_opening x))
  entry-leaves k x lk w =
      let s = shaped-entry x w in (
        length-put-opening t long k (as_opening x) lk s ∙ long,
        record {
          records = λ p l. subst (λ (y : Record). as_record (decoded_record y) ≡ y) (sym (record-kept t long k (as_opening x) lk s p l)) (c.records p l);
          openings = λ i l. go i l (ℕ_discrete i k);
        },
      )
    where
      go : (i : ℕ) → i < entries → Dec (i ≡ k) → as_opening (decoded_opening (opening_at (put_opening t k (as_opening x)) i)) ≡ opening_at (put_opening t k (as_opening x)) i
      go i l (yes e) =
          canonical-opening (opening_at (put_opening t k (as_opening x)) i) x w
          (ap (opening_at (put_opening t k (as_opening x))) e ∙ opening-put t long k (as_opening x) lk (shaped-entry x w))
      go i l (no d) =
          subst (λ (o : Opening). as_opening (decoded_opening o) ≡ o) (sym (opening-other t long k (as_opening x) lk (shaped-entry x w) i l d)) (c.openings i l)

change-leaves : (t : List ℕ) → length t ≡ tables_length → Canonical t → (i : ℕ) (c : Change (List ℕ) (List ℕ)) → i < entries
    → FitsFiling c.filing → FitsEntry c.entry → (length (written t i c) ≡ tables_length) × Canonical (written t i c)
unfolding written
change-leaves t long ok i c l wf we =
    let f = filing-leaves t long ok c.filing wf in
    entry-leaves (filed_in t c.filing) f.0 f.1 i c.entry l we

module _ (cells : ℕ) (t : List ℕ) (sound : soundb cells t ≡ true) (i : ℕ) (c : Change (List ℕ) (List ℕ)) (li : i < entries)
    (wf : FitsFiling c.filing) (we : FitsEntry c.entry) where
  pub written-length : length (written t i c) ≡ tables_length
  written-length = (change-leaves t (ranged-of cells t sound).0 (sound-canonical cells t sound) i c li wf we).0

  pub written-canonical : Canonical (written t i c)
  written-canonical = (change-leaves t (ranged-of cells t sound).0 (sound-canonical cells t sound) i c li wf we).1
