-- "Whatever relied on the old place ... must reset first": a file that is opened for work and reset has the very cells of document 01's opening.
-- Assumes nothing.
use Rattle.std.specs.Prelude.{ℕ, ◌≤◌, ◌<◌, ◌≡◌, false, length}
use Rattle.std.proofs.Common.{arith, sym, ◌∙◌, ⊎_elim}
use Rattle.std.proofs.Math.Path.{refl, ap, subst}
use Rattle.std.proofs.Math.Bool.{true}
use Rattle.std.proofs.Math.Option.{Option, none, some}
use mathlib.Core.List.{List}
use Rattle.std.proofs.Math.ListN.{get_or}
use Rattle.combine.specs.Laws.Below.{split-bool, not-both}
use Rattle.combine.specs.Laws.Numbers.{le-or-lt}
use Rattle.combine.specs.Laws.Replaced.{place-below}
use Rattle.combine.specs.Verdict.{Verdict, refused, done, is_done, on_done}
use Rattle.combine.specs.Outcome.{Outcome, outcome_of, settle}
use Rattle.names.specs.Names.{name_of}
use Rattle.placing.specs.Sizes.{greatest_user, greatest_entry, entry_of, places, tables_length}
use Rattle.rules.specs.Calls.{work, reset, opens, uses}
use Rattle.rules.specs.Headings.{Heading, moved, value}
use Rattle.rules.specs.Effects.{Effect, opens_old, Others}
use Rattle.rules.specs.Rules.{look_up, opened_as, open_record, open_old}
use Rattle.rules.specs.House.{others_of}
use Rattle.rules.specs.Levels.{or_blank}
use Rattle.segments.specs.Free.{SegmentOpening, has_room}
use Rattle.segments.specs.Deeds.{segment_level}
use Rattle.tables.specs.declared.Opening.{Opening}
use Rattle.tables.specs.Layout.{record_at, opening_at, put_opening}
use Rattle.tables.specs.Fields.{is_used, is_open}
use Rattle.tables.specs.Handles.{handle_in, heading_of, handled, pointed}
use Rattle.tables.specs.Laws.Again.{ShapedOpening}
use Rattle.tables.specs.Laws.Put.{opening-put, opening-over, record-shaped-at}
use Rattle.tables.specs.Laws.Sound.{ranged-of}
use Rattle.cells.specs.Says.{house_of}
use Rattle.cells.specs.Outcomes.{Lent, lent, sound_lent, performed, request_out}
use Rattle.cells.specs.Laws.Catalogue.{old_opening, old-performed}
use Rattle.cells.specs.Laws.Entered.{unsound-out, user-out, entry-out, request-open, request-closed}
use Rattle.cells.specs.Laws.Uses.{use-out}
use Rattle.catalogue_laws.specs.Places.{headings, headings-long, heading-at, looked-up-used}
use Rattle.catalogue_laws.specs.Determined.{record-determined}
use Rattle.proof_requests_sound.specs.Verdicts.{Has, has}
use Rattle.proof_requests_agree.specs.Requests.{request-sound}

module _ (s t : List ℕ) (u e : ℕ) (bytes : List ℕ) where
  -- where look-up finds the file
  abbrev pub found : ℕ
  found = look_up u (name_of bytes) (headings t)

  -- its opening in document 01: "On opening, the work pointer stands at the begin value."
  abbrev pub opening_before : Opening
  opening_before = pointed (old_opening true found (record_at t found)) 2 (record_at t found).begin

  abbrev opening-call : Outcome Lent
  opening-call = request_out (opens (work bytes)) s t u e

  abbrev AsBefore : Type 0
  AsBefore = request_out (uses reset) opening-call.after.store opening-call.after.tables u e ≡ outcome_of (done 0) (lent s (put_opening t (entry_of u e) opening_before))

  module _ (opened : opening-call.answer ≡ done 0) where
    -- ---- it passed the gate, at an entry that was closed

    not-refused : (n : ℕ) → opening-call ≡ outcome_of (refused n) (lent s t) → AsBefore
    not-refused n q = absurd (not-both (ap is_done opened) (ap (λ (o : Outcome Lent). is_done o.answer) q))

    module _ (sound : sound_lent s t ≡ true) (lu : u ≤ greatest_user) (le : e ≤ greatest_entry) where
      was-open : is_open (opening_at t (entry_of u e)) ≡ true → AsBefore
      unfolding settle
      was-open there = not-refused 3 (request-open s t u e sound lu le (opens (work bytes)) there)

      module _ (closed : is_open (opening_at t (entry_of u e)) ≡ false) where
        others : Others
        others = others_of (has_room (house_of t)) (house_of t).openings

        verdict : Verdict Effect
        verdict = open_old true u (name_of bytes) (headings t) others

        blank : SegmentOpening
        blank = or_blank (segment_level s) none

        asked : opening-call ≡ settle (lent s t) (on_done (performed s t (entry_of u e) blank) verdict)
        unfolding headings verdict others blank
        asked = request-closed s t u e sound lu le (opens (work bytes)) closed

        -- ---- it opened the record that look-up finds

        Opens : Effect → Type 0
        Opens f = (found < places) × (f ≡ opens_old found (opened_as true found (heading_of (record_at t found))))

        used : found < places → is_used (record_at t found) ≡ true
        used l = looked-up-used t u (name_of bytes) l

        opens-record : (r : Option Heading) → get_or (headings t) found none ≡ r → Has Opens (open_record true u found r others)
        unfolding Opens
        opens-record none q = tt
        opens-record (some r) q =
            let l : found < places = omega (arith, place-below (headings t) found r q, headings-long t) in
            let there : get_or (headings t) found none ≡ some (heading_of (record_at t found)) = heading-at t found l (used l) in
            let same : r ≡ heading_of (record_at t found) = cc in
            has _ _ _ _ (λ h13. has _ _ _ _ (λ h14. (l, ap (λ (h : Heading). opens_old found (opened_as true found h)) same)))

        opens-old : Has Opens verdict
        unfolding open_old verdict
        opens-old = has _ _ _ _ (λ h15. opens-record (get_or (headings t) found none) refl)

        o : Opening
        o = old_opening true found (record_at t found)

        carried-out : (v : Verdict Effect) → Has Opens v
            → let x = settle (lent s t) (on_done (performed s t (entry_of u e) blank) v) in x.answer ≡ done 0
            → (found < places) × (x ≡ outcome_of (done 0) (lent s (put_opening t (entry_of u e) o)))
        unfolding settle Opens o
        carried-out (refused n) h q = absurd (not-both refl (ap is_done (sym q)))
        carried-out (done f) h q = (
          h.0,
          ap (λ (x : Effect). let c = performed s t (entry_of u e) blank x in outcome_of (done c.0) c.1) h.1
              ∙ ap (λ c. outcome_of (done c.0) c.1) (old-performed s t (entry_of u e) true found blank h.0 (used h.0) (record-determined (length s) t found sound h.0 (used h.0))),
        )

        open-there : (found < places) × (opening-call ≡ outcome_of (done 0) (lent s (put_opening t (entry_of u e) o)))
        open-there =
            let c = carried-out verdict opens-old (sym (ap (λ (x : Outcome Lent). x.answer) asked) ∙ opened) in
            (c.0, asked ∙ c.1)

        -- ---- and the reset finds it there

        long : length t ≡ tables_length
        long = (ranged-of (length s) t sound).0

        shaped : ShapedOpening o
        unfolding old_opening o
        shaped = let w = record-shaped-at t long found open-there.0 in record { pointers8 = refl; name12 = w.name12; segments32 = w.segments32 }

        opened-tables : List ℕ
        opened-tables = put_opening t (entry_of u e) o

        there : opening_at opened-tables (entry_of u e) ≡ o
        unfolding opened-tables
        there = opening-put t long (entry_of u e) o (omega arith) shaped

        is-open : is_open (opening_at opened-tables (entry_of u e)) ≡ true
        unfolding old_opening o
        is-open = ap is_open there

        still-sound : sound_lent s opened-tables ≡ true
        unfolding opened-tables
        still-sound = subst (λ (x : Outcome Lent). sound_lent x.after.store x.after.tables ≡ true) open-there.1 (request-sound (opens (work bytes)) s t u e sound)

        at-begin : Opening → Opening
        at-begin x = handled x (moved (handle_in x) 2 (value (handle_in x) 0))

        reset-done : request_out (uses reset) s opened-tables u e ≡ outcome_of (done 0) (lent s (put_opening opened-tables (entry_of u e) (at-begin o)))
        unfolding settle at-begin
        reset-done =
            use-out s opened-tables u e still-sound lu le is-open reset refl
            ∙ ap (λ (x : Opening). outcome_of (done 0) (lent s (put_opening opened-tables (entry_of u e) (at-begin x)))) there

        same-opening : at-begin o ≡ opening_before
        unfolding at-begin o old_opening
        same-opening = refl

        was-closed : AsBefore
        unfolding opened-tables
        was-closed =
            ap (λ (x : Outcome Lent). request_out (uses reset) x.after.store x.after.tables u e) open-there.1
            ∙ reset-done
            ∙ ap (λ (x : List ℕ). outcome_of (done 0) (lent s x)) (opening-over t long (entry_of u e) o (omega arith) shaped (at-begin o) ∙ ap (put_opening t (entry_of u e)) same-opening)

    -- open for work, then reset: the tables' cells are those that the opening left before, and the store's are as they were
    pub work-then-reset : AsBefore
    work-then-reset = ⊎_elim
        (λ sound. ⊎_elim
        (λ lu. ⊎_elim
        (λ le. ⊎_elim (was-open sound lu le) (was-closed sound lu le) (split-bool (is_open (opening_at t (entry_of u e)))))
        (λ l. not-refused 2 (entry-out (opens (work bytes)) s t u e sound lu l)) (le-or-lt e greatest_entry))
        (λ l. not-refused 1 (user-out (opens (work bytes)) s t u e sound l)) (le-or-lt u greatest_user))
        (λ unsound. not-refused 20 (unsound-out (opens (work bytes)) s t u e unsound)) (split-bool (sound_lent s t))
