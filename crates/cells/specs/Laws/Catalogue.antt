-- Opening, closing and abandoning on the cells of sound tables, by records and openings of their own cells. Assumes nothing.
use Prim.Native.Nat.{ℕ, suc, ◌≤◌, ◌<◌}
use Rattle.std.specs.Prelude.{◌≡◌, Bool, not, List, ◌∷◌, map}
use Rattle.std.proofs.Math.Path.{refl, ap}
use Rattle.std.proofs.Common.{◌∙◌}
use Rattle.std.proofs.Math.Bool.{true}
use Rattle.std.proofs.Math.Option.{none, some}
use Rattle.std.proofs.Math.ListN.{get_or, replicate, get_or-map}
use Rattle.combine.specs.Lists.{tab}
use Rattle.combine.specs.Laws.Lists.{tab-at}
use Rattle.combine.specs.Verdict.{done}
use Rattle.combine.specs.Outcome.{outcome_of, settle}
use Rattle.names.specs.Names.{scratch_name}
use Rattle.placing.specs.Sizes.{greatest_user, greatest_entry, entry_of, places}
use Rattle.placing.specs.Placing.{segment, position}
use Rattle.rules.specs.Calls.{abandons}
use Rattle.rules.specs.Effects.{opens_new, opens_old, ended, unfiled, filed}
use Rattle.rules.specs.Rules.{new_handle, work_start, opened_as, headed}
use Rattle.rules.specs.Laws.Opened.{start_of}
use Rattle.segments.specs.Free.{SegmentOpening, record_segments}
use Rattle.tables.specs.declared.Record.{Record}
use Rattle.tables.specs.declared.Opening.{Opening}
use Rattle.tables.specs.Layout.{position_number, record_at, opening_at, put_record, put_opening, unused_record, closed_opening}
use Rattle.tables.specs.Fields.{is_used, is_open}
use Rattle.tables.specs.Handles.{bit, handle_in, heading_of}
use Rattle.cells.specs.Says.{record_in, opening_in, decoded_record, house_of, in_places, as_record, as_opening, written}
use Rattle.cells.specs.Outcomes.{lent, sound_lent, performed, request_out}
use Rattle.cells.specs.Laws.Entered.{request-open}

-- ---- by value

-- "New makes an empty scratch file with work permit."; "It starts with b = e = 1."
unfoldable pub new_opening : ℕ → Opening
new_opening s =
    record {
      opened = 1;
      place = 0;
      permit = 1;
      species = s;
      pointers = position 1 ∷ position 1 ∷ position 1 ∷ replicate 5 (position 0);
      name = scratch_name;
      segments = replicate 32 (segment 0);
    }

-- the record at place p, opened; w says that it is for work
unfoldable pub old_opening : Bool → ℕ → Record → Opening
old_opening w p r =
    record {
      opened = 1;
      place = suc p;
      permit = bit w;
      species = r.species;
      pointers = r.begin ∷ r.end ∷ work_start w r.begin r.end ∷ replicate 5 (position 0);
      name = r.name;
      segments = r.segments;
    }

-- "name, privacy, species, begin, end and segments become the record"
unfoldable pub filed_record : Bool → ℕ → Opening → Record
filed_record public u o =
    record {
      used = 1;
      name = o.name;
      owner = u;
      private = bit (not public);
      species = o.species;
      begin = get_or o.pointers 0 (position 0);
      end = get_or o.pointers 1 (position 0);
      segments = o.segments;
    }

-- ---- effects, at entry i of the tables t

module _ (s t : List ℕ) (i : ℕ) where
  pub new-performed : (n : ℕ) (x : SegmentOpening) → performed s t i x (opens_new (new_handle n)) ≡ (0, lent s (put_opening t i (new_opening n)))
  unfolding written as_opening in_places new_opening
  new-performed n x = refl

  pub ended-performed : (x : SegmentOpening) → performed s t i x ended ≡ (0, lent s (put_opening t i closed_opening))
  unfolding written as_opening
  ended-performed x = refl

  pub unfiled-performed : (x : SegmentOpening) (p : ℕ) → performed s t i x (unfiled p) ≡ (0, lent s (put_opening (put_record t p unused_record) i closed_opening))
  unfolding written as_opening as_record
  unfiled-performed x p = refl

  pub filed-performed : (public : Bool) (u p : ℕ) (o : Opening) → as_opening (some (opening_in o)) ≡ o
      → performed s t i (opening_in o) (filed p (headed public u (handle_in o))) ≡ (0, lent s (put_opening (put_record t p (filed_record public u o)) i closed_opening))
  unfolding written as_opening as_record headed filed_record
  filed-performed public u p o d =
      let at : (k : ℕ) → position (get_or (map position_number o.pointers) k 0) ≡ get_or o.pointers k (position 0) = (λ k. ap position (get_or-map position_number o.pointers k (position 0))) in
      λ j. (
        0,
        lent s (put_opening (put_record t p (record {
          used = 1;
          name = o.name;
          owner = u;
          private = bit (not public);
          species = o.species;
          begin = at 0 j;
          end = at 1 j;
          segments = (d j).segments;
        })) i closed_opening),
      )

  pub old-performed : (w : Bool) (p : ℕ) (x : SegmentOpening) → p < places → is_used (record_at t p) ≡ true → as_record (some (record_in (record_at t p))) ≡ record_at t p
      → performed s t i x (opens_old p (opened_as w p (heading_of (record_at t p)))) ≡ (0, lent s (put_opening t i (old_opening w p (record_at t p))))
  unfolding written as_opening as_record opened_as old_opening house_of decoded_record
  old-performed w p x lp used d =
      let r = record_at t p in
      let there : get_or (tab 64 (λ q. decoded_record (record_at t q))) p none ≡ some (record_in r) = tab-at 64 (λ q. decoded_record (record_at t q)) p none lp ∙ says-used used in
      λ j. (
        0,
        lent s (put_opening t i (record {
          opened = 1;
          place = suc p;
          permit = bit w;
          species = r.species;
          pointers = r.begin ∷ r.end ∷ start_of position w (position_number r.begin) (position_number r.end) j ∷ replicate 5 (position 0);
          name = r.name;
          segments = (ap (λ y. in_places (record_segments y)) there ∙ ap (λ (y : Record). y.segments) d) j;
        })),
      )
    where
      says-used : is_used (record_at t p) ≡ true → decoded_record (record_at t p) ≡ some (record_in (record_at t p))
      says-used q = rw q

-- ---- "Abandon: the opening ends, segments listed only by it become free, the record is untouched."

pub abandon-out : (s t : List ℕ) (u e : ℕ) → sound_lent s t ≡ true → u ≤ greatest_user → e ≤ greatest_entry → is_open (opening_at t (entry_of u e)) ≡ true
    → request_out abandons s t u e ≡ outcome_of (done 0) (lent s (put_opening t (entry_of u e) closed_opening))
unfolding settle
abandon-out s t u e sound lu le there =
    request-open s t u e sound lu le abandons there
    ∙ ap (λ c. outcome_of (done c.0) c.1) (ended-performed s t (entry_of u e) (opening_in (opening_at t (entry_of u e))))
