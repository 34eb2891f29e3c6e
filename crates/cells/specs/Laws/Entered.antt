-- A request at the gate, and behind it: what the proofs of calls rest on. Assumes nothing.
use Rattle.std.specs.Prelude.{ℕ, ◌≤◌, ◌<◌, ◌≡◌, Bool, false, List, length, get_or}
use Rattle.std.proofs.Math.Path.{refl, ap}
use Rattle.std.proofs.Common.{sym, ◌∙◌, arith}
use Rattle.std.proofs.Math.Bool.{true}
use Rattle.std.proofs.Math.Option.{Option, none, some}
use borrow.Author.Tests.{eqb-true, lt-ltb, le-ltb}
use Rattle.combine.specs.Laws.Below.{all-at}
use Rattle.combine.specs.Laws.Rows.{each_of}
use Rattle.combine.specs.Laws.Lists.{tab-at}
use Rattle.combine.specs.Verdict.{refused, on_done, refuse◌when◌else◌}
use Rattle.combine.specs.Outcome.{outcome_of, settle}
use Rattle.placing.specs.Sizes.{greatest_user, greatest_entry, entry_of, tables_length}
use Rattle.rules.specs.Calls.{Request}
use Rattle.rules.specs.Gates.{user_gate, entry_gate}
use Rattle.rules.specs.Laws.Gates.{entered}
use Rattle.rules.specs.Levels.{ruled, or_blank}
use Rattle.segments.specs.Free.{SegmentOpening}
use Rattle.segments.specs.Deeds.{segment_level}
use Rattle.tables.specs.declared.Opening.{Opening}
use Rattle.tables.specs.Layout.{opening_at}
use Rattle.tables.specs.Fields.{is_open}
use Rattle.tables.specs.Openings.{openingb, openingsb}
use Rattle.tables.specs.Sound.{soundb}
use Rattle.cells.specs.Says.{opening_in, decoded_opening, house_of, as_opening}
use Rattle.cells.specs.Laws.Determined.{opening-back}
use Rattle.cells.specs.Outcomes.{lent, sound_lent, performed, request_out}

-- ---- refused at the gate: "Order: 20, 1, 2"

module _ (r : Request) (s t : List ℕ) (u e : ℕ) where
  pub unsound-out : sound_lent s t ≡ false → request_out r s t u e ≡ outcome_of (refused 20) (lent s t)
  unfolding request_out entry_gate user_gate settle refuse◌when◌else◌
  unsound-out h = rw h refl

  pub user-out : sound_lent s t ≡ true → greatest_user < u → request_out r s t u e ≡ outcome_of (refused 1) (lent s t)
  unfolding request_out entry_gate user_gate settle refuse◌when◌else◌
  user-out h l = rw (h, lt-ltb greatest_user u l) refl

  pub entry-out : sound_lent s t ≡ true → u ≤ greatest_user → greatest_entry < e → request_out r s t u e ≡ outcome_of (refused 2) (lent s t)
  unfolding request_out entry_gate user_gate settle refuse◌when◌else◌
  entry-out h l m = rw (h, le-ltb greatest_user u l, lt-ltb greatest_entry e m) refl

-- ---- behind the gate: the rule is asked with what the entry's cells say

module _ (s t : List ℕ) (u e : ℕ) (sound : sound_lent s t ≡ true) (lu : u ≤ greatest_user) (le : e ≤ greatest_entry) where
  there : Opening
  there = opening_at t (entry_of u e)

  request-there : (r : Request) (x : Option SegmentOpening) → get_or (house_of t).openings (entry_of u e) none ≡ x
      → request_out r s t u e ≡ settle (lent s t) (on_done (performed s t (entry_of u e) (or_blank (segment_level s) x)) (ruled (segment_level s) r u (house_of t) x))
  unfolding request_out
  request-there r x h =
      let i = entry_of u e in
      let v = on_done (performed s t i (or_blank (segment_level s) x)) (ruled (segment_level s) r u (house_of t) x) in
      ap (λ (y : Option SegmentOpening). settle (lent s t) (entry_gate (sound_lent s t) u e (on_done (performed s t i (or_blank (segment_level s) y)) (ruled (segment_level s) r u (house_of t) y)))) h
      ∙ ap (λ (b : Bool). settle (lent s t) (entry_gate b u e v)) sound
      ∙ ap (settle (lent s t)) (entered u e v lu le)

  entry-says : get_or (house_of t).openings (entry_of u e) none ≡ decoded_opening there
  unfolding house_of there
  entry-says = tab-at 32 (λ i. decoded_opening (opening_at t i)) (entry_of u e) none (omega arith)

  pub request-open : (r : Request) → is_open (opening_at t (entry_of u e)) ≡ true
      → let x = opening_in (opening_at t (entry_of u e)) in
      request_out r s t u e ≡ settle (lent s t) (on_done (performed s t (entry_of u e) x) (ruled (segment_level s) r u (house_of t) (some x)))
  unfolding decoded_opening there
  request-open r h = request-there r (some (opening_in there)) (entry-says ∙ rw h refl)

  pub request-closed : (r : Request) → is_open (opening_at t (entry_of u e)) ≡ false
      → request_out r s t u e ≡ settle (lent s t) (on_done (performed s t (entry_of u e) (or_blank (segment_level s) none)) (ruled (segment_level s) r u (house_of t) none))
  unfolding decoded_opening there
  request-closed r h = request-there r none (entry-says ∙ rw h refl)

  -- the opening's cells are determined by what they say
  pub open-determined : is_open (opening_at t (entry_of u e)) ≡ true → as_opening (some (opening_in (opening_at t (entry_of u e)))) ≡ opening_at t (entry_of u e)
  unfolding soundb openingsb there decoded_opening
  open-determined h =
      let f = each_of _ sound in
      let i = entry_of u e in
      let long = eqb-true (length t) tables_length f.0 in
      let b : as_opening (decoded_opening there) ≡ there = opening-back t i long (omega arith) (all-at (openingb t) 32 f.1.1.0 i (omega arith)) in
      ap as_opening (sym (says-it h)) ∙ b
    where
      says-it : is_open there ≡ true → decoded_opening there ≡ some (opening_in there)
      says-it p = rw p
