-- Every request on the cells of sound tables leaves them sound, the lengths as they were, and the cells beyond the segments. Assumes nothing.
use Rattle.std.specs.Prelude.{ℕ, ◌*◌, ◌≤◌, ◌≡◌, Bool, true, List, length}
use Rattle.std.proofs.Common.{arith, sym, ◌∙◌}
use Rattle.std.proofs.Math.Path.{ap, subst}
use Rattle.std.proofs.Math.Logic.{⊎_elim}
use Rattle.std.proofs.Math.Option.{Option, none}
use Rattle.std.proofs.Math.ListN.{get_or}
use Rattle.combine.specs.Laws.Numbers.{le-or-lt}
use Rattle.combine.specs.Verdict.{Verdict, refused, done, on_done}
use Rattle.combine.specs.Outcome.{Outcome, settle}
use Rattle.placing.specs.Sizes.{greatest_user, greatest_entry, entry_of, segment_cells, tables_length}
use Rattle.rules.specs.Calls.{Request}
use Rattle.rules.specs.Effects.{Effect}
use Rattle.rules.specs.Gates.{entry_gate}
use Rattle.rules.specs.Laws.Gates.{entered}
use Rattle.rules.specs.Levels.{perform, ruled, or_blank}
use Rattle.segments.specs.Free.{SegmentOpening}
use Rattle.segments.specs.Deeds.{segment_level}
use Rattle.segments.specs.State.{State}
use Rattle.segments.specs.Laws.Sound.{SoundHouse}
use Rattle.tables.specs.Layout.{segments_in}
use Rattle.tables.specs.Laws.Sound.{ranged-of, fits-store}
use Rattle.cells.specs.Says.{house_of}
use Rattle.cells.specs.Outcomes.{Lent, lent, sound_lent, performed, request_out}
use Rattle.cells.specs.Laws.Entered.{user-out, entry-out}
use Rattle.cells.specs.Laws.Lowered.{state_of, AllFit}
use Rattle.proof_requests_sound.specs.Requests.{request-keeps-sound}
use Rattle.proof_requests_sound.specs.Beyond.{request-keeps-segments, request-keeps-store-length, request-keeps-beyond}
use Rattle.proof_cells_agree.specs.SoundSays.{sound-says}
use Rattle.proof_cells_agree.specs.Canonical.{Canonical, sound-canonical, written-length, written-canonical}
use Rattle.proof_cells_agree.specs.SaysSound.{says-sound}
use Rattle.proof_requests_agree.specs.Fits.{all_fit}
use Rattle.proof_requests_agree.specs.Agrees.{request-agrees}

module _ (r : Request) (s t : List ℕ) (u e : ℕ) (sound : sound_lent s t ≡ true) where
  -- ---- the tables that a request leaves have their length, and are what is written for what they say

  abbrev Written : List ℕ → Type 0
  Written after = (length after ≡ tables_length) × Canonical after

  before-written : Written t
  before-written = ((ranged-of (length s) t sound).0, sound-canonical (length s) t sound)

  effect-written : (x : SegmentOpening) (v : Verdict Effect) → u ≤ greatest_user → e ≤ greatest_entry → AllFit s t x v
      → Written (settle (lent s t) (on_done (performed s t (entry_of u e) x) v)).after.tables
  unfolding settle
  effect-written x (refused n) hu he w = before-written
  effect-written x (done f) hu he w =
      let c = perform (segment_level s) (house_of t) x f in (
        written-length (length s) t sound (entry_of u e) c (omega arith) w.filing w.entry,
        written-canonical (length s) t sound (entry_of u e) c (omega arith) w.filing w.entry,
      )

  request-written : Written (request_out r s t u e).after.tables
  unfolding request_out
  request-written = ⊎_elim
      (λ hu. ⊎_elim
      (λ he. behind hu he)
      (λ l. subst (λ (o : Outcome Lent). Written o.after.tables) (sym (entry-out r s t u e sound hu l)) before-written) (le-or-lt e greatest_entry))
      (λ l. subst (λ (o : Outcome Lent). Written o.after.tables) (sym (user-out r s t u e sound l)) before-written) (le-or-lt u greatest_user)
    where
      x : Option SegmentOpening
      x = get_or (house_of t).openings (entry_of u e) none

      v : Verdict (ℕ × Lent)
      v = on_done (performed s t (entry_of u e) (or_blank (segment_level s) x)) (ruled (segment_level s) r u (house_of t) x)

      behind : u ≤ greatest_user → e ≤ greatest_entry → Written (request_out r s t u e).after.tables
      behind hu he =
          let same : request_out r s t u e ≡ settle (lent s t) v =
          ap (λ (b : Bool). settle (lent s t) (entry_gate b u e v)) sound ∙ ap (settle (lent s t)) (entered u e v hu he) in
          subst (λ (o : Outcome Lent). Written o.after.tables) (sym same)
          (effect-written (or_blank (segment_level s) x) (ruled (segment_level s) r u (house_of t) x) hu he (all_fit s t (sound-says (length s) t sound) r u e hu he))

  -- ---- what the request leaves is what it leaves of segments

  said : SoundHouse (house_of t)
  said = sound-says (length s) t sound

  fits : segment_cells * (house_of t).segments ≤ length s
  unfolding house_of
  fits = fits-store (length s) t sound

  after-sound : SoundHouse (house_of (request_out r s t u e).after.tables)
  after-sound = subst (λ (m : State). SoundHouse m.house) (sym (request-agrees r s t u e sound).after) (request-keeps-sound r u e (state_of (lent s t)) said)

  pub request-segments : segments_in (request_out r s t u e).after.tables ≡ segments_in t
  unfolding house_of
  request-segments = ap (λ (m : State). m.house.segments) (request-agrees r s t u e sound).after ∙ request-keeps-segments r u e (state_of (lent s t))

  pub request-store-length : length (request_out r s t u e).after.store ≡ length s
  request-store-length = ap (λ (m : State). length m.store) (request-agrees r s t u e sound).after ∙ request-keeps-store-length r u e (state_of (lent s t)) said fits

  pub request-tables-length : length (request_out r s t u e).after.tables ≡ tables_length
  request-tables-length = request-written.0

  pub request-sound : sound_lent (request_out r s t u e).after.store (request_out r s t u e).after.tables ≡ true
  request-sound =
      let o = (request_out r s t u e).after in
      let room : segment_cells * segments_in (request_out r s t u e).after.tables ≤ length (request_out r s t u e).after.store =
      rw (request-segments, request-store-length) (fits-store (length s) t sound) in
      says-sound (length o.store) o.tables request-tables-length room request-written.1 after-sound

  pub request-beyond : (k : ℕ) → segment_cells * segments_in t ≤ k → get_or (request_out r s t u e).after.store k 0 ≡ get_or s k 0
  unfolding house_of
  request-beyond k l = ap (λ (m : State). get_or m.store k 0) (request-agrees r s t u e sound).after ∙ request-keeps-beyond r u e (state_of (lent s t)) said fits k l
