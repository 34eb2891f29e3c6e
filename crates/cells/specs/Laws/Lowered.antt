-- A request on cells is the same request on what the cells say: the step from cells to segments. Assumes nothing.
use Rattle.std.specs.Prelude.{ℕ, ◌<◌, ◌≡◌, List, length, get_or}
use Rattle.std.proofs.Math.Path.{refl, ap}
use Rattle.std.proofs.Common.{◌∙◌, arith, get_or-set_same}
use Rattle.std.proofs.Math.Bool.{true}
use Rattle.std.proofs.Math.Option.{none, some}
use Rattle.combine.specs.Laws.Lists.{length-tab}
use Rattle.combine.specs.Verdict.{Verdict, refused, done, on_done}
use Rattle.combine.specs.Outcome.{Outcome, settle}
use Rattle.placing.specs.Sizes.{entry_of, tables_length}
use Rattle.rules.specs.Calls.{Request}
use Rattle.rules.specs.Headings.{Heading, filing, head_of, handle_of}
use Rattle.rules.specs.Effects.{Use, Effect, filed, used}
use Rattle.rules.specs.Gates.{entry_gate}
use Rattle.rules.specs.Laws.Gates.{gate-related}
use Rattle.rules.specs.House.{changed}
use Rattle.rules.specs.Levels.{perform, ruled, or_blank}
use Rattle.segments.specs.Free.{SegmentOpening, SegmentHouse}
use Rattle.segments.specs.Deeds.{segment_level}
use Rattle.segments.specs.State.{State, state, perform_on_segments, request_on_segments}
use Rattle.tables.specs.Layout.{record_at, opening_at}
use Rattle.cells.specs.Says.{decoded_record, decoded_opening, house_of}
use Rattle.cells.specs.Outcomes.{Lent, lent, sound_lent, performed, request_out}
use Rattle.cells.specs.Laws.Written.{FitsFiling, FitsEntry, says-written}

-- what the cells say, with their store
abbrev pub state_of : Lent → State
state_of x = state x.store (house_of x.tables)

-- the same answer, and cells that say the same
pub record Lowers (o : Outcome Lent) (m : Outcome State) : Type 0 where
  pub answer : o.answer ≡ m.answer
  pub after : state_of o.after ≡ m.after

-- a change that fits the lengths of the tables
pub record Fits (s t : List ℕ) (x : SegmentOpening) (f : Effect) : Type 0 where
  pub filing : FitsFiling (perform (segment_level s) (house_of t) x f).filing
  pub entry : FitsEntry (perform (segment_level s) (house_of t) x f).entry

-- every effect of the verdict fits
abbrev pub AllFit : List ℕ → List ℕ → SegmentOpening → Verdict Effect → Type 0
AllFit s t x (refused n) = Unit {0}
AllFit s t x (done f) = Fits s t x f

module _ (s t : List ℕ) (long : length t ≡ tables_length) (u e : ℕ) (x : SegmentOpening) where
  lowered : (v : Verdict Effect) → entry_of u e < 32 → AllFit s t x v
      → Lowers (settle (lent s t) (on_done (performed s t (entry_of u e) x) v)) (settle (state_of (lent s t)) (on_done (perform_on_segments (state_of (lent s t)) (entry_of u e) x) v))
  unfolding settle
  lowered (refused n) l w = record { answer = refl; after = refl }
  lowered (done f) l w =
      record {
        answer = refl;
        after = ap (state _) (says-written t long (entry_of u e) (perform (segment_level s) (house_of t) x f) l w.filing w.entry);
      }

  -- behind the gate
  behind : (v : Verdict Effect) → AllFit s t x v
      → Lowers (settle (lent s t) (entry_gate true u e (on_done (performed s t (entry_of u e) x) v)))
      (settle (state_of (lent s t)) (entry_gate true u e (on_done (perform_on_segments (state_of (lent s t)) (entry_of u e) x) v)))
  unfolding settle
  behind v w =
      gate-related (λ a b. Lowers (settle (lent s t) a) (settle (state_of (lent s t)) b)) (λ n. record { answer = refl; after = refl }) true u e _ _
      (λ hu he. lowered v (omega arith) w)

pub request-lowered : (r : Request) (s t : List ℕ) (u e : ℕ) → length t ≡ tables_length → sound_lent s t ≡ true
    → (let x = get_or (house_of t).openings (entry_of u e) none in AllFit s t (or_blank (segment_level s) x) (ruled (segment_level s) r u (house_of t) x))
    → Lowers (request_out r s t u e) (request_on_segments r u e (state_of (lent s t)))
unfolding request_out
request-lowered r s t u e long sound w =
    let x = get_or (house_of t).openings (entry_of u e) none in
    rw sound (behind s t long u e (or_blank (segment_level s) x) (ruled (segment_level s) r u (house_of t) x) w)

-- ---- headings and handles in the cells after an effect are what the rule said

module _ (s t : List ℕ) (long : length t ≡ tables_length) (k : ℕ) (lk : k < 32) (x : SegmentOpening) where
  after-effect : (f : Effect) → Fits s t x f → house_of (performed s t k x f).1.tables ≡ changed (house_of t) k (perform (segment_level s) (house_of t) x f)
  after-effect f w = says-written t long k (perform (segment_level s) (house_of t) x f) lk w.filing w.entry

  entries : k < length (house_of t).openings
  unfolding house_of
  entries = let e = length-tab 32 (λ i. decoded_opening (opening_at t i)) in omega (arith, e, lk)

  pub handle-written : (n : Use) → Fits s t x (used n) → handle_of (get_or (house_of (performed s t k x (used n)).1.tables).openings k none) ≡ some n.handle
  handle-written n w =
      ap (λ (h : SegmentHouse). handle_of (get_or h.openings k none)) (after-effect (used n) w)
      ∙ ap handle_of (get_or-set_same (house_of t).openings k (perform (segment_level s) (house_of t) x (used n)).entry none entries)

  pub heading-written : (p : ℕ) (r : Heading) → Fits s t x (filed p r) → head_of (get_or (house_of (performed s t k x (filed p r)).1.tables).records p none) ≡ some r
  unfolding house_of
  heading-written p r w =
      let e = length-tab 64 (λ q. decoded_record (record_at t q)) in
      ap (λ (h : SegmentHouse). head_of (get_or h.records p none)) (after-effect (filed p r) w)
      ∙ ap head_of (get_or-set_same (house_of t).records p (some (filing r x.content)) none (omega (arith, e, w.filing.0)))
