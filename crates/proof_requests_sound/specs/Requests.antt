-- Every request leaves sound records and openings sound. Assumes nothing.
use Rattle.std.specs.Prelude.{ℕ, ◌≤◌, ◌≡◌, refl, true, List, map, get_or}
use Rattle.std.proofs.Common.{arith, nltb→le}
use Rattle.std.proofs.Math.Option.{Option, none, some}
use Rattle.combine.specs.Verdict.{Verdict, refused, done, on_done}
use Rattle.combine.specs.Outcome.{settle}
use Rattle.placing.specs.Sizes.{greatest_user, greatest_entry, entry_of}
use Rattle.rules.specs.Calls.{Request}
use Rattle.rules.specs.Headings.{head_of, handle_of}
use Rattle.rules.specs.Effects.{Effect}
use Rattle.rules.specs.Gates.{user_gate, entry_gate}
use Rattle.rules.specs.House.{changed, others_of}
use Rattle.rules.specs.Levels.{perform, ruled, or_blank}
use Rattle.segments.specs.Free.{SegmentOpening, SegmentHouse, has_room}
use Rattle.segments.specs.Deeds.{takes_at, segment_level}
use Rattle.segments.specs.State.{State, perform_on_segments, request_on_segments}
use Rattle.segments.specs.Laws.Sound.{SoundHouse}
use Rattle.proof_requests_sound.specs.Verdicts.{Has, has, has_done}
use Rattle.proof_requests_sound.specs.Allowed.{Allowed, allowed-rule}
use Rattle.proof_requests_sound.specs.Opened.{opens-sound}
use Rattle.proof_requests_sound.specs.Sounds.{handles-sound}

-- ---- an effect that the rule of a request gives

abbrev pub AllowedAt : ℕ → SegmentHouse → List ℕ → Option SegmentOpening → Effect → Type 0
AllowedAt u h s x f =
    Allowed u (map head_of h.records) (takes_at h.records (or_blank (segment_level s) x)) (others_of (has_room h) h.openings) (handle_of x) f

pub effect-allowed : (s : List ℕ) (r : Request) (u : ℕ) (h : SegmentHouse) (x : Option SegmentOpening) (f : Effect)
    → ruled (segment_level s) r u h x ≡ done f → AllowedAt u h s x f
effect-allowed s r u h x f e =
    has_done (AllowedAt u h s x) (ruled (segment_level s) r u h x) f
    (allowed-rule u (map head_of h.records) (takes_at h.records (or_blank (segment_level s) x)) (others_of (has_room h) h.openings) r (handle_of x)) e

allowed-keeps-sound : (s : List ℕ) (u e : ℕ) (h : SegmentHouse) → SoundHouse h → u ≤ greatest_user → e ≤ greatest_entry
    → (x : Option SegmentOpening) → get_or h.openings (entry_of u e) none ≡ x → (f : Effect) → AllowedAt u h s x f
    → SoundHouse (changed h (entry_of u e) (perform (segment_level s) h (or_blank (segment_level s) x) f))
allowed-keeps-sound s u e h sound hu he none ix f a = opens-sound h sound (entry_of u e) (omega arith) u (omega arith) s (or_blank (segment_level s) none) f a
allowed-keeps-sound s u e h sound hu he (some x) ix f a = handles-sound h sound (entry_of u e) (omega arith) x ix u hu s f a

pub effect-keeps-sound : (s : List ℕ) (r : Request) (u e : ℕ) (h : SegmentHouse) → SoundHouse h → u ≤ greatest_user → e ≤ greatest_entry → (f : Effect)
    → ruled (segment_level s) r u h (get_or h.openings (entry_of u e) none) ≡ done f
    → SoundHouse (changed h (entry_of u e) (perform (segment_level s) h (or_blank (segment_level s) (get_or h.openings (entry_of u e) none)) f))
effect-keeps-sound s r u e h sound hu he f q =
    let x = get_or h.openings (entry_of u e) none in
    allowed-keeps-sound s u e h sound hu he x refl f (effect-allowed s r u h x f q)

-- ---- what every effect of a request keeps, the request keeps

settled : {S : Type 0} (P : S → Type 0) (m : S) (v : Verdict (ℕ × S)) → P m → Has (λ c. P c.1) v → P (settle m v).after
unfolding settle
settled P m (refused n) p h = p
settled P m (done c) p h = h

gated : {S : Type 0} (P : S → Type 0) (u e : ℕ) (v : Verdict S) → (u ≤ greatest_user → e ≤ greatest_entry → Has P v) → Has P (entry_gate true u e v)
unfolding entry_gate user_gate
gated P u e v h = has P _ _ _ (λ h20. has P _ _ _ (λ h1. has P _ _ _ (λ h2. h (nltb→le greatest_user u h1) (nltb→le greatest_entry e h2))))

on-done : {A B : Type 0} (Q : B → Type 0) (f : A → B) (v : Verdict A) → ((a : A) → v ≡ done a → Q (f a)) → Has Q (on_done f v)
on-done Q f (refused n) h = tt
on-done Q f (done a) h = h a refl

pub request-keeps : (P : State → Type 0) (r : Request) (u e : ℕ) (m : State) → P m
    → (u ≤ greatest_user → e ≤ greatest_entry → (f : Effect) → ruled (segment_level m.store) r u m.house (get_or m.house.openings (entry_of u e) none) ≡ done f
    → P (perform_on_segments m (entry_of u e) (or_blank (segment_level m.store) (get_or m.house.openings (entry_of u e) none)) f).1)
    → P (request_on_segments r u e m).after
request-keeps P r u e m p h =
    settled P m _ p (gated (λ c. P c.1) u e _ (λ hu he. on-done (λ c. P c.1) _ _ (λ f q. h hu he f q)))

pub request-keeps-sound : (r : Request) (u e : ℕ) (m : State) → SoundHouse m.house → SoundHouse (request_on_segments r u e m).after.house
request-keeps-sound r u e m sound =
    request-keeps (λ m. SoundHouse m.house) r u e m sound (λ hu he f q. effect-keeps-sound m.store r u e m.house sound hu he f q)
