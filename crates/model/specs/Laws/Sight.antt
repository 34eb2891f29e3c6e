-- A rule sees the same in a store with its segments and in what users know of it, but for the count of free segments. Assumes nothing.
use Rattle.std.specs.Prelude.{ℕ, zero, suc, ◌≡◌, refl, Bool, true, false, ◌||◌, List, [], ◌∷◌, map, leb, length, get_or}
use Rattle.std.proofs.Common.{sym, ap, ◌∙◌, ⊎_elim, arith, leb-true, le-leb}
use Rattle.std.proofs.Math.Option.{Option, none, some}
use Rattle.std.proofs.Math.ListN.{get_or-map}
use Rattle.combine.specs.Laws.Below.{split-bool, bool-ext}
use Rattle.combine.specs.Lists.{any, is_in}
use Rattle.placing.specs.Sizes.{entry_of}
use Rattle.store.specs.Store.{segment_of}
use Rattle.rules.specs.Calls.{Request, Run}
use Rattle.rules.specs.Headings.{Handle, head_of, handle_of, slot_in, passes, is_some}
use Rattle.rules.specs.Rules.{rule}
use Rattle.rules.specs.Gates.{entry_gate}
use Rattle.rules.specs.Runs.{admits, admission}
use Rattle.rules.specs.House.{opens_place, works_place, others_of, has_open}
use Rattle.rules.specs.Levels.{blank, or_blank, ruled}
use Rattle.segments.specs.Free.{SegmentRecord, SegmentOpening, SegmentHouse, place_segments, has_room}
use Rattle.segments.specs.Deeds.{takes_at, segment_level}
use Rattle.model.specs.Model.{model_level}
use Rattle.model.specs.View.{view_place, view_entry, view_house}

-- ---- headings and handles

pub head-seen : (s : List ℕ) (r : Option SegmentRecord) → head_of (view_place s r) ≡ head_of r
head-seen s none = refl
head-seen s (some r) = refl

pub heads-seen : (s : List ℕ) (rs : List (Option SegmentRecord)) → map head_of (map (view_place s) rs) ≡ map head_of rs
heads-seen s [] = refl
heads-seen s (r ∷ rs) = λ i. head-seen s r i ∷ heads-seen s rs i

module _ (s : List ℕ) (rs : List (Option SegmentRecord)) where
  handle-seen : (x : Option SegmentOpening) → handle_of (view_entry s rs x) ≡ handle_of x
  handle-seen none = refl
  handle-seen (some x) = refl

  handles-seen : (xs : List (Option SegmentOpening)) → map handle_of (map (view_entry s rs) xs) ≡ map handle_of xs
  handles-seen [] = refl
  handles-seen (x ∷ xs) = λ i. handle-seen x i ∷ handles-seen xs i

-- ---- whether a position takes a segment

flag_at : (f : ℕ → Bool) (l : List ℕ) (k : ℕ) → get_or (map f l) k true ≡ (leb (length l) k || f (get_or l k 0))
flag_at f [] k = sym (ap (λ (b : Bool). b || f 0) (le-leb 0 k (omega arith)))
flag_at f (x ∷ l) zero = sym (ap (λ (b : Bool). b || f x) (lt-leb-false (length l)))
  where
    lt-leb-false : (n : ℕ) → leb (suc n) 0 ≡ false
    lt-leb-false n = ⊎_elim (λ p. absurd (let h = leb-true (suc n) 0 p in let y : ⊥ = omega arith in y)) (λ p. p) (split-bool (leb (suc n) 0))
flag_at f (x ∷ l) (suc k) = flag_at f l k ∙ ap (λ (b : Bool). b || f (get_or l k 0)) (sym (both-suc (length l) k))
  where
    both-suc : (m n : ℕ) → leb (suc m) (suc n) ≡ leb m n
    both-suc m n =
        bool-ext (leb (suc m) (suc n)) (leb m n) (λ p. le-leb m n (let h = leb-true (suc m) (suc n) p in omega arith))
        (λ p. le-leb (suc m) (suc n) (let h = leb-true m n p in omega arith))

takes-seen : (s : List ℕ) (h : SegmentHouse) (x : Option SegmentOpening) (v : ℕ)
    → model_level.takes (view_house s h) (or_blank model_level (view_entry s h.records x)) v ≡ takes_at h.records (or_blank (segment_level s) x) v
unfolding segment_of
takes-seen s h none v = flag_at (λ g. is_in g []) [] (slot_in blank v)
takes-seen s h (some x) v = flag_at (λ g. is_in g (place_segments h.records x.handle.place)) x.content (slot_in x.handle v)

-- ---- the rule

pub rule-seen : (s : List ℕ) (r : Request) (u : ℕ) (h : SegmentHouse) (x : Option SegmentOpening) → model_level.room (view_house s h) ≡ has_room h
    → ruled model_level r u (view_house s h) (view_entry s h.records x) ≡ ruled (segment_level s) r u h x
rule-seen s r u h x room =
    λ i. rule r u (heads-seen s h.records i) (handle-seen s h.records x i) (λ v. takes-seen s h x v i)
    (others-seen i)
  where
    others-seen : others_of (model_level.room (view_house s h)) (view_house s h).openings ≡ others_of (has_room h) h.openings
    others-seen = λ i. record {
      room = room i;
      opened = λ p. any (passes (opens_place p)) (handles-seen s h.records h.openings i);
      worked = λ p. any (passes (works_place p)) (handles-seen s h.records h.openings i);
    }

-- ---- what is judged before a run: the entry's handle

pub admission-seen : (s : List ℕ) (r : Run) (u e : ℕ) (h : SegmentHouse) → admission true r u e (view_house s h) ≡ admission true r u e h
admission-seen s r u e h =
    let i = entry_of u e in
    ap (λ (x : Option Handle). entry_gate true u e (admits r x))
    (ap handle_of (get_or-map (view_entry s h.records) h.openings i none) ∙ handle-seen s h.records (get_or h.openings i none))

-- ---- whether something is open

any_open : (s : List ℕ) (rs : List (Option SegmentRecord)) (xs : List (Option SegmentOpening)) → any is_some (map (view_entry s rs) xs) ≡ any is_some xs
any_open s rs [] = refl
any_open s rs (none ∷ xs) = any_open s rs xs
any_open s rs (some x ∷ xs) = refl

pub open-seen : (s : List ℕ) (h : SegmentHouse) → has_open (view_house s h) ≡ has_open h
open-seen s h = any_open s h.records h.openings
