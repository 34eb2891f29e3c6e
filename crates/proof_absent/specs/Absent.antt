-- "A file that is another's and private must look absent": an opening is answered, and opens, as if no such file were there. Assumes nothing.
use Prim.Native.Nat.{ℕ}
use Rattle.std.specs.Prelude.{◌≡◌, Bool, false, cond, List, [], ◌∷◌, map, T, get_or, set}
use Rattle.std.proofs.Math.Path.{refl, ap}
use Rattle.std.proofs.Common.{sym, ◌∙◌, subst}
use Rattle.std.proofs.Math.Bool.{true}
use Rattle.std.proofs.Math.Option.{Option, none, some}
use Rattle.std.proofs.Math.ListN.{get_or-map}
use Rattle.combine.specs.Verdict.{Verdict, refused, done, on_done, refuse◌when◌else◌}
use Rattle.combine.specs.Outcome.{Outcome, outcome_of, settle}
use Rattle.placing.specs.Sizes.{entry_of}
use Rattle.names.specs.Names.{name_of}
use Rattle.rules.specs.Calls.{Way, new, work, read, opens, on}
use Rattle.rules.specs.Headings.{Heading, Open, head_of}
use Rattle.rules.specs.Effects.{Effect, Others}
use Rattle.rules.specs.House.{house, others_of}
use Rattle.rules.specs.Readable.{may_read, only, readable_by}
use Rattle.rules.specs.Rules.{look_up, open_record, open_old, open_way}
use Rattle.rules.specs.Levels.{ruled, or_blank}
use Rattle.rules.specs.Laws.Gates.{gate-related}
use Rattle.rules.specs.Laws.Readable.{may_read_at}
use Rattle.rules.proofs.Laws.Readable.{only_kept, way-absent}
use Rattle.model.specs.Model.{Body, File, Files, Model, model, model_level}
use Rattle.model.specs.Step.{perform_on_model, request_on_model}
use Rattle.demands.specs.History.{view_on}
use Rattle.demands.specs.Absent.{LooksAbsent}
use Rattle.proof_requests_sound.specs.Verdicts.{has_done}
use Rattle.proof_requests_sound.specs.Allowed.{Opens, a-new, an-old, allowed-rule}
use Rattle.proof_demand2.specs.Demand2.{answer-known, after-known}

-- ---- the verdict

-- an opening does not look whether a segment is free
record-roomless : (a b : Bool) (xs : List (Option (Open Body))) (w : Bool) (u p : ℕ) (r : Option Heading) → open_record w u p r (others_of a xs) ≡ open_record w u p r (others_of b xs)
record-roomless a b xs w u p none = refl
record-roomless a b xs true u p (some r) = refl
record-roomless a b xs false u p (some r) = refl

old-roomless : (a b : Bool) (xs : List (Option (Open Body))) (w : Bool) (u : ℕ) (n : List ℕ) (rs : List (Option Heading)) → open_old w u n rs (others_of a xs) ≡ open_old w u n rs (others_of b xs)
unfolding open_old
old-roomless a b xs w u n rs = ap (refuse◌when◌else◌ 15 _) (record-roomless a b xs w u (look_up u n rs) (get_or rs (look_up u n rs) none))

way-roomless : (a b : Bool) (xs : List (Option (Open Body))) (w : Way) (u : ℕ) (rs : List (Option Heading)) → open_way w u rs (others_of a xs) ≡ open_way w u rs (others_of b xs)
way-roomless a b xs (new s) u rs = refl
way-roomless a b xs (work bytes) u rs = old-roomless a b xs true u (name_of bytes) rs
way-roomless a b xs (read bytes) u rs = old-roomless a b xs false u (name_of bytes) rs

module _ (u : ℕ) where
  abbrev readable_file : Option File → Option File
  readable_file r = only (λ r. may_read u r.head) r

  headings-readable : (rs : List (Option File)) → map head_of (map readable_file rs) ≡ map (only (may_read u)) (map head_of rs)
  headings-readable [] = refl
  headings-readable (r ∷ rs) = λ i. head r i ∷ headings-readable rs i
    where
      head : (r : Option File) → head_of (readable_file r) ≡ only (may_read u) (head_of r)
      head none = refl
      head (some r) = go (may_read u r.head)
        where
          go : (b : Bool) → head_of (cond b (some r) none) ≡ cond b (some r.head) none
          go true = refl
          go false = refl

  verdict-same : (w : Way) (h : Files) (x : Option (Open Body)) → ruled model_level (opens w) u (readable_by u h) x ≡ ruled model_level (opens w) u h x
  verdict-same w h none =
      way-roomless _ _ h.openings w u (map head_of (map readable_file h.records))
      ∙ ap (λ (rs : List (Option Heading)). open_way w u rs (others_of (model_level.room h) h.openings)) (headings-readable h.records)
      ∙ way-absent w u (map head_of h.records) (others_of (model_level.room h) h.openings)
  verdict-same w h (some x) = refl

  -- ---- what is opened

  file-kept : (r : Option File) → T (may_read_at u (head_of r)) → readable_file r ≡ r
  file-kept none t = refl
  file-kept (some r) t = only_kept (λ r. may_read u r.head) r t

  -- what is known of a state without the private files of others, and after a call
  abbrev known : Model → Model
  known m = model m.cells (readable_by u m.house)

  abbrev known_after : Outcome Model → Outcome Model
  known_after o = outcome_of o.answer (known o.after)

  module _ (m : Model) (i : ℕ) (x : Open Body) where
    -- the effect is the same, as far as the user knows
    abbrev Opened : Effect → Type 0
    Opened f = perform_on_model (known m) i x f ≡ ((perform_on_model m i x f).0, known (perform_on_model m i x f).1)

    opened : (o : Others) (f : Effect) → Opens u (map head_of m.house.records) o f → Opened f
    opened o f (a-new s l) = refl
    opened o f (an-old p n w) =
        let rs = m.house.records in
        let may : T (may_read_at u (head_of (get_or rs p none))) =
        subst (λ (r : Option Heading). T (may_read_at u r)) (sym w.there ∙ get_or-map head_of rs p none) w.seen in
        let same : get_or (map readable_file rs) p none ≡ get_or rs p none = get_or-map readable_file rs p none ∙ file-kept (get_or rs p none) may in
        ap (λ (r : Option File). (0, model m.cells (house m.house.segments (map readable_file rs) (set m.house.openings i (some (record { handle = n; content = model_level.shown n r })))))) same

    settled : (v : Verdict Effect) → ((f : Effect) → v ≡ done f → Opened f)
        → settle (known m) (on_done (perform_on_model (known m) i x) v) ≡ known_after (settle m (on_done (perform_on_model m i x) v))
    unfolding settle
    settled (refused n) h = refl
    settled (done f) h = ap (λ (c : ℕ × Model). outcome_of (done c.0) c.1) (h f refl)

  -- ---- the request

  request-absent : (e : ℕ) (w : Way) (m : Model) → request_on_model (opens w) u e (known m) ≡ known_after (request_on_model (opens w) u e m)
  unfolding request_on_model settle
  request-absent e w m =
      gate-related (λ v q. settle (known m) q ≡ known_after (settle m v)) (λ n. refl) true u e _ _ (λ hu he. inside (get_or m.house.openings i none))
    where
      i : ℕ
      i = entry_of u e

      judged : Model → Option (Open Body) → Verdict (ℕ × Model)
      judged n x = on_done (perform_on_model n i (or_blank model_level x)) (ruled model_level (opens w) u n.house x)

      inside : (x : Option (Open Body)) → settle (known m) (judged (known m) x) ≡ known_after (settle m (judged m x))
      inside none =
          let blank = or_blank model_level none in
          let verdict = ruled model_level (opens w) u m.house none in
          let rs = map head_of m.house.records in
          let o = others_of (model_level.room m.house) m.house.openings in
          ap (λ (v : Verdict Effect). settle (known m) (on_done (perform_on_model (known m) i blank) v)) (verdict-same w m.house none)
          ∙ settled m i blank verdict (λ f q. opened m i blank o f (has_done (Opens u rs o) verdict f (allowed-rule u rs (model_level.takes m.house blank) o (opens w) none) q))
      inside (some x) = refl

pub looks-absent : LooksAbsent
looks-absent u e w x sound =
    let c = on u e (opens w) in
    let same = request-absent u e w (view_on x) in
    (answer-known c x sound ∙ ap (λ (o : Outcome Model). o.answer) (sym same), ap (known u) (after-known c x sound) ∙ ap (λ (o : Outcome Model). o.after) (sym same))
