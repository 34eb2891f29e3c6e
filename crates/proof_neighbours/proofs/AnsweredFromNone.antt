-- A call of a user is answered, and acts, as where the elements of private files of others, and of others' openings, are blotted out. Assumes nothing.
use Prim.Native.Nat.{ℕ, ◌≤◌}
use Rattle.std.specs.Prelude.{◌≡◌, Bool, not, List, map, T, eqb, ltb, get_or, set}
use Rattle.std.proofs.Math.Path.{refl, ap, subst}
use Rattle.std.proofs.Common.{sym, ◌∙◌, eqb→eq}
use Rattle.std.proofs.Math.Bool.{true}
use Rattle.std.proofs.Math.Option.{Option, none, some}
use Rattle.std.proofs.Math.Dec.{eqb_refl}
use Rattle.std.proofs.Math.ListN.{get_or-map}
use Rattle.combine.specs.Lists.{any}
use Rattle.combine.specs.Verdict.{Said, Verdict, refused, done, on_done}
use Rattle.combine.specs.Outcome.{Outcome, outcome_of, settle}
use Rattle.combine.specs.Run.{Ran, ran, run_over, admitted}
use Rattle.combine.specs.Laws.Tests.{or-second}
use Rattle.combine.specs.Laws.Replaced.{map-set}
use Rattle.combine.specs.Laws.Verdict.{Refuses}
use Rattle.combine.specs.Laws.Run.{Related, run-related, admitted-related}
use Rattle.placing.specs.Sizes.{greatest_entry, entry_of, user_of}
use Rattle.rules.specs.Calls.{Request, Run, writes, fills, save, count, starts, asks, arranges, on, runs}
use Rattle.rules.specs.Headings.{Heading, Open, head_of, handle_of, passes, opening}
use Rattle.rules.specs.Effects.{Effect, Others}
use Rattle.rules.specs.Gates.{user_gate}
use Rattle.rules.specs.House.{house, opens_place, works_place, others_of}
use Rattle.rules.specs.Levels.{ruled, or_blank}
use Rattle.rules.specs.Readable.{may_read}
use Rattle.rules.specs.Rules.{rule}
use Rattle.rules.specs.Runs.{requests_of, admits, admission, run_answer, run_told, no_run}
use Rattle.rules.specs.Laws.Gates.{gate-related}
use Rattle.rules.specs.Laws.Readable.{may_read_at}
use Rattle.model.specs.Model.{File, Body, Model, model, model_level}
use Rattle.model.specs.Step.{perform_on_model, request_on_model, run_on_model, step, step_told}
use Rattle.demands.specs.Private.{blot_file, blot_openings, blotted, AnsweredFromNoneKnown}
use Rattle.proof_requests_sound.specs.Allowed.{Allowed, a-new, an-old, an-end, a-freeing, a-filing, a-use}
use Rattle.proof_neighbours.proofs.Effects.{headed-owner}
use Rattle.proof_neighbours.specs.Requests.{allowed_at, user-of}
use Rattle.proof_neighbours.specs.Blotted.{file-whole, opening-whole, heads-stay, handles-stay, free_stays, opening-at, opening-set}

-- what is his own he may read
pub own_read : (u : ℕ) (r : Heading) → r.owner ≡ u → T (may_read u r)
own_read u r q = or-second (not r.private) (eqb r.owner u) (subst (λ (v : ℕ). T (eqb r.owner v)) q (eqb_refl r.owner))

module _ (u : ℕ) where
  -- ---- the verdict is the same

  verdict-stays : (r : Request) (m : Model) (x : Option (Open Body)) → ruled model_level r u (blotted u m).house x ≡ ruled model_level r u m.house x
  verdict-stays r m x = λ k. rule r u (heads-stay u m.house.records k) (handle_of x) (model_level.takes m.house (or_blank model_level x)) (record {
    room = ltb 0 (free_stays u m k);
    opened = λ p. any (passes (opens_place p)) (handles-stay u 0 m.house.openings k);
    worked = λ p. any (passes (works_place p)) (handles-stay u 0 m.house.openings k);
  })

  -- ---- and so is the effect, at an entry of the user's

  module _ (m : Model) (i : ℕ) (own : user_of i ≡ u) where
    abbrev rs : List (Option File)
    rs = m.house.records

    -- the entry gets y, the catalogue stays
    entry-blotted : (y : Option (Open Body)) → set (blot_openings u 0 m.house.openings) i y ≡ blot_openings u 0 (set m.house.openings i y)
    entry-blotted y = ap (set (blot_openings u 0 m.house.openings) i) (sym (opening-whole u i y own)) ∙ sym (opening-set u m.house.openings i y)

    -- a place gets y, which the user may read
    place-blotted : (p : ℕ) (y : Option File) → T (may_read_at u (head_of y)) → set (map (blot_file u) rs) p y ≡ map (blot_file u) (set rs p y)
    place-blotted p y t = ap (set (map (blot_file u) rs) p) (sym (file-whole u y t)) ∙ sym (map-set (blot_file u) rs p y)

    -- performed on what is blotted, as blotted after it is performed
    abbrev Same : Open Body → Effect → Type 0
    Same x f = perform_on_model (blotted u m) i x f ≡ ((perform_on_model m i x f).0, blotted u (perform_on_model m i x f).1)

    told : (n : ℕ) (qs : List (Option File)) (z y : Option (Open Body)) → z ≡ y
        → ◌≡◌ {A = ℕ × Model} (n, model m.cells (house m.house.segments (map (blot_file u) qs) (set (blot_openings u 0 m.house.openings) i z)))
        (n, blotted u (model m.cells (house m.house.segments qs (set m.house.openings i y))))
    told n qs z y e =
        ap (λ (l : List (Option (Open Body))). (n, model m.cells (house m.house.segments (map (blot_file u) qs) l))) (ap (set (blot_openings u 0 m.house.openings) i) e ∙ entry-blotted y)

    refiled-so : (n p : ℕ) (y : Option File) → T (may_read_at u (head_of y))
        → ◌≡◌ {A = ℕ × Model} (n, model m.cells (house m.house.segments (set (map (blot_file u) rs) p y) (set (blot_openings u 0 m.house.openings) i none)))
        (n, blotted u (model m.cells (house m.house.segments (set rs p y) (set m.house.openings i none))))
    refiled-so n p y t =
        ap (λ (l : List (Option File)). (n, model m.cells (house m.house.segments l (set (blot_openings u 0 m.house.openings) i none)))) (place-blotted p y t)
        ∙ told n (set rs p y) none none refl

    effect-same : (takes : ℕ → Bool) (o : Others) (z : Option (Open Body)) (f : Effect) → Allowed u (map head_of rs) takes o (handle_of z) f → Same (or_blank model_level z) f
    effect-same takes o none f (a-new s l) = told 0 rs _ _ refl
    effect-same takes o none f (an-old p n w) =
        let at : get_or (map (blot_file u) rs) p none ≡ get_or rs p none =
        get_or-map (blot_file u) rs p none ∙ file-whole u (get_or rs p none) (subst (λ (r : Option Heading). T (may_read_at u r)) (sym w.there ∙ get_or-map head_of rs p none) w.seen) in
        told 0 rs _ _ (ap (λ (r : Option File). some (opening n (model_level.shown n r))) at)
    effect-same takes o (some x) f an-end = told 0 rs none none refl
    effect-same takes o (some x) f (a-freeing p e w) = refiled-so 0 p none tt
    effect-same takes o (some x) f (a-filing p r w) = refiled-so 0 p _ (own_read u r (headed-owner w.public u x.handle r w.heading))
    effect-same takes o (some x) f (a-use w l) = told _ rs _ _ refl

  -- ---- a request

  abbrev blotted_after : Outcome Model → Outcome Model
  blotted_after o = outcome_of o.answer (blotted u o.after)

  settled : (m : Model) (i : ℕ) (x : Open Body) (v : Verdict Effect) → ((f : Effect) → v ≡ done f → perform_on_model (blotted u m) i x f ≡ ((perform_on_model m i x f).0, blotted u (perform_on_model m i x f).1))
      → settle (blotted u m) (on_done (perform_on_model (blotted u m) i x) v) ≡ blotted_after (settle m (on_done (perform_on_model m i x) v))
  unfolding settle
  settled m i x (refused n) h = refl
  settled m i x (done f) h = ap (λ (c : ℕ × Model). outcome_of (done c.0) c.1) (h f refl)

  entry_whole : (m : Model) (i : ℕ) → user_of i ≡ u → get_or (blot_openings u 0 m.house.openings) i none ≡ get_or m.house.openings i none
  entry_whole m i own = opening-at u m.house.openings i ∙ opening-whole u i (get_or m.house.openings i none) own

  request-blotted : (r : Request) (e : ℕ) (m : Model) → request_on_model r u e (blotted u m) ≡ blotted_after (request_on_model r u e m)
  unfolding request_on_model settle
  request-blotted r e m = gate-related (λ v w. settle (blotted u m) w ≡ blotted_after (settle m v)) (λ n. refl) true u e _ _ (λ lu le. inside le)
    where
      i : ℕ
      i = entry_of u e

      judged : Model → Option (Open Body) → Verdict (ℕ × Model)
      judged n x = on_done (perform_on_model n i (or_blank model_level x)) (ruled model_level r u n.house x)

      x : Option (Open Body)
      x = get_or m.house.openings i none

      inside : e ≤ greatest_entry → settle (blotted u m) (judged (blotted u m) (get_or (blot_openings u 0 m.house.openings) i none)) ≡ blotted_after (settle m (judged m x))
      inside le =
          let own = user-of u e le in
          ap (λ (z : Option (Open Body)). settle (blotted u m) (judged (blotted u m) z)) (entry_whole m i own)
          ∙ ap (λ (v : Verdict Effect). settle (blotted u m) (on_done (perform_on_model (blotted u m) i (or_blank model_level x)) v)) (verdict-stays r m x)
          ∙ settled m i (or_blank model_level x) (ruled model_level r u m.house x) (λ f q. effect-same m i own (model_level.takes m.house (or_blank model_level x)) (others_of (model_level.room m.house) m.house.openings) x f (allowed_at r u m.house x f q))

  -- ---- a run

  abbrev Blots : Model → Model → Type 0
  Blots m n = n ≡ blotted u m

  run-blotted : (r : Run) (e : ℕ) (m : Model) → Related Blots (run_on_model r u e m) (run_on_model r u e (blotted u m))
  unfolding run_on_model
  run-blotted r e m =
      subst (λ (v : Said). Related Blots (admitted m judged (run_over call (requests_of r) m)) (admitted (blotted u m) v (run_over call (requests_of r) (blotted u m)))) judged-same
      (admitted-related Blots (λ n. Unit {0}) (λ n. Unit {0}) m (blotted u m) judged _ _ refl tt tt
      (λ s t. run-related Blots call call (λ n. Unit {0}) (λ n. Unit {0}) one (requests_of r) m (blotted u m) refl tt tt))
    where
      call : Request → Model → Outcome Model
      call q n = request_on_model q u e n

      judged : Said
      judged = admission true r u e m.house

      judged-same : judged ≡ admission true r u e (blotted u m).house
      judged-same = gate-related ◌≡◌ (λ n. refl) true u e _ _ (λ lu le. ap (λ (x : Option (Open Body)). admits r (handle_of x)) (sym (entry_whole m (entry_of u e) (user-of u e le))))

      one : (q : Request) (n k : Model) → Blots n k → Refuses (λ j. Unit {0}) (call q n).answer → Refuses (λ j. Unit {0}) (call q k).answer
          → ((call q n).answer ≡ (call q k).answer) × Blots (call q n).after (call q k).after
      one q n k b s t =
          let o = ap (call q) b ∙ request-blotted q e n in
          (sym (ap (λ (o : Outcome Model). o.answer) o), ap (λ (o : Outcome Model). o.after) o)

  -- what is told of a run does not say what it left
  run-told : (r : Run) (m n : Model) (q k : Ran Model) → Related Blots q k → run_told r k ≡ run_told r q
  run-told (writes p l) m n q k a = λ i. run_told (writes p l) (ran (sym a.many i) (sym a.stop i) (sym a.told i) m)
  run-told (fills p l) m n q k a = λ i. run_told (fills p l) (ran (sym a.many i) (sym a.stop i) (sym a.told i) m)

pub answered-from-none-known : AnsweredFromNoneKnown
unfolding user_gate
answered-from-none-known u (starts c) look m t = absurd t
answered-from-none-known u (asks (save img)) look m t = absurd t
answered-from-none-known u (asks (count v)) look m t = ((λ k. record { answer = user_gate true v (done (free_stays u m k)); image = none; run = no_run }), refl)
answered-from-none-known u (arranges q) look m t = absurd t
answered-from-none-known u (on v e r) look m t =
    subst (λ (w : ℕ). (step_told look (on w e r) (blotted u m) ≡ step_told look (on w e r) m) × ((step look (on w e r) (blotted u m)).after ≡ blotted u (step look (on w e r) m).after)) (eqb→eq u v t)
    (ap (λ (o : Outcome Model). record { answer = o.answer; image = none; run = no_run }) (request-blotted u r e m), ap (λ (o : Outcome Model). o.after) (request-blotted u r e m))
answered-from-none-known u (runs v e r) look m t =
    subst (λ (w : ℕ). (step_told look (runs w e r) (blotted u m) ≡ step_told look (runs w e r) m) × ((step look (runs w e r) (blotted u m)).after ≡ blotted u (step look (runs w e r) m).after)) (eqb→eq u v t)
    (let a = run-blotted u r e m in
    ((λ i. record { answer = run_answer (ran (sym a.many i) (sym a.stop i) (sym a.told i) m); image = none; run = run-told u r m m _ _ a i }), a.after))
