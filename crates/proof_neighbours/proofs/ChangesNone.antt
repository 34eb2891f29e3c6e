-- No call of a user changes a file that is another's and private, or an opening of another. Assumes nothing.
use Rattle.std.specs.Prelude.{ℕ, ◌≡◌, refl, Bool, false, not, List, map, T, get_or, set}
use Rattle.std.proofs.Math.Decide.{ℕ_discrete}
use Rattle.std.proofs.Common.{sym, ap, ◌∙◌, subst, ⊎_elim, T_not, eqb→eq, get_or-set_other}
use Rattle.std.proofs.Math.Bool.{true}
use Rattle.std.proofs.Math.Option.{Option, none, some}
use Rattle.std.proofs.Math.ListN.{get_or-map}
use Rattle.combine.specs.Laws.Below.{split-bool}
use Rattle.combine.specs.Verdict.{Verdict, refused, done, is_done, on_done}
use Rattle.combine.specs.Outcome.{Outcome}
use Rattle.combine.specs.Run.{Ran, run_over}
use Rattle.combine.specs.Laws.Run.{run-keeps, admitted-keeps, run-map}
use Rattle.placing.specs.Sizes.{entry_of, user_of}
use Rattle.rules.specs.Calls.{Request, Act, uses, write, next, Run, writes, fills, save, count, Call, starts, asks, arranges, on, runs}
use Rattle.rules.specs.Headings.{Heading, Open, head_of, handle_of, is_some}
use Rattle.rules.specs.Effects.{Effect, Use, used, Others}
use Rattle.rules.specs.Access.{acting}
use Rattle.rules.specs.House.{house, changed, others_of}
use Rattle.rules.specs.Levels.{perform, ruled, or_blank}
use Rattle.rules.specs.Readable.{may_read}
use Rattle.rules.specs.Runs.{requests_of, admission}
use Rattle.cells.specs.Outcomes.{Lent, sound_lent}
use Rattle.model.specs.Model.{File, Body, Files, Model, model_level}
use Rattle.model.specs.Step.{request_on_model, run_on_model, step}
use Rattle.proof_requests_sound.specs.Allowed.{Allowed, a-new, an-old, PlaceOf, an-end, a-freeing, a-filing, a-use}
use Rattle.proof_demand2.specs.Demand2.{after-known}
use Rattle.demands.specs.History.{after_call, look_on, view_on}
use Rattle.demands.specs.Laws.Unsound.{refuses-unsound}
use Rattle.demands.specs.Private.{is_of, LeavesOthers, WorksOnOwn, ChangesNoneKnown, ChangesNone}
use Rattle.proof_neighbours.proofs.AnsweredFromNone.{own_read}
use Rattle.proof_neighbours.specs.Requests.{request-cases, allowed_at, user-of}
use Rattle.proof_neighbours.proofs.Cells.{ties-view}

module _ (u : ℕ) where
  leaves-refl : (h : Files) → LeavesOthers u h h
  leaves-refl h = record { files = λ p f e t. e; openings = λ i d. refl }

  leaves-both : (h k n : Files) → LeavesOthers u h k → LeavesOthers u k n → LeavesOthers u h n
  leaves-both h k n a b = record { files = λ p f e t. b.files p f (a.files p f e t) t; openings = λ i d. b.openings i d ∙ a.openings i d }

  -- ---- the effect, at an entry of the user's

  module _ (h : Files) (i : ℕ) (own : user_of i ≡ u) where
    -- the entry gets y
    entry-leaves : (rs : List (Option File)) → ((p : ℕ) (f : File) → get_or h.records p none ≡ some f → T (not (may_read u f.head)) → get_or rs p none ≡ some f)
        → (y : Option (Open Body)) → LeavesOthers u h (house h.segments rs (set h.openings i y))
    entry-leaves rs kept y = record { files = kept; openings = λ j d. get_or-set_other h.openings i j y none (λ q. d (ap user_of q ∙ own)) }

    -- a place gets y, where no file of which he is not to know is
    place-leaves : (p : ℕ) (y : Option File) → ((f : File) → get_or h.records p none ≡ some f → T (may_read u f.head))
        → (q : ℕ) (f : File) → get_or h.records q none ≡ some f → T (not (may_read u f.head)) → get_or (set h.records p y) q none ≡ some f
    place-leaves p y readable q f e t = go (ℕ_discrete q p)
      where
        go : Dec (q ≡ p) → get_or (set h.records p y) q none ≡ some f
        go (yes z) = absurd (T_not (may_read u f.head) t (readable f (subst (λ (j : ℕ). get_or h.records j none ≡ some f) z e)))
        go (no d) = get_or-set_other h.records p q y none d ∙ e

    module _ (works : WorksOnOwn u h) (x : Open Body) (ix : get_or h.openings i none ≡ some x) where
      own-place : (p : ℕ) → x.handle.place ≡ some p → T x.handle.permit → (f : File) → get_or h.records p none ≡ some f → T (may_read u f.head)
      own-place p e w f there = own_read u f.head (works i p x f own ix e w there)

      filed-place : (p : ℕ) (m : Option ℕ) → x.handle.place ≡ m → PlaceOf (map head_of h.records) m p → T x.handle.permit → (f : File) → get_or h.records p none ≡ some f → T (may_read u f.head)
      filed-place p none e l w f there =
          absurd (subst (λ (o : Option File). T (not (is_some (head_of o)))) there (subst (λ (o : Option Heading). T (not (is_some o))) (get_or-map head_of h.records p none) l.1))
      filed-place p (some q) e l w f there = own-place q e w f (subst (λ (j : ℕ). get_or h.records j none ≡ some f) (sym l) there)

    effect-leaves : WorksOnOwn u h → (takes : ℕ → Bool) (o : Others) (z : Option (Open Body)) → get_or h.openings i none ≡ z → (f : Effect)
        → Allowed u (map head_of h.records) takes o (handle_of z) f → LeavesOthers u h (changed h i (perform model_level h (or_blank model_level z) f))
    effect-leaves works takes o none iz f (a-new s l) = entry-leaves h.records (λ p f e t. e) _
    effect-leaves works takes o none iz f (an-old p n l) = entry-leaves h.records (λ p f e t. e) _
    effect-leaves works takes o (some x) iz f an-end = entry-leaves h.records (λ p f e t. e) none
    effect-leaves works takes o (some x) iz f (a-freeing p e w) = entry-leaves (set h.records p none) (place-leaves p none (own-place works x iz p e w)) none
    effect-leaves works takes o (some x) iz f (a-filing p r l) =
        entry-leaves (set h.records p (some _)) (place-leaves p (some _) (filed-place works x iz p x.handle.place refl l.place l.permit)) none
    effect-leaves works takes o (some x) iz f (a-use w l) = entry-leaves h.records (λ p f e t. e) _

  request-leaves : (r : Request) (e : ℕ) (m : Model) → WorksOnOwn u m.house → LeavesOthers u m.house (request_on_model r u e m).after.house
  request-leaves r e m works = request-cases (λ o. LeavesOthers u m.house o.after.house) r u e m (λ n. leaves-refl m.house)
      (λ lu le f ev. let z = get_or m.house.openings (entry_of u e) none in
      effect-leaves m.house (entry_of u e) (user-of u e le) works (model_level.takes m.house (or_blank model_level z)) (others_of (model_level.room m.house) m.house.openings) z refl f (allowed_at r u m.house z f ev))

  -- ---- a run: its single calls are uses, and these leave the catalogue

  use-of : (a : Act) (h : Files) (z : Option (Open Body)) (f : Effect) → ruled model_level (uses a) u h z ≡ done f → (w : Use) × (f ≡ used w)
  use-of a h none f ev = absurd (subst (λ (v : Verdict Effect). T (not (is_done v))) ev tt)
  use-of a h (some x) f ev = go (acting a (model_level.takes h x) (model_level.room h) x.handle) ev
    where
      go : (v : Verdict Use) → on_done used v ≡ done f → (w : Use) × (f ≡ used w)
      go (refused n) q = absurd (subst (λ (v : Verdict Effect). T (not (is_done v))) q tt)
      go (done w) q = let same : f ≡ used w = cc in (w, same)

  use-leaves : (a : Act) (e : ℕ) (m : Model) → LeavesOthers u m.house (request_on_model (uses a) u e m).after.house
  use-leaves a e m = request-cases (λ o. LeavesOthers u m.house o.after.house) (uses a) u e m (λ n. leaves-refl m.house)
      (λ lu le f ev. let z = get_or m.house.openings (entry_of u e) none in
      let w = use-of a m.house z f ev in
      subst (λ (g : Effect). LeavesOthers u m.house (changed m.house (entry_of u e) (perform model_level m.house (or_blank model_level z) g))) (sym w.1)
      (entry-leaves m.house (entry_of u e) (user-of u e le) m.house.records (λ p f e t. e) _))

  module _ (e : ℕ) (m : Model) where
    abbrev call : Request → Model → Outcome Model
    call q n = request_on_model q u e n

    abbrev Left : Model → Type 0
    Left n = LeavesOthers u m.house n.house

    uses-leave : (f : ℕ → Act) (l : List ℕ) → Left (run_over call (map (λ n. uses (f n)) l) m).after
    uses-leave f l =
        subst (λ (r : Ran Model). Left r.after) (sym (run-map (λ (n : ℕ). uses (f n)) call l m))
        (run-keeps (λ (a : ℕ) (n : Model). call (uses (f a)) n) Left (λ a n q. leaves-both m.house n.house _ q (use-leaves (f a) e n)) l m (leaves-refl m.house))

    run-leaves : (r : Run) → Left (run_on_model r u e m).after
    unfolding run_on_model
    run-leaves (writes p l) = admitted-keeps Left m (admission true (writes p l) u e m.house) (run_over call (requests_of (writes p l)) m) (leaves-refl m.house) (uses-leave (λ n. write p n) l)
    run-leaves (fills p l) = admitted-keeps Left m (admission true (fills p l) u e m.house) (run_over call (requests_of (fills p l)) m) (leaves-refl m.house) (uses-leave (λ n. next p) l)

-- ---- any call

pub changes-none-known : ChangesNoneKnown
changes-none-known u (starts c) look m t works = absurd t
changes-none-known u (asks (save img)) look m t works = absurd t
changes-none-known u (asks (count v)) look m t works = leaves-refl u m.house
changes-none-known u (arranges q) look m t works = absurd t
changes-none-known u (on v e r) look m t works =
    subst (λ (w : ℕ). LeavesOthers u m.house (step look (on w e r) m).after.house) (eqb→eq u v t) (request-leaves u r e m works)
changes-none-known u (runs v e r) look m t works =
    subst (λ (w : ℕ). LeavesOthers u m.house (step look (runs w e r) m).after.house) (eqb→eq u v t) (run-leaves u e m r)

-- ---- on cells

works-view : (u : ℕ) (x : Lent) → sound_lent x.store x.tables ≡ true → WorksOnOwn u (view_on x).house
works-view u x sound i p z f own iz e w there =
    let r = ties-view x sound i p z iz e in
    let same : some r.filed ≡ some f = sym r.there ∙ there in
    let file : r.filed ≡ f = cc in
    subst (λ (g : File). g.head.owner ≡ u) file (r.worker w ∙ own)

-- a call that looks at what unsound tables hold changes nothing
unsound-still : (u : ℕ) (c : Call) (x : Lent) → T (is_of u c) → sound_lent x.store x.tables ≡ false → after_call c x ≡ x
unsound-still u (starts c) x t e = absurd t
unsound-still u (asks q) x t e = refl
unsound-still u (arranges q) x t e = absurd t
unsound-still u (on v d r) x t e = ap (λ (o : Outcome Lent). o.after) (refuses-unsound (on v d r) x refl e)
unsound-still u (runs v d r) x t e = ap (λ (o : Outcome Lent). o.after) (refuses-unsound (runs v d r) x refl e)

pub changes-none : ChangesNone
changes-none u c x t = ⊎_elim
    (λ s. subst (λ (m : Model). LeavesOthers u (view_on x).house m.house) (sym (after-known c x s)) (changes-none-known u c (look_on x) (view_on x) t (works-view u x s)))
    (λ e. subst (λ (y : Lent). LeavesOthers u (view_on x).house (view_on y).house) (sym (unsound-still u c x t e)) (leaves-refl u (view_on x).house))
    (split-bool (sound_lent x.store x.tables))
