-- Cells with the opening, beside cells without it: the same but for the entry, as users know them. What each call does to the two. Assumes
-- nothing.
use Rattle.std.specs.Prelude.{ℕ, ◌≤◌, ◌≡◌, refl, Bool, true, false, not, ◌&&◌, cond, List, T, ltb, length}
use Rattle.std.proofs.Common.{sym, ap, ◌∙◌, subst}
use Rattle.std.proofs.Math.Option.{Option, none, some}
use Rattle.combine.specs.Verdict.{Said, is_done}
use Rattle.placing.specs.Sizes.{entry_of}
use Rattle.image.specs.Image.{served, imageb, tables_from}
use Rattle.cells.specs.Says.{house_of}
use Rattle.rules.specs.Calls.{Request, abandons, Run, Call, on, runs}
use Rattle.rules.specs.Headings.{is_some}
use Rattle.cells.specs.Outcomes.{Lent}
use Rattle.model.specs.Model.{Files, Model}
use Rattle.model.specs.Step.{Report, step, step_told}
use Rattle.model.specs.View.{view_house, view, files_in}
use Rattle.proof_calls_sound.specs.Keeps.{keeps-sound}
use Rattle.demands.specs.History.{outcome_on, after_call, told_of, look_on, view_on}
use Rattle.demands.specs.Demands.{Sound}
use Rattle.demands.specs.Hearing.{later_fate, hear, answered_as}
use Rattle.demands.specs.Abandoning.{is_on, ending, quiet, is_load}
use Rattle.proof_demand2.specs.Demand2.{told-known, answer-known, after-known}
use Rattle.proof_demand3.specs.Eased.{emptied}
use Rattle.proof_demand3.specs.Own.{request-own, abandoned}
use Rattle.proof_demand3.specs.Runs.{run-own}
use Rattle.proof_demand3.specs.Steps.{SameLook, answered_in, ToldAlike, Carried, Followed}
use Rattle.proof_demand3.proofs.Steps.{step-another, step-alike}

-- whether an image is sound is seen by the store's length
look-length : (s : List ℕ) (img : List ℕ) → is_some (files_in s img) ≡ imageb served (length s) img
unfolding files_in
look-length s img = go (imageb served (length s) img) (view_house s (house_of (tables_from served img)))
  where
    go : (b : Bool) (f : Files) → is_some (cond {A = Option Files} b (some f) none) ≡ b
    go true f = refl
    go false f = refl

cells-known : (x : Lent) → (view_on x).cells ≡ length x.store
unfolding view
cells-known x = refl

same-look : (x y : Lent) → (view_on y).cells ≡ (view_on x).cells → SameLook (look_on x) (look_on y)
same-look x y e img =
    look-length y.store img ∙ ap (λ (n : ℕ). imageb served n img) (sym (cells-known y) ∙ e ∙ cells-known x) ∙ sym (look-length x.store img)

-- ---- with the opening at entry i, and without it

pub record Beside (i : ℕ) (x y : Lent) : Type 0 where
  pub with : Sound x
  pub without : Sound y
  pub seen : view_on y ≡ emptied i (view_on x)

module _ (u e : ℕ) (x y : Lent) (b : Beside (entry_of u e) x y) where
  abbrev i : ℕ
  i = entry_of u e

  looks : SameLook (look_on x) (look_on y)
  looks = same-look x y (ap (λ (m : Model). m.cells) b.seen)

  -- a call that is not the user's by the entry, and quiet: the cells afterwards are beside each other, and the same is told, but for the
  -- numbers of counts
  module _ (c : Call) (le : e ≤ 3) (other : is_on u e c ≡ false) (q : T (quiet u e c (answered_as c x))) where
    carries : Carried i c (look_on x) (look_on y) (view_on x)
    carries =
        step-another u e (look_on x) (look_on y) (view_on x) c le looks other (subst (λ (r : Report). T (quiet u e c (answered_in r))) (told-known c x b.with) q)

    pub another-beside : Beside i (after_call c x) (after_call c y)
    another-beside = record {
      with = keeps-sound c x b.with;
      without = keeps-sound c y b.without;
      seen = after-known c y b.without ∙ ap (λ (m : Model). (step (look_on y) c m).after) b.seen ∙ carries.after ∙ sym (ap (emptied i) (after-known c x b.with));
    }

    pub another-told : ToldAlike c (told_of c x) (told_of c y)
    another-told =
        subst (λ (r : Report). ToldAlike c r (told_of c y)) (sym (told-known c x b.with))
        (subst (λ (r : Report). ToldAlike c (step_told (look_on x) c (view_on x)) r)
        (sym (told-known c y b.without ∙ ap (step_told (look_on y) c) b.seen)) carries.told)

  -- a call by the entry that does not end the opening
  pub own-beside : (r : Request) → T (not (ending r && is_done (outcome_on (on u e r) x).answer)) → Beside i (after_call (on u e r) x) y
  own-beside r t = record {
    with = keeps-sound (on u e r) x b.with;
    without = b.without;
    seen = b.seen ∙ sym (request-own u e (view_on x) r (subst (λ (a : Said). T (not (ending r && is_done a))) (answer-known (on u e r) x b.with) t))
        ∙ sym (ap (emptied i) (after-known (on u e r) x b.with));
  }

  -- a run by the entry
  pub own-run-beside : (r : Run) → Beside i (after_call (runs u e r) x) y
  own-run-beside r = record {
    with = keeps-sound (runs u e r) x b.with;
    without = b.without;
    seen = b.seen ∙ sym (run-own u e (view_on x) r) ∙ sym (ap (emptied i) (after-known (runs u e r) x b.with));
  }

  -- the abandonment
  pub abandoned-seen : T (not (ltb 7 u)) → T (not (ltb 3 e)) → view_on (after_call (on u e abandons) x) ≡ view_on y
  abandoned-seen hu he = after-known (on u e abandons) x b.with ∙ abandoned u e (view_on x) hu he ∙ sym b.seen

-- ---- cells of which users know the same

module _ (x y : Lent) (sx : Sound x) (sy : Sound y) (seen : view_on x ≡ view_on y) (c : Call) (n : T (not (is_load c && is_done (outcome_on c x).answer))) where
  alike : Followed c (look_on x) (look_on y) (view_on x)
  alike =
      step-alike (look_on x) (look_on y) (view_on x) c (same-look x y (ap (λ (m : Model). m.cells) (sym seen)))
      (subst (λ (a : Said). T (not (is_load c && is_done a))) (answer-known c x sx) n)

  pub later-told : hear (later_fate c) (told_of c x) ≡ hear (later_fate c) (told_of c y)
  later-told =
      ap (hear (later_fate c)) (told-known c x sx) ∙ alike.told ∙ ap (λ (m : Model). hear (later_fate c) (step_told (look_on y) c m)) seen
      ∙ sym (ap (hear (later_fate c)) (told-known c y sy))

  pub later-seen : view_on (after_call c x) ≡ view_on (after_call c y)
  later-seen = after-known c x sx ∙ sym alike.after ∙ ap (λ (m : Model). (step (look_on y) c m).after) seen ∙ sym (after-known c y sy)
