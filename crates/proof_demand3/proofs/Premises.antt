-- The premises of demand 3, decided on the state as its users know it, for a story in which no call up to the abandonment is answered from the cells, and no image is loaded after it. Assumes nothing.
use Rattle.std.specs.Prelude.{ℕ, Bool, true, false, not, ◌&&◌, List, [], ◌∷◌, T}
use Rattle.std.proofs.Common.{sym, ap, ◌∙◌, subst}
use Rattle.combine.specs.Verdict.{Said, is_done}
use Rattle.rules.specs.Calls.{Call}
use Rattle.cells.specs.Outcomes.{Lent}
use Rattle.model.specs.Model.{Model}
use Rattle.model.specs.Step.{Report, step, step_told}
use Rattle.proof_calls_sound.specs.Keeps.{keeps-sound}
use Rattle.combine.specs.Laws.Tests.{and_first, and_second}
use Rattle.demands.specs.History.{after_call, view_on, final}
use Rattle.demands.specs.Demands.{Sound}
use Rattle.demands.specs.Abandoning.{quiet, Quiet, is_load, NoLoad, Story, opening_call, Abandoned}
use Rattle.proof_examples.specs.Known.{blind, looks, no_lookb, told-blind, answer-blind, after-blind, known_after, final-known}
use Rattle.proof_demand3.specs.Steps.{answered_in}

abbrev pub quietb : ℕ → ℕ → List Call → Model → Bool
quietb u e [] m = true
quietb u e (c ∷ cs) m = quiet u e c (answered_in (step_told blind c m)) && quietb u e cs (step blind c m).after

-- ---- histories

quiet-known : (u e : ℕ) (cs : List Call) (x : Lent) → Sound x → T (no_lookb cs) → T (quietb u e cs (view_on x)) → Quiet u e cs x
quiet-known u e [] x s n q = tt
quiet-known u e (c ∷ cs) x s n q =
    let one = and_first (not (looks c)) (no_lookb cs) n in
    let a = answered_in (step_told blind c (view_on x)) in
    let m = (step blind c (view_on x)).after in (
      subst (λ (r : Report). T (quiet u e c (answered_in r))) (sym (told-blind c x s one)) (and_first (quiet u e c a) (quietb u e cs m) q),
      quiet-known u e cs (after_call c x) (keeps-sound c x s) (and_second (not (looks c)) (no_lookb cs) n)
          (subst (λ (k : Model). T (quietb u e cs k)) (sym (after-blind c x s one)) (and_second (quiet u e c a) (quietb u e cs m) q)),
    )

abbrev no_loadb : List Call → Bool
no_loadb [] = true
no_loadb (c ∷ cs) = not (is_load c) && no_loadb cs

never-load : (cs : List Call) (x : Lent) → T (no_loadb cs) → NoLoad cs x
never-load [] x n = tt
never-load (c ∷ cs) x n = (go (is_load c) _ (and_first (not (is_load c)) (no_loadb cs) n), never-load cs (after_call c x) (and_second (not (is_load c)) (no_loadb cs) n))
  where
    go : (a b : Bool) → T (not a) → T (not (a && b))
    go true b t = absurd t
    go false b t = tt

-- ---- the story

pub abandoned-known : (h : Story) (x : Lent) → Sound x → T (no_lookb h.before) → T (no_lookb h.between) → T (no_loadb h.later)
    → let m = known_after h.before (view_on x) in
    T (is_done (step blind (opening_call h) m).answer) → T (quietb h.user h.entry h.between (step blind (opening_call h) m).after) → Abandoned h x
abandoned-known h x s nb nc nd o q =
    let k = final-known h.before x s nb in
    let y = final h.before x in
    record {
      opened = subst (λ (a : Said). T (is_done a)) (sym (answer-blind (opening_call h) y k.1 tt ∙ ap (λ (m : Model). (step blind (opening_call h) m).answer) k.0)) o;
      quietly = quiet-known h.user h.entry h.between (after_call (opening_call h) y) (keeps-sound (opening_call h) y k.1) nc
          (subst (λ (m : Model). T (quietb h.user h.entry h.between m)) (sym (after-blind (opening_call h) y k.1 tt ∙ ap (λ (m : Model). (step blind (opening_call h) m).after) k.0)) q);
      no_load = never-load h.later _ nd;
    }
