-- P11's premises, decided on the state as its users know it, for histories in which no image is loaded. Assumes nothing.
use Rattle.std.specs.Prelude.{ℕ, ◌≡◌, refl, Bool, true, not, ◌&&◌, cond, List, [], ◌∷◌, ◌++◌, T, leb}
use Rattle.std.proofs.Common.{sym, ap, ap₂, ◌∙◌, subst}
use Rattle.std.proofs.Math.Option.{Option, none}
use Rattle.combine.specs.Verdict.{is_done}
use Rattle.combine.specs.Laws.Tests.{and_first, and_second}
use Rattle.combine.specs.Laws.Replaced.{replicate-at}
use Rattle.placing.specs.Sizes.{entries}
use Rattle.rules.specs.Calls.{Call}
use Rattle.rules.specs.Headings.{Open, handle_of, passes}
use Rattle.segments.specs.Free.{SegmentHouse}
use Rattle.cells.specs.Says.{house_of}
use Rattle.cells.specs.Outcomes.{Lent}
use Rattle.model.specs.Model.{Body, Files, Model}
use Rattle.model.specs.Step.{Report, step, step_told}
use Rattle.model.specs.View.{view}
use Rattle.proof_calls_sound.specs.Keeps.{keeps-sound}
use Rattle.demands.specs.History.{outcome_on, after_call, told_of, view_on, those, Each}
use Rattle.demands.specs.Hearing.{left_fate, fate_in, hear}
use Rattle.demands.specs.Demands.{Sound}
use Rattle.proof_examples.specs.Fresh.{nothing_there}
use Rattle.proof_examples.specs.Known.{blind, looks, no_lookb, told-blind, after-blind}
use Rattle.proof_demand3.specs.Started.{started_over, started-known}
use Rattle.demands.specs.Private.{is_of}
use Rattle.proof_neighbours.specs.Neighbours.{heard_by, public_at, opens_public, QuietStart, Apart, NeighboursBy}
use Rattle.proof_neighbours.proofs.Cells.{opens-seen}

-- ---- what the landlord hears

abbrev pub heard_known : ℕ → List Call → Model → List Report
heard_known a [] m = []
heard_known a (c ∷ cs) m = hear (fate_in (is_of a) left_fate c) (step_told blind c m) ++ heard_known a cs (step blind c m).after

pub heard-known : (a : ℕ) (cs : List Call) (x : Lent) → Sound x → T (no_lookb cs) → heard_by a cs x ≡ heard_known a cs (view_on x)
heard-known a [] x s n = refl
heard-known a (c ∷ cs) x s n =
    let one = and_first (not (looks c)) (no_lookb cs) n in
    ap₂ {C = List Report} (λ k l. k ++ l) (ap (hear (fate_in (is_of a) left_fate c)) (told-blind c x s one))
    (heard-known a cs (after_call c x) (keeps-sound c x s) (and_second (not (looks c)) (no_lookb cs) n) ∙ ap (heard_known a cs) (after-blind c x s one))

-- ---- the premises: t tests what is told of the landlord's calls, op what another's left

abbrev pub apart_known : (Report → Bool) → (Call → Files → Bool) → ℕ → Call → Model → Bool
apart_known t op a c m = cond (is_of a c) (not (t (step_told blind c m))) (not (is_done (step blind c m).answer && op c (step blind c m).after.house))

abbrev pub all_apart : (Report → Bool) → (Call → Files → Bool) → ℕ → List Call → Model → Bool
all_apart t op a [] m = true
all_apart t op a (c ∷ cs) m = apart_known t op a c m && all_apart t op a cs (step blind c m).after

module _ (t : Report → Bool) (op : Call → SegmentHouse → Bool) (op' : Call → Files → Bool) (seen : (c : Call) (x : Lent) → op c (house_of x.tables) ≡ op' c (view_on x).house) (a : ℕ) where
  abbrev hears : Call → Lent → Bool
  hears c x = t (told_of c x)

  apart-known : (c : Call) (x : Lent) → Sound x → T (not (looks c)) → T (apart_known t op' a c (view_on x)) → Apart hears op a c x
  apart-known c x s n = subst (λ (b : Bool). T b) (sym
      (ap (λ (b : Bool). cond (is_of a c) (not (t (told_of c x))) (not (is_done (outcome_on c x).answer && b))) (seen c (after_call c x))
      ∙ ap₂ (λ (r : Report) (m : Model). cond (is_of a c) (not (t r)) (not (is_done r.answer && op' c m.house))) (told-blind c x s n) (after-blind c x s n)))

  pub each-apart : (cs : List Call) (x : Lent) → Sound x → T (no_lookb cs) → T (all_apart t op' a cs (view_on x)) → Each (Apart hears op a) cs x
  each-apart [] x s n p = tt
  each-apart (c ∷ cs) x s n p =
      let one = and_first (not (looks c)) (no_lookb cs) n in
      let here : Bool = apart_known t op' a c (view_on x) in
      let later : Bool = all_apart t op' a cs (step blind c (view_on x)).after in (
        apart-known c x s one (and_first here later p),
        each-apart cs (after_call c x) (keeps-sound c x s) (and_second (not (looks c)) (no_lookb cs) n)
            (subst (λ (m : Model). T (all_apart t op' a cs m)) (sym (after-blind c x s one)) (and_second here later p)),
      )

  -- two histories that tell him otherwise
  pub refuted : (start : ℕ → Lent → Type 0) (cs ds : List Call) (x : Lent) (m : Model) → Sound x → view_on x ≡ m → T (no_lookb cs) → T (no_lookb ds)
      → those (is_of a) cs ≡ those (is_of a) ds → start a x → T (all_apart t op' a cs m) → T (all_apart t op' a ds m) → (heard_known a cs m ≡ heard_known a ds m → ⊥)
      → NeighboursBy hears op start → ⊥
  refuted start cs ds x m s e nc nd same q pc pd differ all =
      let heard = all a cs ds x same q
      (each-apart cs x s nc (subst (λ (n : Model). T (all_apart t op' a cs n)) (sym e) pc))
      (each-apart ds x s nd (subst (λ (n : Model). T (all_apart t op' a ds n)) (sym e) pd)) in
      differ (ap (heard_known a cs) (sym e) ∙ sym (heard-known a cs x s nc) ∙ heard ∙ heard-known a ds x s nd ∙ ap (heard_known a ds) e)

-- ---- where the stories begin: nothing is open

pub quiet-started : (n : ℕ) → leb 64 n ≡ true → (a : ℕ) → QuietStart a (started_over n)
unfolding view
quiet-started n large a i d =
    subst (λ (b : Bool). T (not b))
    (sym (sym (opens-seen (started_over n).store (house_of (started_over n).tables) i) ∙ ap (λ (m : Model). opens_public m.house i) (started-known n large)
    ∙ ap (λ (z : Option (Open Body)). passes (λ x. public_at (nothing_there n).house.records x.place) (handle_of z)) (replicate-at entries i none))) tt
