-- "12 is never given again": by no call at all, runs included. Assumes nothing.
use Rattle.std.specs.Prelude.{ℕ, Bool, true, false, not, ◌&&◌, cond, eqb}
use Rattle.std.proofs.Common.{subst}
use Rattle.combine.specs.Verdict.{Said, refused, done}
use Rattle.combine.specs.Outcome.{Outcome}
use Rattle.combine.specs.Run.{Ran, run_over}
use Rattle.combine.specs.Laws.Verdict.{Refuses}
use Rattle.combine.specs.Laws.Outcome.{settle-refuses}
use Rattle.combine.specs.Laws.Run.{run-stopped, admitted-stopped}
use Rattle.rules.specs.Calls.{Request, Start, fresh, load, Question, save, count, Arranging, tidy, Run, Call, starts, asks, arranges, on, runs}
use Rattle.rules.specs.Runs.{requests_of, admission, run_answer}
use Rattle.rules.specs.Laws.Refusals.{Not12}
use Rattle.rules.proofs.Laws.Refusals.{user-gate-spares, start-gate-spares, image-gate-spares, still-gate-spares, ruled-spares, admission-spares}
use Rattle.segments.specs.Deeds.{segment_level}
use Rattle.cells.specs.Says.{house_of}
use Rattle.cells.specs.Outcomes.{Lent, sound_lent, request_out, run_out, free_out, fresh_out, load_out, save_out, tidy_out, start_out, ask_out, arrange_out, call_out, call_run}
use Rattle.demands.specs.Absent.{Never12}
use Rattle.proof_absent.specs.Refused.{open_at, request-refuses}

-- ---- each kind of call

start-spares : (c : Start) (x : Lent) → Refuses Not12 (start_out c x.store x.tables).answer
unfolding fresh_out load_out
start-spares fresh x = settle-refuses Not12 _ _ (start-gate-spares _ tt _)
start-spares (load img) x = settle-refuses Not12 _ _ (image-gate-spares _ tt _ _)

ask-spares : (q : Question) (x : Lent) → Refuses Not12 (ask_out q x.store x.tables).answer
unfolding save_out free_out
ask-spares (save img) x = settle-refuses Not12 _ _ (image-gate-spares _ tt _ _)
ask-spares (count u) x = settle-refuses Not12 _ _ (user-gate-spares _ tt _ u)

arrange-spares : (q : Arranging) (x : Lent) → Refuses Not12 (arrange_out q x.store x.tables).answer
unfolding tidy_out
arrange-spares tidy x = settle-refuses Not12 _ _ (still-gate-spares _ tt _ _)

module _ (u e : ℕ) where
  request-spares : (r : Request) (x : Lent) → Refuses Not12 (request_out r x.store x.tables u e).answer
  request-spares r x = request-refuses Not12 tt tt tt u e r x (ruled-spares (segment_level x.store) r u (house_of x.tables) (open_at u e x))

  run-spares : (r : Run) (x : Lent) → Not12 (run_out r x.store x.tables u e).stop
  unfolding run_out
  run-spares r x =
      let sound = sound_lent x.store x.tables in
      let single : Request → Lent → Outcome Lent = λ q y. request_out q y.store y.tables u e in
      admitted-stopped Not12 x (admission sound r u e (house_of x.tables)) (run_over single (requests_of r) x) (admission-spares sound r u e (house_of x.tables))
      (run-stopped single Not12 tt request-spares (requests_of r) x)

-- a run that is refused is refused by what stops it
answer-spares : (r : Ran Lent) → Not12 r.stop → Refuses Not12 (run_answer r)
answer-spares r p = go (eqb r.many 0 && not (eqb r.stop 0))
  where
    go : (b : Bool) → Refuses Not12 (cond b (refused r.stop) (done r.many))
    go true = p
    go false = tt

-- ---- any call

spares : (c : Call) (x : Lent) → Refuses Not12 (call_out c x.store x.tables).answer × Not12 (call_run c x.store x.tables).stop
spares (starts c) x = (start-spares c x, tt)
spares (asks q) x = (ask-spares q x, tt)
spares (arranges q) x = (arrange-spares q x, tt)
spares (on u e r) x = (request-spares u e r x, tt)
spares (runs u e r) x = (answer-spares (run_out r x.store x.tables u e) (run-spares u e r x), run-spares u e r x)

pub never-12 : Never12
never-12 c x =
    let s = spares c x in
    (λ q. subst (λ (a : Said). Refuses Not12 a) q s.0, λ q. subst Not12 q s.1)
