-- What every single call keeps of sound tables and their store, a run of them keeps. Assumes nothing.
use Rattle.std.specs.Prelude.{ℕ, ◌*◌, ◌≤◌, ◌≡◌, length, get_or}
use Rattle.std.proofs.Math.Path.{refl}
use Rattle.std.proofs.Common.{sym, ◌∙◌, subst}
use Rattle.combine.specs.Outcome.{Outcome}
use Rattle.combine.specs.Run.{run_over}
use Rattle.combine.specs.Laws.Run.{run-keeps, admitted-keeps}
use Rattle.placing.specs.Sizes.{segment_cells}
use Rattle.rules.specs.Calls.{Request, Run}
use Rattle.rules.specs.Runs.{requests_of, admission}
use Rattle.tables.specs.Layout.{segments_in}
use Rattle.tables.specs.Laws.Sound.{ranged-of}
use Rattle.cells.specs.Says.{house_of}
use Rattle.cells.specs.Outcomes.{Lent, sound_lent, request_out, run_out}
use Rattle.demands.specs.Demands.{Sound}
use Rattle.proof_requests_agree.specs.Requests.{request-segments, request-store-length, request-tables-length, request-sound, request-beyond}

-- y is left by calls from x on
pub record Kept (x y : Lent) : Type 0 where
  pub sound : Sound y
  pub segments : segments_in y.tables ≡ segments_in x.tables
  pub store_length : length y.store ≡ length x.store
  pub tables_length : length y.tables ≡ length x.tables
  pub beyond : (k : ℕ) → segment_cells * segments_in x.tables ≤ k → get_or y.store k 0 ≡ get_or x.store k 0

module _ (u e : ℕ) where
  -- a single call
  abbrev pub single : Request → Lent → Outcome Lent
  single q y = request_out q y.store y.tables u e

  module _ (x : Lent) where
    -- one call more
    single-kept : (q : Request) (y : Lent) → Kept x y → Kept x (single q y).after
    single-kept q y w =
        let s = y.store in
        let t = y.tables in
        let long = (ranged-of (length s) t w.sound).0 in
        record {
          sound = request-sound q s t u e w.sound;
          segments = request-segments q s t u e w.sound ∙ w.segments;
          store_length = request-store-length q s t u e w.sound ∙ w.store_length;
          tables_length = request-tables-length q s t u e w.sound ∙ sym long ∙ w.tables_length;
          beyond = λ k l. request-beyond q s t u e w.sound k (subst (λ (n : ℕ). segment_cells * n ≤ k) (sym w.segments) l) ∙ w.beyond k l;
        }

    pub run-kept : (r : Run) → Sound x → Kept x (run_out r x.store x.tables u e).after
    unfolding run_out
    run-kept r ok =
        let start : Kept x x = record { sound = ok; segments = refl; store_length = refl; tables_length = refl; beyond = λ k l. refl } in
        admitted-keeps (Kept x) x (admission (sound_lent x.store x.tables) r u e (house_of x.tables)) (run_over single (requests_of r) x) start
        (run-keeps single (Kept x) single-kept (requests_of r) x start)
