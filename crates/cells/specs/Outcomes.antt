-- Every call, on the cells of store and tables: s is the store's cells, t the tables', u a user, e an entry. Assumes nothing.
use Rattle.std.specs.Prelude.{ℕ, Bool, ◌&&◌, [], eqb, leb, length, get_or}
use Rattle.std.proofs.Math.Option.{none}
use Rattle.answers.specs.Said.{Answer, said}
use Rattle.combine.specs.Verdict.{done, on_done}
use Rattle.combine.specs.Outcome.{Outcome, outcome_of, settle}
use Rattle.combine.specs.Run.{Ran, run_over, admitted}
use Rattle.placing.specs.Sizes.{Cells, least_store, tables_length, entry_of, fresh_segments}
use Rattle.rules.specs.Calls.{Request, Start, fresh, load, Question, save, count, Arranging, tidy, Run, Call, starts, asks, arranges, on, runs}
use Rattle.rules.specs.Effects.{Effect}
use Rattle.rules.specs.Gates.{user_gate, entry_gate, start_gate, image_gate, still_gate}
use Rattle.rules.specs.House.{has_open}
use Rattle.rules.specs.Levels.{perform, ruled, or_blank}
use Rattle.rules.specs.Runs.{requests_of, admission, run_answer, RunTold, run_told, no_run}
use Rattle.segments.specs.Free.{SegmentOpening, free_count}
use Rattle.segments.specs.Deeds.{segment_level, perform_store}
use Rattle.segments.specs.Moves.{moved_cells, tidy_moves, tidy_count}
use Rattle.tables.specs.Layout.{fresh_tables}
use Rattle.tables.specs.Sound.{soundb}
use Rattle.image.specs.Image.{served, image_length, image_of, imageb, tables_from}
use Rattle.cells.specs.Says.{house_of, written}
use Rattle.cells.specs.Moved.{moved_tables}

-- the cells of the store and of the tables
pub record Lent : Type 0 where
  pub store : Cells
  pub tables : Cells

abbrev pub lent : (store tables : Cells) → Lent
lent s t = record { store = s; tables = t }

-- what a contract says of the code's answer and cells
abbrev pub outcome : Answer → (store tables : Cells) → Outcome Lent
outcome r s t = outcome_of (said r) (lent s t)

-- ---- a request

-- the tables are sound beside the store
abbrev pub sound_lent : (store tables : Cells) → Bool
sound_lent s t = soundb (length s) t

-- the effect, at entry i with the opening x
abbrev pub performed : (store tables : Cells) (entry : ℕ) → SegmentOpening → Effect → ℕ × Lent
performed s t i x f =
    let c = perform (segment_level s) (house_of t) x f in
    (c.answer, lent (perform_store s (house_of t) x f) (written t i c))

unfoldable pub request_out : Request → (store tables : Cells) (user entry : ℕ) → Outcome Lent
request_out r s t u e =
    let x = get_or (house_of t).openings (entry_of u e) none in
    settle (lent s t) (entry_gate (sound_lent s t) u e (on_done (performed s t (entry_of u e) (or_blank (segment_level s) x)) (ruled (segment_level s) r u (house_of t) x)))

-- ---- a run of elements: the single calls, one after another

unfoldable pub run_out : Run → (store tables : Cells) (user entry : ℕ) → Ran Lent
run_out r s t u e =
    admitted (lent s t) (admission (sound_lent s t) r u e (house_of t)) (run_over (λ q x. request_out q x.store x.tables u e) (requests_of r) (lent s t))

-- ---- the count of free segments, and the operator's calls: "none of them changes a store cell"

unfoldable pub free_out : (store tables : Cells) (user : ℕ) → Outcome Lent
free_out s t u = settle (lent s t) (user_gate (sound_lent s t) u (done (free_count (house_of t), lent s t)))

-- tables of the right length, and a store of 64 cells or more
abbrev pub lengthsb : (store tables : Cells) → Bool
lengthsb s t = eqb (length t) tables_length && leb least_store (length s)

-- "the tables keep that number"
unfoldable pub fresh_out : (store tables : Cells) → Outcome Lent
fresh_out s t = settle (lent s t) (start_gate (lengthsb s t) (done (0, lent s (fresh_tables (fresh_segments (length s))))))

-- ", and a load puts the image's there"
unfoldable pub load_out : (store tables image : Cells) → Outcome Lent
load_out s t img = settle (lent s t) (image_gate (lengthsb s t) (imageb served (length s) img) (done (0, lent s (tables_from served img))))

-- a save writes the lent image buffer too
pub record Saved : Type 0 where
  pub cells : Lent
  pub image : Cells

abbrev pub saved : (store tables image : Cells) → Saved
saved s t img = record { cells = lent s t; image = img }

unfoldable pub save_out : (store tables image : Cells) → Outcome Saved
save_out s t img = settle (saved s t img) (image_gate (sound_lent s t) (eqb (length img) (image_length served)) (done (0, saved s t (image_of served t))))

-- ---- document 02, P13: segments move

-- "With nothing open (else refusal 14), move segments"; "The answer is the count of cells copied"
unfoldable pub tidy_out : (store tables : Cells) → Outcome Lent
tidy_out s t =
    let h = house_of t in
    settle (lent s t) (still_gate (sound_lent s t) (has_open h) (done (tidy_count h, lent (moved_cells s (tidy_moves h)) (moved_tables (tidy_moves h) t))))

-- ---- any call

abbrev pub start_out : Start → (store tables : Cells) → Outcome Lent
start_out fresh s t = fresh_out s t
start_out (load img) s t = load_out s t img

-- a question's answer, and the lent list afterwards; that store and tables stay is the law `asked-save`, `asked-count`
abbrev pub ask_out : Question → (store tables : Cells) → Outcome Cells
ask_out (save img) s t = outcome_of (save_out s t img).answer (save_out s t img).after.image
ask_out (count u) s t = outcome_of (free_out s t u).answer []

abbrev pub arrange_out : Arranging → (store tables : Cells) → Outcome Lent
arrange_out tidy s t = tidy_out s t

abbrev pub call_out : Call → (store tables : Cells) → Outcome Lent
call_out (starts c) s t = start_out c s t
call_out (asks q) s t = outcome_of (ask_out q s t).answer (lent s t)
call_out (arranges a) s t = arrange_out a s t
call_out (on u e r) s t = request_out r s t u e
call_out (runs u e r) s t = outcome_of (run_answer (run_out r s t u e)) (run_out r s t u e).after

-- the lent image afterwards, for a call that has one
abbrev pub call_image : Call → (store tables : Cells) → Cells
call_image (starts fresh) s t = []
call_image (starts (load img)) s t = img
call_image (asks q) s t = (ask_out q s t).after
call_image (arranges a) s t = []
call_image (on u e r) s t = []
call_image (runs u e r) s t = []

-- what a run tells beside its answer
abbrev pub call_run : Call → (store tables : Cells) → RunTold
call_run (starts c) s t = no_run
call_run (asks q) s t = no_run
call_run (arranges a) s t = no_run
call_run (on u e r) s t = no_run
call_run (runs u e r) s t = run_told r (run_out r s t u e)
