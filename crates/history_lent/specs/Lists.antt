-- Runs of elements: s, t and i are the cells of the buffers store, tables and of images and lists, l has the numbers of cells lent of each; u is a
-- user, e an entry, p a pointer. Assumes nothing.
use Rattle.std.specs.Prelude.{ℕ, ◌+◌, Bool, cond, List, ltb, eqb, length, take, Option, Some, None}
use Rattle.rules.specs.Calls.{writes, fills}
use Rattle.cells.specs.Outcomes.{run_out}
use Rattle.cells.specs.Runs.{written_by, filled_by}
use Rattle.history_calls.specs.declared.Reply.{Reply}
use Rattle.history_calls.specs.declared.Reply.TheVariants.{Bad, Rest, Filled}
use Rattle.history_calls.specs.Told.{Told, told}
use Rattle.history_words.specs.declared.Numbers.{Numbers}
use Rattle.history_buffers.specs.Buffers.{lent_of}
use Rattle.history_lent.specs.Rooms.{list_buffer, last_list, others_length, first_list, list_start, other_at, with_other, before_rest, Lending, lending}

-- "a run written of the lent cells of list L"; "rest R N: R cells left unwritten, N the refusal's number or 0"
unfoldable pub wrote_list : (user entry pointer : ℕ) (list store tables : List ℕ) → Told
wrote_list u e p list s t =
    let w = written_by p list (run_out (writes p list) s t u e) in
    told (Rest (length w.rest) w.place) w.cells

-- the reply, and the cells of tables and list
pub record Filling : Type 0 where
  pub reply : Reply
  pub tables : List ℕ
  pub list : List ℕ

unfoldable pub filling : Reply → List ℕ → List ℕ → Filling
filling r t l = record { reply = r; tables = t; list = l }

-- "the lent cells of list L filled by next"; "filled K N"
unfoldable pub filled_list : (user entry pointer : ℕ) (list store tables : List ℕ) → Filling
filled_list u e p list s t =
    let f = filled_by p list (run_out (fills p list) s t u e) in
    filling (Filled f.many f.place) f.cells.tables f.list

-- with ns, nt and n cells lent of store, tables and list k
abbrev pub wrote_from : (ns nt n : ℕ) (user entry pointer k : ℕ) → List ℕ → List ℕ → List ℕ → Lending
wrote_from ns nt n u e p k s t i =
    let o = wrote_list u e p (other_at (list_start k) n i) (take ns s) (take nt t) in
    lending o.reply (before_rest ns s o.cells.store) (before_rest nt t o.cells.tables) i

abbrev pub filled_into : (ns nt n : ℕ) (user entry pointer k : ℕ) → List ℕ → List ℕ → List ℕ → Lending
filled_into ns nt n u e p k s t i =
    let o = filled_list u e p (other_at (list_start k) n i) (take ns s) (take nt t) in
    lending o.reply s (before_rest nt t o.tables) (with_other (list_start k) n i o.list)

unfoldable pub run_call : List ℕ → (user entry pointer k : ℕ) → Bool → List ℕ → List ℕ → List ℕ → Lending
run_call l u e p k written s t i =
    let ns = lent_of l 0 (length s) in
    let nt = lent_of l 1 (length t) in
    let n = lent_of l (first_list + k) list_buffer in
    cond (ltb last_list k) (lending Bad s t i)
    (cond (eqb (length i) others_length) (cond written (wrote_from ns nt n u e p k s t i) (filled_into ns nt n u e p k s t i)) (lending Bad s t i))

-- a number that is no buffer's, too many or too few of them, or a word that is no number, is a bad line
abbrev pub run_line : List ℕ → Option Numbers → Bool → List ℕ → List ℕ → List ℕ → Lending
run_line l (Some (Numbers.Four u e p k)) written s t i = run_call l u e p k written s t i
run_line l (Some Numbers.Zero) written s t i = lending Bad s t i
run_line l (Some (Numbers.One a)) written s t i = lending Bad s t i
run_line l (Some (Numbers.Two a b)) written s t i = lending Bad s t i
run_line l (Some (Numbers.Three a b c)) written s t i = lending Bad s t i
run_line l None written s t i = lending Bad s t i
