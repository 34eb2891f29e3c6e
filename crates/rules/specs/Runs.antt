-- Document 02, P1: runs of elements. "The outcome equals the single calls made one after another". Assumes nothing.
use Rattle.std.specs.Prelude.{ℕ, Bool, true, false, not, ◌&&◌, cond, List, [], ◌++◌, map, eqb, get_or, drop}
use Rattle.std.proofs.Math.Option.{Option, none, some}
use Rattle.combine.specs.Verdict.{Said, refused, done}
use Rattle.combine.specs.Run.{Ran}
use Rattle.placing.specs.Sizes.{entry_of}
use Rattle.rules.specs.Calls.{Request, uses, write, next, Run, writes, fills}
use Rattle.rules.specs.Headings.{Handle, handle_of}
use Rattle.rules.specs.Access.{pointer_gate}
use Rattle.rules.specs.Gates.{entry_gate}
use Rattle.rules.specs.House.{House}

-- the single calls
abbrev pub requests_of : Run → List Request
requests_of (writes p l) = map (λ n. uses (write p n)) l
requests_of (fills p l) = map (λ n. uses (next p)) l

-- "a list of length 0 still gets refusals 20, 1, 2, 4, 5 where they apply": 2, 4 and 5, by the entry's handle; document 02, P5: the plain calls refuse
-- species 6 with 19, "so do P1's runs, at length 0 too"
abbrev pub admits : Run → (entry : Option Handle) → Said
admits r none = refused 2
admits (writes p l) (some h) = pointer_gate false p true h (done 0)
admits (fills p l) (some h) = pointer_gate false p (eqb p 0) h (done 0)

abbrev pub admission : {C B : Type 0} → (sound : Bool) → Run → (user entry : ℕ) → House C B → Said
admission sound r u e h = entry_gate sound u e (admits r (handle_of (get_or h.openings (entry_of u e) none)))

module _ {S : Type 0} where
  -- a run is answered with how many elements it came to; where it came to none and was stopped, it is refused
  abbrev pub run_answer : Ran S → Said
  run_answer r = cond (eqb r.many 0 && not (eqb r.stop 0)) (refused r.stop) (done r.many)

  -- the caller's list: "the writer hands back the unwritten rest of the caller's own list"; the fill "leaves the places it didn't reach as
  -- they were"
  abbrev pub list_after : Run → Ran S → List ℕ
  list_after (writes p l) r = drop r.many l
  list_after (fills p l) r = r.told ++ drop r.many l

-- what a run tells beside its answer: "that refusal's number, or 0, in a lent place", and the list
pub record RunTold : Type 0 where
  pub stop : ℕ
  pub list : List ℕ

abbrev pub run_told : {S : Type 0} → Run → Ran S → RunTold
run_told r q = record { stop = q.stop; list = list_after r q }

-- of any other call
abbrev pub no_run : RunTold
no_run = record { stop = 0; list = [] }
