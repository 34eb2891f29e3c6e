-- Two histories to which P11 is applied. A, who is user 0, keeps the faults of a lift: he makes a file, writes a run, names it, closes it as public, works
-- on it, reads it, and is refused for this and that. In the one history he is alone; in the other B and C make, keep, work on, rename, abandon and
-- delete private files of the same name, are refused for public ones, count, and the operator saves, so that A's file has another place and other
-- segments. Assumes nothing.
use Rattle.std.specs.Prelude.{ℕ, ◌≡◌, refl, Bool, true, false, List, [], ◌∷◌, ◌++◌, map, T, negsuc, get_or, replicate}
use Rattle.std.proofs.Common.{sym, ap, ◌∙◌, subst}
use Rattle.std.proofs.Math.Option.{none}
use Rattle.combine.specs.Verdict.{Said, done, refused}
use Rattle.rules.specs.Calls.{new, work, read, rename, reset, new_pointer, write, next, prev, write_signed, prev_signed, ask_species, ask_claim, ask_permit, ask_begin, ask_end, ask_value, opens, closes, abandons, uses}
use Rattle.rules.specs.Calls.{save, count, writes, fills, Call, asks, on, runs}
use Rattle.rules.specs.Runs.{no_run}
use Rattle.image.specs.Image.{served, image_length}
use Rattle.model.specs.Model.{Model}
use Rattle.model.specs.Step.{Report}
use Rattle.demands.specs.History.{those, Each}
use Rattle.proof_examples.specs.Fresh.{nothing_there}
use Rattle.proof_examples.specs.Known.{answers_known, no_lookb}
use Rattle.proof_demand3.specs.Steps.{answered_in}
use Rattle.proof_demand3.specs.Started.{started_over, started-sound, started-known}
use Rattle.demands.specs.Private.{is_of}
use Rattle.proof_neighbours.specs.Neighbours.{heard_by, openly, hinders, hindered, Apart}
use Rattle.proof_neighbours.proofs.Cells.{openly-view}
use Rattle.proof_neighbours.proofs.Proved.{neighbours}
use Rattle.proof_neighbours_needed.specs.Decided.{heard_known, heard-known, all_apart, each-apart, quiet-started}

-- ---- A's calls, part by part

abbrev lift : List ℕ
lift = 108 ∷ 105 ∷ 102 ∷ 116 ∷ []

abbrev spare : List ℕ
spare = 115 ∷ 112 ∷ []

abbrev makes : List Call
makes = on 0 0 (opens (new 5)) ∷ runs 0 0 (writes 1 (401 ∷ 402 ∷ 403 ∷ 404 ∷ [])) ∷ on 0 0 (uses ask_end) ∷ []

abbrev files : List Call
files = on 0 0 (uses (rename lift)) ∷ on 0 0 (uses ask_claim) ∷ on 0 0 (closes true) ∷ asks (count 0) ∷ []

abbrev works_on : List Call
works_on = on 0 1 (opens (work lift)) ∷ on 0 2 (opens (read lift)) ∷ on 0 1 (uses (next 0)) ∷ runs 0 1 (writes 1 (405 ∷ 406 ∷ []))
    ∷ on 0 1 (uses reset) ∷ on 0 1 (uses (write 2 502)) ∷ on 0 1 (uses (new_pointer 2)) ∷ on 0 1 (uses (ask_value 3)) ∷ on 0 1 (closes true) ∷ []

abbrev reads : List Call
reads = on 0 2 (opens (read lift)) ∷ on 0 3 (opens (read lift)) ∷ runs 0 2 (fills 2 (replicate 7 0)) ∷ on 0 2 (uses (next 2)) ∷ on 0 2 (uses (prev 2)) ∷ on 0 2 (uses (write 1 1))
    ∷ on 0 2 (uses ask_begin) ∷ on 0 2 (uses ask_permit) ∷ on 0 2 (closes false) ∷ []

abbrev errs : List Call
errs = on 0 0 (opens (read spare)) ∷ on 0 0 (opens (work [])) ∷ on 0 0 (uses ask_species) ∷ on 0 4 (uses ask_species) ∷ on 0 0 (opens (new 7)) ∷ on 0 0 (opens (new 6)) ∷ on 0 0 (opens (new 0))
    ∷ on 0 0 (uses (write_signed 1 (negsuc 4))) ∷ on 0 0 (uses (prev_signed 1)) ∷ on 0 0 (uses (rename lift)) ∷ on 0 0 (closes false) ∷ on 0 0 abandons ∷ on 0 0 abandons ∷ []

-- ---- the others' calls, between these

abbrev first : List Call
first = on 1 0 (opens (new 5)) ∷ runs 1 0 (writes 1 (replicate 70 9)) ∷ on 1 0 (uses (rename lift)) ∷ on 1 0 (closes false) ∷ on 2 1 (opens (new 3)) ∷ on 2 1 (uses (write 1 200)) ∷ []

abbrev second : List Call
second = on 2 1 (uses (rename lift)) ∷ on 2 1 (closes false) ∷ on 1 0 (opens (work lift)) ∷ on 1 0 (uses (next 0)) ∷ asks (save []) ∷ asks (count 1) ∷ []

abbrev third : List Call
third = on 3 0 (opens (work lift)) ∷ on 3 9 (opens (read lift)) ∷ on 1 0 (closes true) ∷ on 1 0 (uses (rename spare)) ∷ on 1 0 (closes false) ∷ on 2 1 (opens (work lift))
    ∷ runs 2 1 (writes 1 (1 ∷ 2 ∷ 3 ∷ [])) ∷ on 2 1 abandons ∷ []

abbrev fourth : List Call
fourth = on 1 3 (opens (work spare)) ∷ on 1 3 (uses (rename [])) ∷ on 1 3 (closes false) ∷ asks (save (replicate (image_length served) 0)) ∷ asks (count 8) ∷ on 7 0 (opens (new 1)) ∷ []

abbrev pub alone : List Call
alone = makes ++ (files ++ (works_on ++ (reads ++ errs)))

abbrev pub among : List Call
among = first ++ (makes ++ (second ++ (files ++ (third ++ (works_on ++ (fourth ++ (reads ++ errs)))))))

-- ---- the premises

abbrev hinders_told : Report → Bool
hinders_told r = hinders (answered_in r)

same-calls : those (is_of 0) among ≡ those (is_of 0) alone
same-calls = refl

none-loaded : T (no_lookb among)
none-loaded = tt

private-among : T (all_apart hinders_told openly 0 among (nothing_there 1024))
unfolding answers_known
private-among = tt

private-alone : T (all_apart hinders_told openly 0 alone (nothing_there 1024))
unfolding answers_known
private-alone = tt

module _ (cs : List Call) (n : T (no_lookb cs)) (p : T (all_apart hinders_told openly 0 cs (nothing_there 1024))) where
  premises : Each (Apart hindered openly 0) cs (started_over 1024)
  premises =
      each-apart hinders_told openly openly openly-view 0 cs (started_over 1024) (started-sound 1024 refl) n
      (subst (λ (m : Model). T (all_apart hinders_told openly 0 cs m)) (sym (started-known 1024 refl)) p)

pub told-the-same : heard_by 0 among (started_over 1024) ≡ heard_by 0 alone (started_over 1024)
told-the-same = neighbours 0 among alone (started_over 1024) same-calls (quiet-started 1024 refl 0) (premises among none-loaded private-among) (premises alone tt private-alone)

-- ---- what he hears, whatever the others did: 37 answers, without his count, and the lists of his runs; 65,531 are the bits of -5

abbrev answers : List Said
answers = done 0 ∷ done 4 ∷ done 5
    ∷ done 0 ∷ done 64 ∷ done 0
    ∷ done 0 ∷ refused 14 ∷ done 401 ∷ done 2 ∷ done 0 ∷ done 0 ∷ done 3 ∷ done 3 ∷ done 0
    ∷ done 0 ∷ done 0 ∷ done 5 ∷ refused 7 ∷ done 406 ∷ refused 5 ∷ done 2 ∷ done 0 ∷ done 0
    ∷ refused 11 ∷ refused 15 ∷ refused 2 ∷ refused 2 ∷ refused 19 ∷ done 0 ∷ refused 3 ∷ done 0 ∷ done 65531 ∷ done 0 ∷ refused 16 ∷ done 0 ∷ refused 2 ∷ []

known-answers : map (λ (r : Report). r.answer) (heard_known 0 alone (nothing_there 1024)) ≡ answers
unfolding answers_known
known-answers = refl

alone-known : heard_by 0 among (started_over 1024) ≡ heard_known 0 alone (nothing_there 1024)
alone-known = told-the-same ∙ heard-known 0 alone (started_over 1024) (started-sound 1024 refl) tt ∙ ap (heard_known 0 alone) (started-known 1024 refl)

pub answered : map (λ (r : Report). r.answer) (heard_by 0 among (started_over 1024)) ≡ answers
answered = ap (map (λ (r : Report). r.answer)) alone-known ∙ known-answers

-- the run that reads: 401 has left, 402 was replaced, 405 and 406 were appended, and two places were not reached
abbrev list_at : ℕ → List Report → List ℕ
list_at k l = (get_or l k (record { answer = done 0; image = none; run = no_run })).run.list

known-list : list_at 17 (heard_known 0 alone (nothing_there 1024)) ≡ 502 ∷ 403 ∷ 404 ∷ 405 ∷ 406 ∷ 0 ∷ 0 ∷ []
unfolding answers_known
known-list = refl

pub listed : list_at 17 (heard_by 0 among (started_over 1024)) ≡ 502 ∷ 403 ∷ 404 ∷ 405 ∷ 406 ∷ 0 ∷ 0 ∷ []
listed = ap (list_at 17) alone-known ∙ known-list
