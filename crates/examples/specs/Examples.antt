-- The worked examples that document 01 marks, and those of document 02's requests, as one list. Assumes nothing.
use Rattle.std.specs.Prelude.{ℕ, ◌*◌, true, false, List, [], ◌∷◌, map, ◌++◌, pos, negsuc, replicate}
use Rattle.combine.specs.Verdict.{done, refused}
use Rattle.placing.specs.Sizes.{Cells, segment_cells}
use Rattle.placing.specs.Placing.{segment, position, held_of, claim_of}
use Rattle.store.specs.Store.{put_element}
use Rattle.names.specs.Names.{Bytes, name_of}
use Rattle.rules.specs.Calls.{new, work, read, rename, reset, new_pointer, write, next, prev, write_signed, next_signed, prev_signed, ask_begin, ask_end, ask_value, Request, opens, closes, abandons, uses}
use Rattle.rules.specs.Calls.{Run, writes, fills, tidy, Call, fresh, starts, arranges, on, runs}
use Rattle.rules.specs.Runs.{RunTold, no_run}
use Rattle.image.specs.Image.{form1, form2}
use Rattle.examples.specs.Holding.{Example, numbers, answers, gives, tells, saves, packs, moves}

-- ---- the examples; a user's calls are of user 2 by entry 0

abbrev pub asked : List Request → List Call
asked rs = map (on 2 0) rs

-- "lift 7" is 21 18 15 29 7 and seven 63s; "Lift" is empty
abbrev pub lift7 : Example
lift7 = numbers (name_of (108 ∷ 105 ∷ 102 ∷ 116 ∷ 32 ∷ 55 ∷ [])) (21 ∷ 18 ∷ 15 ∷ 29 ∷ 7 ∷ replicate 7 63)

abbrev pub lift : Example
lift = numbers (name_of (76 ∷ 105 ∷ 102 ∷ 116 ∷ [])) (replicate 12 63)

-- width 4, position 10, element 10, other bits zero: cell 1 is 0x0A000000
abbrev pub ten : Example
ten = numbers (put_element (replicate 64 0) 2 (segment 0) (position 10) 10) (0 ∷ 0x0A000000 ∷ replicate 62 0)

-- writing 300 in species 3 is 23, and nothing is stored (document 02, P5: "01's example with 300 changes so")
abbrev pub not_cut : Example
not_cut = answers segment_cells (starts fresh ∷ asked (opens (new 3) ∷ uses (write 1 300) ∷ uses (next 2) ∷ [])) (done 0 ∷ done 0 ∷ refused 23 ∷ refused 7 ∷ [])

-- width 32, b = 64, e = 66: two segments, claim 65; b = e = 65: none, claim 0
abbrev pub claims : Example
claims = numbers (held_of 5 64 66 ∷ claim_of 5 64 66 ∷ held_of 5 65 65 ∷ claim_of 5 65 65 ∷ []) (2 ∷ 65 ∷ 0 ∷ 0 ∷ [])

-- the last position of all, 4,294,967,294, alone (document 02, P6): one segment, and a claim of 3, which counts two positions beyond all ends
abbrev pub last_claim : Example
last_claim = numbers (held_of 5 4294967294 4294967295 ∷ claim_of 5 4294967294 4294967295 ∷ []) (1 ∷ 3 ∷ [])

-- append 10, 20 to a new file of species 5; prev through 1 gives 20, then 10, then refusal 6
abbrev pub appends : Example
appends =
    answers segment_cells (starts fresh ∷ asked (opens (new 5) ∷ uses (write 1 10) ∷ uses (write 1 20) ∷ uses (prev 1) ∷ uses (prev 1) ∷ uses (prev 1) ∷ []))
    (done 0 ∷ done 0 ∷ done 0 ∷ done 0 ∷ done 20 ∷ done 10 ∷ refused 6 ∷ [])

-- own pointer at e, work permit, file not empty: write is 7, prev delivers position e-1 and the length stays
abbrev pub own_pointer : Example
own_pointer =
    answers segment_cells
    (starts fresh ∷ asked
    (opens (new 5) ∷ uses (write 1 10) ∷ uses (write 1 20) ∷ uses (new_pointer 1) ∷ uses (write 3 30) ∷ uses (prev 3) ∷ uses ask_begin ∷ uses ask_end ∷ []))
    (done 0 ∷ done 0 ∷ done 0 ∷ done 0 ∷ done 3 ∷ refused 7 ∷ done 20 ∷ done 1 ∷ done 3 ∷ [])

-- fresh with 128 segments, saved: 0x02100000, then 960 zero cells (document 02, P6: "both saved images are form 2, with 0x02100000 first")
abbrev pub saved_fresh : Example
saved_fresh = saves (segment_cells * 128) (starts fresh ∷ []) (0x02100000 ∷ replicate 960 0)

-- that store with one private file "a" of user 2, species 5, b = 1, e = 2, segment 0: cells 0x02100000, 0x95FFFFFF, 0xFFFFFFFF, 0xFFAD0000,
-- 0x00010000, 0x00020000, then 955 zeros
abbrev pub bytes_of_a : Bytes
bytes_of_a = 97 ∷ []

abbrev pub makes_file_a : List Call
makes_file_a = asked (opens (new 5) ∷ uses (write 1 10) ∷ uses (rename bytes_of_a) ∷ closes false ∷ [])

abbrev pub image_with_a : Cells
image_with_a = 0x02100000 ∷ 0x95FFFFFF ∷ 0xFFFFFFFF ∷ 0xFFAD0000 ∷ 0x00010000 ∷ 0x00020000 ∷ replicate 955 0

abbrev pub saved_file : Example
saved_file = saves (segment_cells * 128) (starts fresh ∷ makes_file_a) image_with_a

-- "the cells printed in 01 stay true of form 1": 0x01100000, then 896 zero cells; and 0x01100000, 0x95FFFFFF, 0xFFFFFFFF, 0xFFAD0000, 0x01000002,
-- then 892 zeros
abbrev pub printed_fresh : Example
printed_fresh = packs form1 (segment_cells * 128) (starts fresh ∷ []) (0x01100000 ∷ replicate 896 0)

abbrev pub old_image_with_a : Cells
old_image_with_a = 0x01100000 ∷ 0x95FFFFFF ∷ 0xFFFFFFFF ∷ 0xFFAD0000 ∷ 0x01000002 ∷ replicate 892 0

abbrev pub printed_file : Example
printed_file = packs form1 (segment_cells * 128) (starts fresh ∷ makes_file_a) old_image_with_a

-- the one that is printed, moved up for a store of 128 segments, is the one that is saved; and back (document 02, P7)
abbrev pub moved_up : Example
moved_up = moves form1 form2 old_image_with_a 128 image_with_a

abbrev pub moved_down : Example
moved_down = moves form2 form1 image_with_a 128 old_image_with_a

-- file 10, 20 opened for work, prev through 1, append 99, abandon: read gives 10, 20
abbrev pub given_up : Example
given_up =
    answers (segment_cells * 2)
    (starts fresh ∷ asked
    (opens (new 5) ∷ uses (write 1 10) ∷ uses (write 1 20) ∷ uses (rename bytes_of_a) ∷ closes false
    ∷ opens (work bytes_of_a) ∷ uses (prev 1) ∷ uses (write 1 99) ∷ abandons
    ∷ opens (read bytes_of_a) ∷ uses (next 2) ∷ uses (next 2) ∷ []))
    (done 0 ∷ done 0 ∷ done 0 ∷ done 0 ∷ done 0 ∷ done 0 ∷ done 0 ∷ done 20 ∷ done 0 ∷ done 0 ∷ done 0 ∷ done 10 ∷ done 20 ∷ [])

-- ---- runs of elements (document 02, P1), of user 2 by entry 0

abbrev pub ran_by : Run → Call
ran_by r = runs 2 0 r

abbrev pub told : (stop : ℕ) (list : List ℕ) → RunTold
told n l = record { stop = n; list = l }

-- in a new file of species 3 a run of 44, 7, 9, 300, 8 through pointer 1 is done, 3, stopped by 23, and hands back 300, 8; after a reset five places
-- filled by next through pointer 2 are done, 3, stopped by 7: they have 44, 7, 9, and the two others are as they were; after a reset a run of 1, 2, 3, 4
-- through pointer 2 is done, 3, stopped by 7, and hands back 4; an empty run through pointer 5, which is not there, is refused, 4
abbrev pub makes_runs : List Call
makes_runs =
    starts fresh ∷ on 2 0 (opens (new 3)) ∷ ran_by (writes 1 (44 ∷ 7 ∷ 9 ∷ 300 ∷ 8 ∷ []))
    ∷ on 2 0 (uses reset) ∷ ran_by (fills 2 (91 ∷ 92 ∷ 93 ∷ 94 ∷ 95 ∷ []))
    ∷ on 2 0 (uses reset) ∷ ran_by (writes 2 (1 ∷ 2 ∷ 3 ∷ 4 ∷ []))
    ∷ ran_by (writes 5 []) ∷ []

abbrev pub runs_answered : Example
runs_answered = answers segment_cells makes_runs (done 0 ∷ done 0 ∷ done 3 ∷ done 0 ∷ done 3 ∷ done 0 ∷ done 3 ∷ refused 4 ∷ [])

abbrev pub runs_told : Example
runs_told =
    tells segment_cells makes_runs
    (no_run ∷ no_run ∷ told 23 (300 ∷ 8 ∷ []) ∷ no_run ∷ told 7 (44 ∷ 7 ∷ 9 ∷ 94 ∷ 95 ∷ []) ∷ no_run ∷ told 7 (4 ∷ []) ∷ told 4 [] ∷ [])

-- ---- where the work pointer starts (document 02, P2)

-- file "a" of 10, opened for work: pointer 2 stands at the end value, 2, and write through it is 7, so that the first element is not overwritten; 20
-- is appended through 1, and next through 2 gives it; after a reset it gives 10; closed, and opened for reading: pointer 2 stands at the begin value
abbrev pub starts_at_the_end : Example
starts_at_the_end =
    answers (segment_cells * 2)
    (starts fresh ∷ makes_file_a ++ asked
    (opens (work bytes_of_a) ∷ uses (ask_value 2) ∷ uses (write 2 99) ∷ uses (write 1 20) ∷ uses (next 2) ∷ uses reset ∷ uses (next 2) ∷ closes false
    ∷ opens (read bytes_of_a) ∷ uses (ask_value 2) ∷ uses (next 2) ∷ uses (next 2) ∷ []))
    (replicate 6 (done 0) ++ (done 2 ∷ refused 7 ∷ done 0 ∷ done 20 ∷ done 0 ∷ done 10 ∷ done 0 ∷ done 0 ∷ done 1 ∷ done 10 ∷ done 20 ∷ []))

-- ---- another's private file looks absent (document 02, P4)

abbrev pub bytes_of_b : Bytes
bytes_of_b = 98 ∷ []

-- file "a" of 10 is user 2's and private: to user 3 it is 11 for read and for work, as "b" is, which nobody has; its owner finds it, opens it for work
-- and closes it as public: now user 3 reads 10, and work is 13; user 2 makes it private again: it is 11
abbrev pub looks_absent : Example
looks_absent =
    answers (segment_cells * 2)
    (starts fresh ∷ makes_file_a
    ++ (on 3 0 (opens (read bytes_of_a)) ∷ on 3 0 (opens (work bytes_of_a)) ∷ on 3 0 (opens (read bytes_of_b))
    ∷ on 2 0 (opens (work bytes_of_a)) ∷ on 3 0 (opens (read bytes_of_a)) ∷ on 2 0 (closes true)
    ∷ on 3 0 (opens (read bytes_of_a)) ∷ on 3 0 (uses (next 2)) ∷ on 3 0 (closes false) ∷ on 3 0 (opens (work bytes_of_a))
    ∷ on 2 0 (opens (work bytes_of_a)) ∷ on 2 0 (closes false) ∷ on 3 0 (opens (read bytes_of_a)) ∷ []))
    (replicate 5 (done 0)
    ++ (refused 11 ∷ refused 11 ∷ refused 11
    ∷ done 0 ∷ refused 11 ∷ done 0
    ∷ done 0 ∷ done 10 ∷ done 0 ∷ refused 13
    ∷ done 0 ∷ done 0 ∷ refused 11 ∷ []))

-- ---- tidying (document 02, P13)

-- file "a" of 10 is in segment 0, "b" of 20 in segment 1; "a" is removed, so that segment 0 is free
abbrev pub removes_a : List Call
removes_a = makes_file_a ++ asked (opens (new 5) ∷ uses (write 1 20) ∷ uses (rename bytes_of_b) ∷ closes false ∷ opens (work bytes_of_a) ∷ uses (rename []) ∷ closes false ∷ [])

-- one segment goes to number 0, 64 cells are copied, and "b" reads 20
abbrev pub tidies : Example
tidies =
    answers (segment_cells * 3) (starts fresh ∷ (removes_a ++ arranges tidy ∷ asked (opens (read bytes_of_b) ∷ uses (next 2) ∷ [])))
    (done 0 ∷ (replicate 11 (done 0) ++ (done 64 ∷ done 0 ∷ done 20 ∷ [])))

-- ---- degrees below zero (document 02, P5): negsuc k is -(k + 1)

-- a new file of species 6 gets -5, and the ends of the range, 32,767 and -32,768; 32,768 is 23, and -32,769 too, through 0; the plain calls are 19, and
-- an empty run; next gives -5 and 32,767, prev through 1 gives -32,768; species 7 is 19, and in a file of species 5 the signed calls are, before 4
abbrev pub degrees : Example
degrees =
    gives segment_cells
    (starts fresh ∷ asked
    (opens (new 6) ∷ uses (write_signed 1 (negsuc 4)) ∷ uses (write_signed 1 (pos 32767)) ∷ uses (write_signed 1 (negsuc 32767))
    ∷ uses (write_signed 1 (pos 32768)) ∷ uses (write_signed 0 (negsuc 32768)) ∷ uses (write 1 5) ∷ uses (next 2) ∷ uses (prev 1) ∷ [])
    ++ (ran_by (writes 1 []) ∷ asked (uses (next_signed 2) ∷ uses (next_signed 2) ∷ uses (prev_signed 1) ∷ [])
    ++ (on 2 1 (opens (new 7)) ∷ on 2 1 (opens (new 5)) ∷ on 2 1 (uses (write_signed 1 (pos 5))) ∷ on 2 1 (uses (next_signed 9)) ∷ [])))
    (replicate 5 (done (pos 0))
    ++ (refused 23 ∷ refused 23 ∷ refused 19 ∷ refused 19 ∷ refused 19
    ∷ refused 19 ∷ done (negsuc 4) ∷ done (pos 32767) ∷ done (negsuc 32767)
    ∷ refused 19 ∷ done (pos 0) ∷ refused 19 ∷ refused 19 ∷ []))

abbrev pub worked : List Example
worked = lift7 ∷ lift ∷ ten ∷ not_cut ∷ claims ∷ last_claim ∷ appends ∷ own_pointer ∷ saved_fresh ∷ saved_file ∷ printed_fresh ∷ printed_file ∷ moved_up ∷ moved_down ∷ given_up ∷ runs_answered ∷ runs_told ∷ starts_at_the_end ∷ looks_absent ∷ tidies ∷ degrees ∷ []
