-- "Pointers and access", renaming and inquiries: the refusals of each act in document 01's order, and what it does. Assumes nothing.
use Rattle.std.specs.Prelude.{ℕ, ◌+◌, ◌-◌, Bool, true, false, not, ◌&&◌, ◌||◌, cond, leb, ltb, eqb, get_or, drop}
use Rattle.combine.specs.Lists.{first_where}
use Rattle.combine.specs.Verdict.{Verdict, done, refuse◌when◌else◌}
use Rattle.placing.specs.Sizes.{most_held, greatest_end, first_own_pointer, greatest_pointer}
use Rattle.placing.specs.Placing.{held_of, claim_of}
use Rattle.numbers.specs.declared.Number.{Number}
use Rattle.numbers.specs.declared.Number.TheVariants.{Plain, Signed}
use Rattle.numbers.specs.Numbers.{is_foreign, is_signed, too_wide, bits_of}
use Rattle.names.specs.Names.{Symbols, name_of}
use Rattle.rules.specs.Calls.{Act, rename, reset, new_pointer, delete_pointer, write, next, prev, write_signed, next_signed, prev_signed, ask_species, ask_claim, ask_permit, ask_symbol, ask_begin, ask_end, ask_value}
use Rattle.rules.specs.Headings.{Handle, value, moved, named}
use Rattle.rules.specs.Effects.{stays, first_leaves, last_leaves, stores, plain, element, Use, does}

-- ---- "for a pointer call 4, 5, 6, 7, 10, 8, 9, 21": "Let v be the value of pointer p."; "Write always, next through 0 and prev through 1
-- need the work permit."

-- "4, 5": what also judges a run of no element; document 02, P5: 19, "after 2 and before 4"; needs says that the permit is needed
abbrev pub pointer_gate : {S : Type 0} → (signed : Bool) (pointer : ℕ) (needs : Bool) → Handle → Verdict S → Verdict S
pointer_gate signed p needs h v =
    refuse 19 when is_foreign signed h.species else
    refuse 4 when eqb (value h p) 0 else
    refuse 5 when needs && not h.permit else
    v

-- "Write: v < b is 6; p not 1 and v >= e is 7. Through 1: append, e grows by 1. Through 0: the first element is dropped, no segment is taken
-- and no store cell changes. Else position v is replaced. v grows by 1."; "An append refused for 10: e is 16,777,215."; document 02, P6: "Refusal
-- 10 now stands at that end value", 4,294,967,295; P5: a number that is too wide "is now refused, number 23, after 7 and before 10, through any pointer"
-- `takes v` says that to store at position v takes a segment
unfoldable pub write_rule : (pointer : ℕ) (signed wide : Bool) (bits : ℕ) (takes : ℕ → Bool) (room : Bool) → Handle → Verdict Use
write_rule p signed wide n takes room h =
    let v = value h p in
    let b = value h 0 in
    let e = value h 1 in
    pointer_gate signed p true h (
    refuse 6 when ltb v b else
    refuse 7 when not (eqb p 1) && leb e v else
    refuse 23 when wide else
    refuse 10 when eqb p 1 && leb greatest_end v else
    refuse 8 when eqb p 1 && ltb most_held (held_of h.species b (v + 1)) else
    refuse 9 when not (eqb p 0) && takes v && not room else
    done (does (plain 0) (moved h p (v + 1)) (cond (eqb p 0) first_leaves (stores v n))))

-- of a number, plain or signed
abbrev pub write_number : (pointer : ℕ) → Number → (takes : ℕ → Bool) (room : Bool) → Handle → Verdict Use
write_number p n takes room h = write_rule p (is_signed n) (too_wide h.species n) (bits_of n) takes room h

-- "Next: v < b is 6, v >= e is 7. Delivers position v, v grows. Through 0 the element leaves the file."
unfoldable pub next_rule : (signed : Bool) (pointer : ℕ) → Handle → Verdict Use
next_rule signed p h =
    let v = value h p in
    let b = value h 0 in
    let e = value h 1 in
    pointer_gate signed p (eqb p 0) h (
    refuse 6 when ltb v b else
    refuse 7 when leb e v else
    done (does (element v) (moved h p (v + 1)) (cond (eqb p 0) first_leaves stays)))

-- "Prev: v <= b is 6, v > e is 7. v falls by 1, delivers that position. Through 1 the element leaves the file."
unfoldable pub prev_rule : (signed : Bool) (pointer : ℕ) → Handle → Verdict Use
prev_rule signed p h =
    let v = value h p in
    let b = value h 0 in
    let e = value h 1 in
    pointer_gate signed p (eqb p 1) h (
    refuse 6 when leb v b else
    refuse 7 when ltb e v else
    done (does (element (v - 1)) (moved h p (v - 1)) (cond (eqb p 1) last_leaves stays)))

-- "A new own pointer takes the lowest free name, which is the answer, and the value of a given pointer."
unfoldable pub new_pointer_rule : (pointer : ℕ) → Handle → Verdict Use
new_pointer_rule p h =
    let q = first_own_pointer + first_where (eqb 0) (drop first_own_pointer h.pointers) in
    refuse 4 when eqb (value h p) 0 else
    refuse 21 when ltb greatest_pointer q else
    done (does (plain q) (moved h q (value h p)) stays)

-- "Only 3 to 7 can be deleted."
unfoldable pub delete_pointer_rule : (pointer : ℕ) → Handle → Verdict Use
delete_pointer_rule p h =
    refuse 4 when eqb (value h p) 0 || ltb p first_own_pointer else
    done (does (plain 0) (moved h p 0) stays)

unfoldable pub value_rule : (pointer : ℕ) → Handle → Verdict Use
value_rule p h =
    refuse 4 when eqb (value h p) 0 else
    done (does (plain (value h p)) h stays)

-- ---- "for rename 5": "Renaming (needs the work permit) changes the opening's name only."

unfoldable pub rename_rule : (name : Symbols) → Handle → Verdict Use
rename_rule n h =
    refuse 5 when not h.permit else
    done (does (plain 0) (named h n) stays)

-- ---- all acts

abbrev pub asked : (number : ℕ) → Handle → Verdict Use
asked n h = done (does (plain n) h stays)

-- "Reset puts pointer 2 at the begin value."; "Inquiries: species, claim, work permit (1 or 0), symbol k of the name (k from 0; 63 for k of 12
-- or more), begin, end, value of a pointer"
abbrev pub acting : Act → (takes : ℕ → Bool) (room : Bool) → Handle → Verdict Use
acting (rename bytes) takes room h = rename_rule (name_of bytes) h
acting reset takes room h = done (does (plain 0) (moved h 2 (value h 0)) stays)
acting (new_pointer p) takes room h = new_pointer_rule p h
acting (delete_pointer p) takes room h = delete_pointer_rule p h
acting (write p n) takes room h = write_number p (Plain n) takes room h
acting (next p) takes room h = next_rule false p h
acting (prev p) takes room h = prev_rule false p h
acting (write_signed p z) takes room h = write_number p (Signed z) takes room h
acting (next_signed p) takes room h = next_rule true p h
acting (prev_signed p) takes room h = prev_rule true p h
acting ask_species takes room h = asked h.species h
acting ask_claim takes room h = asked (claim_of h.species (value h 0) (value h 1)) h
acting ask_permit takes room h = asked (cond h.permit 1 0) h
acting (ask_symbol k) takes room h = asked (get_or h.name k 63) h
acting ask_begin takes room h = asked (value h 0) h
acting ask_end takes room h = asked (value h 1) h
acting (ask_value p) takes room h = value_rule p h
