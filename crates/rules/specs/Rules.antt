-- "Opening, closing, abandoning", and the rule of every request: which refusal, or which effect. u is the user, rs the headings of the
-- catalogue's places. Assumes nothing.
use Rattle.std.specs.Prelude.{ℕ, Bool, true, false, not, ◌&&◌, ◌||◌, cond, List, ◌∷◌, leb, ltb, eqb, length, get_or, set, replicate}
use Rattle.std.proofs.Math.Option.{Option, none, some}
use Rattle.combine.specs.Lists.{any, first_where, same}
use Rattle.combine.specs.Verdict.{Verdict, refused, done, on_done, refuse◌when◌else◌}
use Rattle.placing.specs.Sizes.{greatest_species, own_pointers}
use Rattle.names.specs.Names.{Symbols, name_of, scratch_name, is_scratch}
use Rattle.rules.specs.Calls.{Way, new, work, read, Request, opens, closes, abandons, uses}
use Rattle.rules.specs.Headings.{Heading, Handle, value, passes, is_some}
use Rattle.rules.specs.Effects.{Effect, opens_new, opens_old, ended, unfiled, filed, used, Others}
use Rattle.rules.specs.Access.{acting}

-- ---- the catalogue

abbrev pub has_name : (name : Symbols) → Heading → Bool
has_name n r = same r.name n

abbrev pub is_own : (user : ℕ) (name : Symbols) → Heading → Bool
is_own u n r = eqb r.owner u && has_name n r

abbrev pub is_public : (name : Symbols) → Heading → Bool
is_public n r = not r.private && has_name n r

-- "Look-up takes the user's own record of that name first, then a public one": its place; the number of places, where there is neither
unfoldable pub look_up : (user : ℕ) (name : Symbols) (catalogue : List (Option Heading)) → ℕ
look_up u n rs =
    let own = first_where (passes (is_own u n)) rs in
    cond (ltb own (length rs)) own (first_where (passes (is_public n)) rs)

-- ---- opening: "Order: 20, 1, 2, then for an opening 3, then 19 (new) or 15, 11/12/13, 14 (old)", of which document 02's P4 took the 12

-- "New makes an empty scratch file with work permit."; "It starts with b = e = 1."
abbrev pub new_handle : (species : ℕ) → Handle
new_handle s = record { place = none; permit = true; name = scratch_name; species = s; pointers = 1 ∷ 1 ∷ 1 ∷ replicate own_pointers 0 }

unfoldable pub open_new : (species : ℕ) → Verdict Effect
open_new s =
    refuse 19 when ltb greatest_species s else
    done (opens_new (new_handle s))

-- where the work pointer of an old file starts, of its begin and its end: "From now on a work opening of an old file puts pointer 2 at the end value;
-- new and read openings stay as in 01", and there "the work pointer stands at the begin value"
abbrev pub work_start : {A : Type 0} → (for_work : Bool) (begin end : A) → A
work_start true b e = e
work_start false b e = b

-- w says that the file is opened for work
unfoldable pub opened_as : (for_work : Bool) (place : ℕ) → Heading → Handle
opened_as w p r =
    record { place = some p; permit = w; name = r.name; species = r.species; pointers = r.begin ∷ r.end ∷ work_start w r.begin r.end ∷ replicate own_pointers 0 }

-- "Then 14: for work, if any opening of that record exists; for read, if a work opening of it exists."
abbrev pub busy : (for_work : Bool) (place : ℕ) → Others → Bool
busy true p o = o.opened p
busy false p o = o.worked p

-- at the place p that look-up found, with no record where it found none: "A file that is another's and private must look absent: 11 in place of
-- 12, for read and for work"; "Work on another's public file: 13."
abbrev pub open_record : (for_work : Bool) (user place : ℕ) → Option Heading → Others → Verdict Effect
open_record w u p none o = refused 11
open_record w u p (some r) o =
    refuse 13 when w && not (eqb r.owner u) else
    refuse 14 when busy w p o else
    done (opens_old p (opened_as w p r))

unfoldable pub open_old : (for_work : Bool) (user : ℕ) (name : Symbols) (catalogue : List (Option Heading)) → Others → Verdict Effect
open_old w u n rs o =
    let p = look_up u n rs in
    refuse 15 when is_scratch n else
    open_record w u p (get_or rs p none) o

-- "Work and read open a permanent file by name."
abbrev pub open_way : Way → (user : ℕ) (catalogue : List (Option Heading)) → Others → Verdict Effect
open_way (new s) u rs o = open_new s
open_way (work bytes) u rs o = open_old true u (name_of bytes) rs o
open_way (read bytes) u rs o = open_old false u (name_of bytes) rs o

-- ---- "Close, private or public": "for close 18, 16, 17"

-- "Otherwise name, privacy, species, begin, end and segments become the record, a new file in the lowest free place, and replaced segments
-- become free": the record's heading
unfoldable pub headed : (public : Bool) (user : ℕ) → Handle → Heading
headed public u h = record { owner = u; name = h.name; private = not public; species = h.species; begin = value h 0; end = value h 1 }

-- the other records
abbrev pub without : (catalogue : List (Option Heading)) (place : Option ℕ) → List (Option Heading)
without rs none = rs
without rs (some p) = set rs p none

-- its place; the number of places, where none is free
abbrev pub place_for : (catalogue : List (Option Heading)) (place : Option ℕ) → ℕ
place_for rs none = first_where (λ r. not (is_some r)) rs
place_for rs (some p) = p

-- "New scratch: the file vanishes. Old work renamed to scratch: its record and all segments are freed."
abbrev pub vanish : (place : Option ℕ) → Effect
vanish none = ended
vanish (some p) = unfiled p

-- "16 is given exactly if the close would write a record and another record has the same owner and name, or public is asked and another
-- public record has the name."; "Read: the opening ends."
unfoldable pub close_rule : (public : Bool) (user : ℕ) (catalogue : List (Option Heading)) → Handle → Verdict Effect
close_rule public u rs h =
    let scratch = is_scratch h.name in
    let files = h.permit && not scratch in
    let others = without rs h.place in
    let p = place_for rs h.place in
    refuse 18 when public && (not h.permit || scratch) else
    refuse 16 when files && (any (passes (is_own u h.name)) others || public && any (passes (is_public h.name)) others) else
    refuse 17 when files && leb (length rs) p else
    done (cond files (filed p (headed public u h)) (cond h.permit (vanish h.place) ended))

-- ---- the rule of a request, by the entry's handle: 3 where the entry is open at an opening, 2 where it is not open and must be;
-- "Abandon: the opening ends, segments listed only by it become free, the record is untouched."

abbrev pub rule : Request → (user : ℕ) (catalogue : List (Option Heading)) (entry : Option Handle) (takes : ℕ → Bool) → Others → Verdict Effect
rule (opens w) u rs none takes o = open_way w u rs o
rule (opens w) u rs (some h) takes o = refused 3
rule (closes public) u rs none takes o = refused 2
rule (closes public) u rs (some h) takes o = close_rule public u rs h
rule abandons u rs none takes o = refused 2
rule abandons u rs (some h) takes o = done ended
rule (uses a) u rs none takes o = refused 2
rule (uses a) u rs (some h) takes o = on_done used (acting a takes o.room h)
