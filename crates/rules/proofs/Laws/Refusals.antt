-- "12 is never given again": no rule of a request and no gate refuses by it. Assumes nothing.
use Rattle.std.specs.Prelude.{ℕ, Bool, true, false, List, map, get_or}
use Rattle.std.proofs.Math.Option.{Option, none, some}
use Rattle.combine.specs.Verdict.{Verdict, refuse◌when◌else◌}
use Rattle.combine.specs.Laws.Verdict.{Refuses, refuses, refuses-on_done}
use Rattle.placing.specs.Sizes.{entry_of}
use Rattle.names.specs.Names.{name_of}
use Rattle.rules.specs.Calls.{Way, new, work, read, Request, opens, closes, abandons, uses, Run, writes, fills}
use Rattle.rules.specs.Calls.{Act, rename, reset, new_pointer, delete_pointer, write, next, prev, write_signed, next_signed, prev_signed, ask_species, ask_claim, ask_permit, ask_symbol, ask_begin, ask_end, ask_value}
use Rattle.rules.specs.Headings.{Heading, Handle, Open, head_of, handle_of}
use Rattle.rules.specs.Effects.{used, Others}
use Rattle.rules.specs.Access.{write_rule, next_rule, prev_rule, new_pointer_rule, delete_pointer_rule, value_rule, rename_rule, acting}
use Rattle.rules.specs.Rules.{look_up, open_new, open_record, open_old, open_way, close_rule, rule}
use Rattle.rules.specs.Gates.{user_gate, start_gate, image_gate, still_gate}
use Rattle.rules.specs.Laws.Gates.{gate-refuses}
use Rattle.rules.specs.House.{House, others_of}
use Rattle.rules.specs.Levels.{Level, ruled, or_blank}
use Rattle.rules.specs.Runs.{admits, admission}
use Rattle.rules.specs.Laws.Refusals.{Not12}

-- one refusal more along a chain
spares : {S : Type 0} (n : ℕ) (b : Bool) (v : Verdict S) → Not12 n → Refuses Not12 v → Refuses Not12 (refuse n when b else v)
spares = refuses Not12

-- ---- gates

module _ {S : Type 0} (v : Verdict S) (h : Refuses Not12 v) where
  pub user-gate-spares : (sound : Bool) (u : ℕ) → Refuses Not12 (user_gate sound u v)
  unfolding user_gate
  user-gate-spares sound u = spares 20 _ _ tt (spares 1 _ _ tt h)

  pub start-gate-spares : (fit : Bool) → Refuses Not12 (start_gate fit v)
  unfolding start_gate
  start-gate-spares fit = spares 20 _ _ tt h

  pub image-gate-spares : (fit image : Bool) → Refuses Not12 (image_gate fit image v)
  unfolding image_gate start_gate
  image-gate-spares fit image = spares 20 _ _ tt (spares 22 _ _ tt h)

  pub still-gate-spares : (sound busy : Bool) → Refuses Not12 (still_gate sound busy v)
  unfolding still_gate start_gate
  still-gate-spares sound busy = spares 20 _ _ tt (spares 14 _ _ tt h)

-- ---- acts

write-spares : (p : ℕ) (signed wide : Bool) (n : ℕ) (takes : ℕ → Bool) (room : Bool) (h : Handle) → Refuses Not12 (write_rule p signed wide n takes room h)
unfolding write_rule
write-spares p signed wide n takes room h =
    spares 19 _ _ tt (spares 4 _ _ tt (spares 5 _ _ tt (spares 6 _ _ tt (spares 7 _ _ tt (spares 23 _ _ tt (spares 10 _ _ tt (spares 8 _ _ tt (spares 9 _ _ tt tt))))))))

next-spares : (signed : Bool) (p : ℕ) (h : Handle) → Refuses Not12 (next_rule signed p h)
unfolding next_rule
next-spares signed p h = spares 19 _ _ tt (spares 4 _ _ tt (spares 5 _ _ tt (spares 6 _ _ tt (spares 7 _ _ tt tt))))

prev-spares : (signed : Bool) (p : ℕ) (h : Handle) → Refuses Not12 (prev_rule signed p h)
unfolding prev_rule
prev-spares signed p h = spares 19 _ _ tt (spares 4 _ _ tt (spares 5 _ _ tt (spares 6 _ _ tt (spares 7 _ _ tt tt))))

acting-spares : (a : Act) (takes : ℕ → Bool) (room : Bool) (h : Handle) → Refuses Not12 (acting a takes room h)
unfolding rename_rule new_pointer_rule delete_pointer_rule value_rule
acting-spares (rename bytes) takes room h = spares 5 _ _ tt tt
acting-spares reset takes room h = tt
acting-spares (new_pointer p) takes room h = spares 4 _ _ tt (spares 21 _ _ tt tt)
acting-spares (delete_pointer p) takes room h = spares 4 _ _ tt tt
acting-spares (write p n) takes room h = write-spares p false _ n takes room h
acting-spares (next p) takes room h = next-spares false p h
acting-spares (prev p) takes room h = prev-spares false p h
acting-spares (write_signed p z) takes room h = write-spares p true _ _ takes room h
acting-spares (next_signed p) takes room h = next-spares true p h
acting-spares (prev_signed p) takes room h = prev-spares true p h
acting-spares ask_species takes room h = tt
acting-spares ask_claim takes room h = tt
acting-spares ask_permit takes room h = tt
acting-spares (ask_symbol k) takes room h = tt
acting-spares ask_begin takes room h = tt
acting-spares ask_end takes room h = tt
acting-spares (ask_value p) takes room h = spares 4 _ _ tt tt

-- ---- requests

record-spares : (w : Bool) (u p : ℕ) (r : Option Heading) (o : Others) → Refuses Not12 (open_record w u p r o)
record-spares w u p none o = tt
record-spares w u p (some r) o = spares 13 _ _ tt (spares 14 _ _ tt tt)

old-spares : (w : Bool) (u : ℕ) (n : List ℕ) (rs : List (Option Heading)) (o : Others) → Refuses Not12 (open_old w u n rs o)
unfolding open_old
old-spares w u n rs o = spares 15 _ _ tt (record-spares w u (look_up u n rs) (get_or rs (look_up u n rs) none) o)

way-spares : (w : Way) (u : ℕ) (rs : List (Option Heading)) (o : Others) → Refuses Not12 (open_way w u rs o)
unfolding open_new
way-spares (new s) u rs o = spares 19 _ _ tt tt
way-spares (work bytes) u rs o = old-spares true u (name_of bytes) rs o
way-spares (read bytes) u rs o = old-spares false u (name_of bytes) rs o

close-spares : (public : Bool) (u : ℕ) (rs : List (Option Heading)) (h : Handle) → Refuses Not12 (close_rule public u rs h)
unfolding close_rule
close-spares public u rs h = spares 18 _ _ tt (spares 16 _ _ tt (spares 17 _ _ tt tt))

rule-spares : (r : Request) (u : ℕ) (rs : List (Option Heading)) (x : Option Handle) (takes : ℕ → Bool) (o : Others) → Refuses Not12 (rule r u rs x takes o)
rule-spares (opens w) u rs none takes o = way-spares w u rs o
rule-spares (opens w) u rs (some h) takes o = tt
rule-spares (closes public) u rs none takes o = tt
rule-spares (closes public) u rs (some h) takes o = close-spares public u rs h
rule-spares abandons u rs none takes o = tt
rule-spares abandons u rs (some h) takes o = tt
rule-spares (uses a) u rs none takes o = tt
rule-spares (uses a) u rs (some h) takes o = refuses-on_done Not12 used (acting a takes o.room h) (acting-spares a takes o.room h)

pub ruled-spares : {C B : Type 0} (L : Level C B) (r : Request) (u : ℕ) (h : House C B) (x : Option (Open B)) → Refuses Not12 (ruled L r u h x)
ruled-spares L r u h x = rule-spares r u (map head_of h.records) (handle_of x) (L.takes h (or_blank L x)) (others_of (L.room h) h.openings)

-- ---- runs, before their first element

admits-spares : (r : Run) (x : Option Handle) → Refuses Not12 (admits r x)
admits-spares (writes p l) none = tt
admits-spares (fills p l) none = tt
admits-spares (writes p l) (some h) = spares 19 _ _ tt (spares 4 _ _ tt (spares 5 _ _ tt tt))
admits-spares (fills p l) (some h) = spares 19 _ _ tt (spares 4 _ _ tt (spares 5 _ _ tt tt))

pub admission-spares : {C B : Type 0} (sound : Bool) (r : Run) (u e : ℕ) (h : House C B) → Refuses Not12 (admission sound r u e h)
admission-spares sound r u e h =
    let there = handle_of (get_or h.openings (entry_of u e) none) in
    gate-refuses Not12 tt tt tt (admits r there) (admits-spares r there) sound u e
