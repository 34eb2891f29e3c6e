-- How a level of description performs an effect: what it does by itself, and what all levels do alike. Assumes nothing.
use Rattle.std.specs.Prelude.{ℕ, Bool, false, [], map, get_or}
use Rattle.std.proofs.Math.Option.{Option, none, some}
use Rattle.combine.specs.Verdict.{Verdict}
use Rattle.rules.specs.Calls.{Request}
use Rattle.rules.specs.Headings.{Handle, Filed, Open, filing, opening, head_of, handle_of}
use Rattle.rules.specs.Effects.{Deed, Delivered, Effect, opens_new, opens_old, ended, unfiled, filed, used}
use Rattle.rules.specs.Rules.{rule}
use Rattle.rules.specs.House.{House, others_of, kept, becomes, Change, change}

-- a level has contents of its own: C in a record, B in an opening
pub record Level (C B : Type 0) : Type 0 where
  -- a segment is free; to store at a position of the opening takes one
  pub room : House C B → Bool
  pub takes : House C B → Open B → ℕ → Bool
  -- the content of a new file; of a record that is opened; of an opening that becomes a record
  pub empty : B
  pub shown : Handle → Option (Filed C) → B
  pub filed_as : B → C
  -- the content of an opening after a deed, where the handle is the new one; the number of an answer
  pub after : House C B → Open B → Handle → Deed → B
  pub says : Open B → Delivered → ℕ

-- what stands for the handle of a closed entry
abbrev pub blank : Handle
blank = record { place = none; permit = false; name = []; species = 0; pointers = [] }

module _ {C B : Type 0} (L : Level C B) where
  abbrev pub or_blank : Option (Open B) → Open B
  or_blank none = opening blank L.empty
  or_blank (some x) = x

  -- the effect, at an entry with the opening x
  abbrev pub perform : House C B → Open B → Effect → Change C B
  perform h x (opens_new n) = change 0 kept (some (opening n L.empty))
  perform h x (opens_old p n) = change 0 kept (some (opening n (L.shown n (get_or h.records p none))))
  perform h x ended = change 0 kept none
  perform h x (unfiled p) = change 0 (becomes p none) none
  perform h x (filed p r) = change 0 (becomes p (some (filing r (L.filed_as x.content)))) none
  perform h x (used u) = change (L.says x u.told) kept (some (opening u.handle (L.after h x u.handle u.deed)))

  -- the rule of a request of user u, whose entry is x
  abbrev pub ruled : Request → (user : ℕ) → House C B → (entry : Option (Open B)) → Verdict Effect
  ruled r u h x = rule r u (map head_of h.records) (handle_of x) (L.takes h (or_blank x)) (others_of (L.room h) h.openings)
