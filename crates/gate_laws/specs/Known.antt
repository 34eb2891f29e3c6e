-- What is known of an open entry of sound tables, whose opening was loaded. Assumes nothing.
use Rattle.std.specs.Prelude.{ℕ, ◌-◌, ◌%◌, ◌≤◌, ◌<◌, ◌≡◌, ◌≢◌, List, length}
use Rattle.std.proofs.Common.{sym, subst, arith}
use Rattle.placing.specs.Sizes.{places, user_of}
use Rattle.placing.specs.Placing.{held_of}
use Rattle.tables.specs.declared.Opening.{Opening}
use Rattle.tables.specs.Layout.{segments_in, opening_at}
use Rattle.tables.specs.Fields.{value_of, number_at, record_for}
use Rattle.tables.specs.Laws.Sound.{Ranged}
use Rattle.tables.specs.Laws.RecordFacts.{SoundRecord, record-facts}
use Rattle.opening_laws.specs.Back.{OpenFile}
use Rattle.opening_laws.specs.Open.{open-file}
use Rattle.gate_laws.specs.Behind.{reached-open}
use Rattle.gate_laws.specs.Standing.{Standing, standing-reached, standing-ranged, standing-long, standing-entry, standing-fits, standing-facts}

-- an opening of sound tables: its segments are in range, and its record is there
pub record Known (t : List ℕ) (o : Opening) : Type 0 where
  pub ranged : Ranged t
  pub file : OpenFile o
  pub range : (k : ℕ) → k < held_of o.species (value_of o 0) (value_of o 1) → number_at o.segments k < segments_in t
  pub placed : o.place ≤ places
  pub filed : o.place ≢ 0 → SoundRecord (segments_in t) (record_for t o)

module _ (s t : List ℕ) (i : ℕ) (w : Standing (length s) t i) where
  file-there : OpenFile (opening_at t i)
  file-there =
      let r = standing-reached w in
      let p = r.passed in
      subst (λ (k : ℕ). OpenFile (opening_at t k)) (sym p.which) (open-file s t (user_of i) (i % 4) p.sound p.user p.entry (reached-open r))

  record-there : (opening_at t i).place ≢ 0 → SoundRecord (segments_in t) (record_for t (opening_at t i))
  record-there d =
      let f = standing-facts w in
      record-facts t (segments_in t) (standing-ranged w).1 ((opening_at t i).place - 1) (let l = f.place in omega arith) (f.existing d)

  known-there : Known t (opening_at t i)
  known-there = let f = standing-facts w in record { ranged = standing-ranged w; file = file-there; range = f.list.in_range; placed = f.place; filed = record-there }

  -- the opening that was loaded
  module _ (o : Opening) (eo : o ≡ opening_at t i) where
    pub standing-known : Known t o
    standing-known = subst (Known t) (sym eo) known-there

    pub standing-file : OpenFile o
    standing-file = standing-known.file

-- what the steps of a use ask
pub ruleset standing = (standing-long, standing-entry, standing-fits, standing-known, standing-file)
