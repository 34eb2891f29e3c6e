-- An open entry of sound tables is as the laws of deeds ask. Assumes nothing.
use Rattle.std.specs.Prelude.{ℕ, ◌≤◌, ◌≡◌, true, false, List, eqb, length}
use Rattle.std.proofs.Common.{ap, arith, eqb-true, leb-true}
use Rattle.combine.specs.Laws.Below.{all-at}
use Rattle.combine.specs.Laws.Rows.{each_of}
use Rattle.placing.specs.Sizes.{greatest_user, greatest_entry, entries, entry_of, greatest_species, greatest_end, most_held}
use Rattle.placing.specs.Placing.{held_of}
use Rattle.tables.specs.Layout.{opening_at}
use Rattle.tables.specs.Fields.{is_open, value_of}
use Rattle.tables.specs.Records.{extentb}
use Rattle.tables.specs.Openings.{openb, openingb, openingsb}
use Rattle.tables.specs.Laws.Put.{opening-shaped-at}
use Rattle.tables.specs.Laws.Sound.{ranged-of}
use Rattle.cells.specs.Outcomes.{sound_lent}
use Rattle.cells.specs.Laws.Entered.{open-determined}
use Rattle.opening_laws.specs.Back.{OpenFile}

open-extent : (t : List ℕ) (k : ℕ) → openingb t k ≡ true → is_open (opening_at t k) ≡ true
    → let o = opening_at t k in extentb o.species (value_of o 0) (value_of o 1) ≡ true
unfolding openingb openb
open-extent t k ok there =
    let z : eqb (opening_at t k).opened 0 ≡ false = ap (λ (n : ℕ). eqb n 0) (eqb-true (opening_at t k).opened 1 there) in
    (each_of _ (rw z at ok)).1.1.1.1.1.0

pub open-file : (s t : List ℕ) (u e : ℕ) → sound_lent s t ≡ true → u ≤ greatest_user → e ≤ greatest_entry → is_open (opening_at t (entry_of u e)) ≡ true
    → OpenFile (opening_at t (entry_of u e))
unfolding openingsb extentb
open-file s t u e sound lu le there =
    let i = entry_of u e in
    let o = opening_at t i in
    let ranged = ranged-of (length s) t sound in
    let shape = opening-shaped-at t ranged.0 i (omega arith) in
    let f = each_of _ (open-extent t i (all-at (openingb t) entries ranged.2 i (omega arith)) there) in
    record {
      opened = eqb-true o.opened 1 there;
      species = leb-true o.species greatest_species f.0;
      first = leb-true 1 (value_of o 0) f.1.0;
      order = leb-true (value_of o 0) (value_of o 1) f.1.1.0;
      last = leb-true (value_of o 1) greatest_end f.1.1.1.0;
      few = leb-true (held_of o.species (value_of o 0) (value_of o 1)) most_held f.1.1.1.1.0;
      pointers8 = shape.pointers8;
      segments32 = shape.segments32;
      determined = open-determined s t u e sound lu le there;
    }
