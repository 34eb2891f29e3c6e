-- An open entry of sound tables: t are the tables beside a store of so many cells, i is an entry of 32. It is known behind the gate, and a use
-- of the entry asks no more. Assumes nothing.
use Rattle.std.specs.Prelude.{ℕ, ◌*◌, ◌%◌, ◌≤◌, ◌<◌, ◌≡◌, true, List, length}
use Rattle.std.proofs.Common.{arith, leb-true}
use Rattle.combine.specs.Laws.Rows.{each_of}
use Rattle.placing.specs.Sizes.{segment_cells, tables_length, entries, user_of}
use Rattle.tables.specs.Layout.{segments_in, opening_at}
use Rattle.tables.specs.Fields.{is_open}
use Rattle.tables.specs.Sound.{soundb, numberb}
use Rattle.tables.specs.Laws.Sound.{Ranged, ranged-of}
use Rattle.tables.specs.Laws.OpeningFacts.{SoundOpening, opening-facts}
use Rattle.gate.specs.Passed.{Reached}

pub record Standing (cells : ℕ) (t : List ℕ) (i : ℕ) : Type 0 where
  pub sound : soundb cells t ≡ true
  pub entry : i < entries
  pub there : is_open (opening_at t i) ≡ true

-- "A number fits a store of at least 64 times as many cells"
number_fits : (cells : ℕ) (t : List ℕ) → soundb cells t ≡ true → segments_in t * segment_cells ≤ cells
unfolding soundb numberb
number_fits cells t ok =
    let n = each_of _ (each_of _ ok).1.1.1.1.0 in
    let l = leb-true (segment_cells * segments_in t) cells n.1.1.0 in
    omega arith

module _ {cells : ℕ} {t : List ℕ} {u e i : ℕ} where
  pub reached-standing : Reached cells t u e i → Standing cells t i
  reached-standing r = let p = r.passed in record { sound = p.sound; entry = omega arith; there = r.there }

module _ {cells : ℕ} {t : List ℕ} {i : ℕ} (w : Standing cells t i) where
  -- the user, and the name that he gives it
  pub standing-reached : Reached cells t (user_of i) (i % 4) i
  standing-reached =
      let l = w.entry in
      record { passed = record { sound = w.sound; user = omega arith; entry = omega arith; which = omega arith }; there = w.there }

  pub standing-ranged : Ranged t
  standing-ranged = ranged-of cells t w.sound

  pub standing-long : length t ≡ tables_length
  standing-long = standing-ranged.0

  pub standing-entry : i < entries
  standing-entry = w.entry

  pub standing-fits : segments_in t * segment_cells ≤ cells
  standing-fits = number_fits cells t w.sound

  pub standing-facts : SoundOpening t i (opening_at t i)
  standing-facts = opening-facts t standing-ranged.2 i w.entry w.there
