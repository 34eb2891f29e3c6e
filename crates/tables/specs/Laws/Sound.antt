-- Laws of tables/specs/Sound.antt. Assumes nothing.
use Rattle.std.specs.Prelude.{ℕ, ◌*◌, ◌≤◌, ◌≡◌, true, List, length}
use Rattle.std.proofs.Common.{eqb-true, leb-true}
use Rattle.combine.specs.Laws.Rows.{each_of}
use Rattle.placing.specs.Sizes.{most_segments, segment_cells, tables_length}
use Rattle.tables.specs.Layout.{segments_in}
use Rattle.tables.specs.Records.{recordsb}
use Rattle.tables.specs.Openings.{openingsb}
use Rattle.tables.specs.Sound.{numberb, soundb}

-- records and openings are sound, so that every list is in range: what a search through the lists rests on
abbrev pub Ranged : List ℕ → Type 0
Ranged t = (length t ≡ tables_length) × (recordsb t (segments_in t) ≡ true) × (openingsb t ≡ true) × (segments_in t ≤ most_segments)

pub ranged-of : (cells : ℕ) (t : List ℕ) → soundb cells t ≡ true → Ranged t
unfolding soundb numberb
ranged-of cells t ok =
    let f = each_of _ ok in
    let n = each_of _ f.1.1.1.1.0 in
    (eqb-true (length t) tables_length f.0, f.1.0, f.1.1.0, leb-true (segments_in t) most_segments n.1.0)

-- "A number fits a store of at least 64 times as many cells"
pub fits-store : (cells : ℕ) (t : List ℕ) → soundb cells t ≡ true → segment_cells * segments_in t ≤ cells
unfolding soundb numberb
fits-store cells t ok = leb-true (segment_cells * segments_in t) cells (each_of _ (each_of _ ok).1.1.1.1.0).1.1.0
