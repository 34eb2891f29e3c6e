-- Cells that say what is sound, each record and opening being what is written for what it says, are sound tables. Assumes nothing.
use Rattle.std.specs.Prelude.{ℕ, ◌*◌, ◌≤◌, ◌≡◌, true, List, length}
use Rattle.std.proofs.Common.{le-leb, eq-eqb}
use Rattle.placing.specs.Sizes.{segment_cells, most_segments, tables_length}
use Rattle.segments.specs.Laws.Sound.{SoundHouse}
use Rattle.tables.specs.Layout.{segments_in}
use Rattle.tables.specs.Sound.{numberb, soundb}
use Rattle.cells.specs.Says.{house_of}
use Rattle.proof_cells_agree.specs.Rows.{enough, ◌also◌, row}
use Rattle.proof_cells_agree.specs.Canonical.{Canonical}
use Rattle.proof_cells_agree.specs.RecordTests.{records-tests}
use Rattle.proof_cells_agree.specs.OpeningTests.{openings-tests}
use Rattle.proof_cells_agree.specs.DistinctTests.{distinct-tests}

-- "the number of segments is 1 to 1,024 and fits the store"
number-tests : (cells : ℕ) (t : List ℕ) → segment_cells * segments_in t ≤ cells → SoundHouse (house_of t) → numberb (segments_in t) cells ≡ true
unfolding numberb house_of
number-tests cells t fits s =
    row _ (le-leb 1 (segments_in t) s.least also le-leb (segments_in t) most_segments s.most also le-leb (segment_cells * segments_in t) cells fits also enough)

pub says-sound : (cells : ℕ) (t : List ℕ) → length t ≡ tables_length → segment_cells * segments_in t ≤ cells → Canonical t → SoundHouse (house_of t) → soundb cells t ≡ true
unfolding soundb
says-sound cells t long fits canonical s =
    row _
    (eq-eqb (length t) tables_length long
    also records-tests t canonical s
    also openings-tests t canonical s
    also distinct-tests t canonical s
    also number-tests cells t fits s
    also enough)
