-- Document 02, P13: the tables after moves with nothing open. Only the numbers of segments in records change. Assumes nothing.
use Rattle.std.specs.Prelude.{ℕ, zero, suc, List}
use Rattle.placing.specs.Sizes.{Cells, places}
use Rattle.segments.specs.Moves.{exchange, renumbered_record}
use Rattle.tables.specs.Layout.{record_at, put_record}
use Rattle.cells.specs.Says.{decoded_record, as_record}

-- the record at place p has other numbers
abbrev pub renumbered_at : (ℕ → ℕ) → (place : ℕ) (tables : Cells) → Cells
renumbered_at f p t = put_record t p (as_record (renumbered_record f (decoded_record (record_at t p))))

-- the records at the first k places have
unfoldable pub renumbered_first : (ℕ → ℕ) → (many : ℕ) (tables : Cells) → Cells
renumbered_first f zero t = t
renumbered_first f (suc k) t = renumbered_at f k (renumbered_first f k t)

abbrev pub moved_tables : (moves : List ℕ) (tables : Cells) → Cells
moved_tables l t = renumbered_first (exchange l) places t
