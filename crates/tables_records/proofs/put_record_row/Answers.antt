-- `tables_records::put_record_row` meets its contract: the row is written in four parts. Assumes nothing.
use mathlib.Core.Path.{◌≡◌, refl, ◌∙◌}
use mathlib.Core.List.{[], ◌∷◌, map}
use native.Mathlib.Omega.{arith}
use lib.ListN.{length}
use Rattle.tables_rows.proofs.Parts.{first-set, four-parts}
use Rattle.tables.specs.Layout.{record_cells, segment_number}
use borrow.Author.Rules.{rules}
use Rattle.tables_records.proofs.put_record_row.Goals as goal

pub returns : goal.returns
unfolding record_cells
returns c =
    let r = c.args.filed in
    let twelve : length r.name ≡ 12 = search rules in
    let row = c.args.row.now in
    let extent = r.owner ∷ r.private ∷ r.species ∷ r.begin.0 ∷ r.end.0 ∷ [] in
    rw (first-set row r.used (omega (arith, c.requires))) (
    four-parts row (r.used ∷ []) r.name extent (map segment_number r.segments) 1 12 5 32 refl twelve refl c.requires
    refl c.put_name.ensures
    (c.copy_from_slice.ensures.after ∙ (λ j. r.owner ∷ r.private ∷ r.species ∷ c.number.ensures j ∷ c.number-2.ensures j ∷ []))
    c.put_segments.ensures
    )
