-- `tables_openings::put_opening_row` meets its contract: the row is written in four parts. Assumes nothing.
use mathlib.Core.Path.{◌≡◌, refl, ◌∙◌}
use mathlib.Core.List.{[], ◌∷◌, map}
use lib.ListN.{length, length-map}
use Rattle.tables.specs.Laws.Lengths.{unmapped}
use Rattle.tables_rows.proofs.Parts.{four-parts}
use Rattle.tables.specs.Layout.{opening_cells, position_number, segment_number}
use borrow.Author.Rules.{rules}
use Rattle.tables_openings.proofs.put_opening_row.Goals as goal

pub returns : goal.returns
unfolding opening_cells
returns c =
    let o = c.args.opening in
    let eight : length o.pointers ≡ 8 = search (rules, unmapped) in
    let twelve : length o.name ≡ 12 = search rules in
    let front = o.opened ∷ o.place ∷ o.permit ∷ o.species ∷ [] in
    four-parts c.args.row.now front (map position_number o.pointers) o.name (map segment_number o.segments) 4 8 12 32 refl
    (length-map o.pointers position_number ∙ eight) twelve c.requires
    c.copy_from_slice.ensures.after c.put_pointers.ensures c.put_name.ensures c.put_segments.ensures
