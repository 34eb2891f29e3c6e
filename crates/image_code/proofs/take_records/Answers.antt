-- `image_code::take_records` meets its contract: after p turns the tables have p records after their first cell. Assumes nothing.
use Prim.Native.Nat.{ℕ, ◌+◌, ◌-◌, ◌*◌}
use mathlib.Core.Path.{◌≡◌, refl, sym, ap, subst, ◌∙◌}
use native.Mathlib.Omega.{arith}
use lib.ListN.{length, take, drop, replicate}
use Rattle.combine.specs.Lists.{part}
use Rattle.packing.specs.Packing.{sum}
use Rattle.packing_rows.specs.Waiting.{Narrow}
use Rattle.placing.specs.Sizes.{places, record_length, openings_start, tables_length}
use Rattle.image.specs.Image.{record_from, record_part}
use Rattle.image.specs.Forms.{form_of}
use Rattle.image_code.specs.Widths.{formed, few-zeros, few-cells, fields-narrow, fields-sum}
use Rattle.image_code.specs.Lengths.{record-from-length}
use Rattle.image_code.specs.Rows.{fields-first, record-taken}
use Rattle.image_code.proofs.Turns.{mid-part, mid-is, pieces-in, piece-at, none-placed, not-placed, one_placed, all_placed, zeros-come}
use Rattle.image_code.proofs.take_records.Goals as goal

pub slice_bounds-fields-end : goal.slice_bounds-fields-end
slice_bounds-fields-end c =
    let w = formed c.args.form in
    sym (ap length (fields-first (form_of c.args.form) w c.row-all.result c.row-all.ensures) ∙ w.many)

pub loop-p-init : goal.loop-p-init
loop-p-init c =
    let f = form_of c.args.form in
    let img = c.args.image.now in
    none-placed (record_from f img) record_length (record-from-length f (formed c.args.form) img) c.args.tables.now refl

pub take_record-requires : goal.take_record-requires
take_record-requires c =
    let form = c.args.form in
    let f = form_of form in
    let l = c.loop-p in
    let cells = c.record_cells-cells in
    let fields = fields-first f (formed form) c.row-all.result c.row-all.ensures in
    let img = c.args.image.now in
    let t = c.args.tables.now in
    let at = 1 + cells.result * l.p in
    let inside = pieces-in cells.result l.p (omega arith) in
    let long : length img ≡ 1 + places * cells.result = c.requires.0 ∙ ap (λ (k : ℕ). 1 + places * k) (sym cells.ensures) in
    let piece : length (take (at + cells.result - at) (drop at img)) ≡ f.cells = mid-part at (at + cells.result) f.cells img (omega (arith, cells.ensures)) (omega (arith, inside, long)) in
    let sums = fields-sum f (formed form) in
    let many = ap sum fields in
    let zeros = zeros-come record_length (tables_length - 1) t l.tables l.p (1 + 50 * l.p) (51 + 50 * l.p) (omega arith) refl (omega arith) c.requires.2
    (not-placed (record_from f img) record_length (record-from-length f (formed form) img) t l.tables l.p (omega arith) l.invariant) in record {
      fewest_cells_in_bounds = (omega (arith, piece, (few-cells form).0), omega (arith, piece, (few-cells form).1));
      narrow = (subst Narrow (sym fields) (fields-narrow form), zeros ∙ ap (λ (k : ℕ). replicate k 0) (sym (ap length fields ∙ (formed form).many)));
      fields_bound = (omega (arith, piece, sums, many), omega (arith, piece, sums, many, (few-zeros form).1));
    }

pub loop-p-preserved : goal.loop-p-preserved
loop-p-preserved c =
    let form = c.args.form in
    let f = form_of form in
    let l = c.loop-p in
    let cells = c.record_cells-cells in
    let img = c.args.image.now in
    let r = c.take_record in
    let fields = fields-first f (formed form) c.row-all.result c.row-all.ensures in
    let at = 1 + cells.result * l.p in
    let place = piece-at f.cells l.p cells.result cells.ensures in
    let inside = pieces-in f.cells l.p (omega arith) in
    let here : take (at + cells.result - at) (drop at img) ≡ record_part f img l.p =
    mid-is at (at + cells.result) f.cells img (omega (arith, cells.ensures)) ∙ ap (λ (k : ℕ). part img k f.cells) place in
    one_placed (record_from f img) record_length (record-from-length f (formed form) img) c.args.tables.now l.tables r.new.out l.p (1 + 50 * l.p) (51 + 50 * l.p)
    (omega arith) refl (omega arith) (omega arith) l.invariant
    (record-taken f (formed form) img l.p _ _ _ fields here (omega (arith, inside, c.requires.0)) r.ensures)

pub returns : goal.returns
returns c =
    let form = c.args.form in
    let f = form_of form in
    let l = c.loop-p in
    let img = c.args.image.now in
    all_placed (record_from f img) record_length (record-from-length f (formed form) img) c.args.tables.now l.tables l.p openings_start (omega arith) refl l.invariant
