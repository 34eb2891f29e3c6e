-- `image_code::put_records` meets its contract: after p turns the image has p records after its first cell. Assumes nothing.
use Prim.Native.Nat.{ℕ, ◌+◌, ◌*◌}
use mathlib.Core.Path.{sym, ap, subst, ◌∙◌}
use native.Mathlib.Nat.{mul-zero, mul_comm}
use native.Mathlib.Omega.{arith}
use lib.ListN.{take}
use Rattle.placing.specs.Sizes.{places, record_length}
use Rattle.image.specs.Image.{image_length, packed_record, record_image}
use Rattle.image.specs.Forms.{form_of}
use Rattle.image_code.specs.Widths.{formed}
use Rattle.image_code.specs.Fits.{Writable, records-writable}
use Rattle.image_code.specs.Lengths.{record-image-length}
use Rattle.image_code.proofs.Turns.{mid-part, mid-is, pieces-in, piece-at, piece-next, none-placed, not-placed, one_placed, all_placed, image-full, zeros-come}
use Rattle.image_code.proofs.put_records.Goals as goal

pub loop-p-init : goal.loop-p-init
loop-p-init c =
    let f = form_of c.args.form in
    let t = c.args.tables.now in
    none-placed (record_image f t) f.cells (record-image-length f t) c.args.image.now (ap (λ (k : ℕ). 1 + k) (mul-zero f.cells))

pub put_record-requires : goal.put_record-requires
put_record-requires c =
    let form = c.args.form in
    let m = (form_of form).cells in
    let l = c.loop-p in
    let cells = c.record_cells-cells in
    let t = c.args.tables.now in
    let row = mid-is (1 + 50 * l.p) (51 + 50 * l.p) record_length t (omega arith) in
    let inside = pieces-in m l.p (omega arith) in
    let here = piece-at m l.p cells.result cells.ensures in (
      mid-part (1 + 50 * l.p) (51 + 50 * l.p) record_length t (omega arith) (omega (arith, c.requires.ranged.0.0)),
      zeros-come m (places * m) c.args.image.now l.image l.p _ _ (omega (arith, inside)) here (omega (arith, cells.ensures)) c.requires.image_value
          (not-placed (record_image (form_of form) t) m (record-image-length (form_of form) t) c.args.image.now l.image l.p (omega (arith, c.requires.ranged.2)) l.invariant),
      subst (Writable (form_of form)) (sym row) (records-writable t c.requires.ranged.0 (form_of form) (formed form) c.requires.ranged.1 l.p (omega arith)),
      ap (λ (k : ℕ). take k c.row-all.result) c.count.ensures ∙ c.row-all.ensures,
    )

pub loop-p-preserved : goal.loop-p-preserved
unfolding record_image
loop-p-preserved c =
    let form = c.args.form in
    let m = (form_of form).cells in
    let l = c.loop-p in
    let cells = c.record_cells-cells in
    let t = c.args.tables.now in
    let f = c.put_record in
    let here = piece-at m l.p cells.result cells.ensures in
    let next = piece-next m l.p _ cells.result cells.ensures here in
    one_placed (record_image (form_of form) t) m (record-image-length (form_of form) t) c.args.image.now l.image f.new.out l.p _ _
    (omega (arith, c.requires.ranged.2)) here next.0 next.1 l.invariant
    (f.ensures ∙ ap (packed_record (form_of form)) (mid-is (1 + 50 * l.p) (51 + 50 * l.p) record_length t (omega arith)))

pub returns : goal.returns
returns c =
    let f = form_of c.args.form in
    let l = c.loop-p in
    let t = c.args.tables.now in
    image-full f c.args.image.now _ l.image c.requires.ranged.2
    (all_placed (record_image f t) f.cells (record-image-length f t) c.args.image.now l.image l.p (image_length f) (omega arith) (ap (λ (k : ℕ). 1 + k) (mul_comm f.cells places)) l.invariant)
