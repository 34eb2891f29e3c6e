-- `image_code::take_head` meets its contract: three fields fill a cell. Assumes nothing.
use Prim.Native.Nat.{◌-◌, ◌*◌, ◌/◌, ◌^◌}
use mathlib.Core.Path.{◌≡◌, refl, ap, ◌∙◌}
use native.Mathlib.Nat.{div-one}
use native.Mathlib.Omega.{arith}
use lib.ListN.{length}
use Rattle.packing.specs.Packing.{row_of, sum, unpacked}
use Rattle.image.specs.Image.{head_widths}
use Rattle.image_code.specs.Widths.{head-sum, head-narrow}
use Rattle.image_code.proofs.take_head.Goals as goal

pub unpack-requires : goal.unpack-requires
unfolding head_widths
unpack-requires c = record {
  narrow = (head-narrow, refl);
  widths_bound = (omega (arith, head-sum), omega (arith, head-sum));
}

pub returns : goal.returns
unfolding head_widths
returns c =
    let none : 32 * length c.args.cells.now - sum head_widths ≡ 0 = omega (arith, head-sum, c.requires) in
    c.unpack.ensures ∙ (λ j. unpacked head_widths (row_of c.args.cells.now / 2 ^ none j)) ∙ ap (unpacked head_widths) (div-one _)
