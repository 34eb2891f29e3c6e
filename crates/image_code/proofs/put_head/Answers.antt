-- `image_code::put_head` meets its contract: three fields fill a cell. Assumes nothing.
use Prim.Native.Nat.{ℕ}
use mathlib.Core.Path.{refl, sym, subst, ◌∙◌}
use mathlib.Core.List.{[], ◌∷◌}
use native.Mathlib.Omega.{arith}
use Rattle.packing.specs.Packing.{packed, cells_of}
use Rattle.packing_rows.specs.Waiting.{Fitting}
use Rattle.image.specs.Image.{head_widths, head_image}
use Rattle.image.specs.Forms.{form_of}
use Rattle.image_code.specs.Widths.{formed, head-sum, head-narrow}
use Rattle.image_code.specs.Fits.{head-fits}
use Rattle.image_code.proofs.put_head.Goals as goal

pub pack-requires : goal.pack-requires
unfolding head_widths
pack-requires c =
    let n = c.number in
    let fits = head-fits (form_of c.args.form) (formed c.args.form) c.args.segments (omega (arith, c.requires.1)) in
    (head-narrow, refl, omega (arith, head-sum), subst (λ (k : ℕ). Fitting head_widths (k ∷ c.args.segments ∷ 0 ∷ [])) (sym n.ensures) fits)

pub returns : goal.returns
unfolding head_image head_widths
returns c =
    let n = c.number in
    c.pack.ensures ∙ (λ j. cells_of (c.requires.0 j) (packed head_widths (n.ensures j ∷ c.args.segments ∷ 0 ∷ [])))
