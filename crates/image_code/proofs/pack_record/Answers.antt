-- `image_code::pack_record` meets its contract: the fields and zeros fill the cells. Assumes nothing.
use Prim.Native.Nat.{ℕ, ◌-◌, ◌*◌, ◌≤◌}
use mathlib.Core.Path.{◌≡◌, sym, ap, subst, ◌∙◌}
use mathlib.Core.List.{List, [], ◌∷◌, ◌++◌}
use native.Mathlib.Omega.{arith}
use lib.ListN.{length, take, length-append}
use Rattle.packing.specs.Packing.{sum, packed, cells_of}
use Rattle.packing_rows.specs.Waiting.{Narrow, Fitting}
use Rattle.placing.specs.Sizes.{record_length}
use Rattle.image.specs.Image.{row_widths, packed_record}
use Rattle.image.specs.Forms.{form_of}
use Rattle.image.specs.Laws.Formed.{row-many}
use Rattle.image_code.specs.Widths.{formed, few-zeros, row-narrow}
use Rattle.image_code.specs.Fits.{Fits}
use Rattle.image_code.specs.Rows.{zeros_of, row-length, row_fits, row-taken}
use Rattle.image_code.proofs.pack_record.Goals as goal

pub slice_bounds-pack-end : goal.slice_bounds-pack-end
slice_bounds-pack-end c =
    let form = c.args.form in
    let row : List ℕ = c.copy_from_slice.new.self in
    let long : length row ≡ record_length = ap length c.copy_from_slice.ensures.after ∙ c.requires.0 in
    let inside : c.count.result ≤ length (row ++ 0 ∷ []) = omega (arith, c.count.ensures, row-many (form_of form) (formed form), (few-zeros form).0, length-append row (0 ∷ []), long) in
    inside

pub pack-requires : goal.pack-requires
pack-requires c =
    let form = c.args.form in
    let row : List ℕ = c.copy_from_slice.new.self in
    let same : row ≡ c.args.values.now = c.copy_from_slice.ensures.after in
    let long : length row ≡ record_length = ap length same ∙ c.requires.0 in
    let taken = row-taken form row (c.count.result - 0) long (omega (arith, c.count.ensures)) in
    let widths = c.requires.3 in (
      subst Narrow (sym widths) (row-narrow form),
      ap length taken ∙ row-length (form_of form) (formed form) row long ∙ sym (ap length widths),
      ap sum widths ∙ (formed form).full ∙ ap (λ (n : ℕ). 32 * n) (sym c.requires.1),
      subst (λ (x : List ℕ). Fitting x (take (c.count.result - 0) (row ++ 0 ∷ []))) (sym widths) (subst (Fitting (row_widths (form_of form))) (sym taken) (row_fits (form_of form) (formed form) row long (subst (Fits (form_of form)) (sym same) c.requires.2))),
    )

pub returns : goal.returns
unfolding packed_record
returns c =
    let form = c.args.form in
    let row : List ℕ = c.copy_from_slice.new.self in
    let same : row ≡ c.args.values.now = c.copy_from_slice.ensures.after in
    let taken = row-taken form row (c.count.result - 0) (ap length same ∙ c.requires.0) (omega (arith, c.count.ensures)) in
    c.pack.ensures ∙ (λ j. cells_of (c.requires.1 j) (packed (c.requires.3 j) (taken j)))
    ∙ ap (λ (x : List ℕ). cells_of (form_of form).cells (packed (row_widths (form_of form)) (x ++ zeros_of (form_of form)))) same
