-- `call_load::judged` meets its contract. Assumes nothing.
use Prim.Native.Nat.{ℕ}
use mathlib.Core.Path.{◌≡◌, sym, ap, ◌∙◌}
use mathlib.Core.Bool.{true}
use lib.ListN.{length, length-replicate}
use Rattle.placing.specs.Sizes.{tables_length}
use Rattle.image.specs.Image.{served, imageb}
use Rattle.call_load.proofs.Laws.{loads, loaded}
use Rattle.call_load.proofs.judged.Goals as goal

pub copy_cells-requires : goal.copy_cells-requires
copy_cells-requires c =
    c.is_sound.auto.beside ∙ ap length c.requires.2 ∙ length-replicate {A = ℕ} tables_length 0 ∙ sym c.requires.0

pub returns : goal.returns
returns c =
    let judged = c.is_sound.ensures in
    let sound : imageb served (length c.args.store.now) c.args.image.now ≡ true = search loads in
    loaded _ _ _ c.requires.0 c.requires.1 sound _ (c.copy_cells.ensures ∙ judged.beside_after (judged.value ∙ sound))
