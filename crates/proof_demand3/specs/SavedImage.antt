-- The catalogue image of document 01's worked example: "That store with one private file "a" of user 2, species 5, b = 1, e = 2, segment 0". It
-- is what a save writes after the file was made; it is sound, and it holds that file. Assumes nothing.
use Rattle.std.specs.Prelude.{ℕ, ◌≡◌, refl, true, List, length, replicate}
use Rattle.std.proofs.Common.{sym, ap, ◌∙◌, subst}
use Rattle.std.proofs.lemmas.List.{length-replicate}
use Rattle.combine.specs.Outcome.{Outcome}
use Rattle.rules.specs.Calls.{save, Call, asks}
use Rattle.rules.specs.House.{closed_down, fresh_house}
use Rattle.segments.specs.State.{State}
use Rattle.tables.specs.Sound.{soundb}
use Rattle.tables.specs.Laws.Sound.{ranged-of}
use Rattle.image.specs.Image.{served, image_length, image_of, imageb, tables_from}
use Rattle.cells.specs.Says.{house_of}
use Rattle.cells.specs.Outcomes.{Lent, Saved, call_image}
use Rattle.proof_images.specs.Closed.{closed-says}
use Rattle.proof_images.specs.Done.{save-done, saved-again, saved-sound}
use Rattle.proof_calls_sound.specs.Keeps.{sound-final, length-final}
use Rattle.demands.specs.History.{final}
use Rattle.demands.specs.Demands.{Sound}
use Rattle.examples.specs.Examples.{makes_file_a, image_with_a}
use Rattle.proof_demand3.specs.Started.{started_over, started-sound, started-state}
use Rattle.proof_examples.specs.Saved.{after-says, after-image}
use Rattle.proof_examples.specs.Worked.{house_with_a, leads-to-a, packed-a}

-- "That store" has 128 segments
pub cells-after : (cs : List Call) → length (final cs (started_over 8192)).store ≡ 8192
cells-after cs = length-final cs (started_over 8192) ∙ ap (λ (m : State). length m.store) (started-state 8192 refl) ∙ length-replicate {A = ℕ} 8192 0

-- ---- the file is made

abbrev pub cells_with_a : Lent
cells_with_a = final makes_file_a (started_over 8192)

abbrev tables : List ℕ
tables = cells_with_a.tables

cells-sound : Sound cells_with_a
cells-sound = sound-final makes_file_a (started_over 8192) (started-sound 8192 refl)

tables-sound : soundb 8192 tables ≡ true
tables-sound = subst (λ (n : ℕ). soundb n tables ≡ true) (cells-after makes_file_a) cells-sound

start-says : house_of (started_over 8192).tables ≡ fresh_house 8192
start-says = ap (λ (m : State). m.house) (started-state 8192 refl)

tables-say : house_of tables ≡ house_with_a
tables-say = after-says (fresh_house 8192) makes_file_a house_with_a leads-to-a (started_over 8192) (started-sound 8192 refl) start-says

-- ---- the image

image-so : image_of served tables ≡ image_with_a
image-so = after-image (fresh_house 8192) makes_file_a house_with_a leads-to-a (started_over 8192) (started-sound 8192 refl) start-says served ∙ packed-a

-- a save that is lent a buffer writes it there
abbrev pub buffer : List ℕ
buffer = replicate (image_length served) 0

pub saved-so : call_image (asks (save buffer)) cells_with_a.store cells_with_a.tables ≡ image_with_a
saved-so = ap (λ (o : Outcome Saved). o.after.image) (save-done cells_with_a.store tables buffer cells-sound (length-replicate {A = ℕ} (image_length served) 0)) ∙ image-so

pub image-sound : imageb served 8192 image_with_a ≡ true
image-sound = subst (λ (img : List ℕ). imageb served 8192 img ≡ true) image-so (saved-sound 8192 tables tables-sound)

pub image-says : house_of (tables_from served image_with_a) ≡ house_with_a
image-says =
    sym (ap (λ (img : List ℕ). house_of (tables_from served img)) image-so) ∙ ap house_of (saved-again 8192 tables tables-sound)
    ∙ closed-says tables (ranged-of 8192 tables tables-sound).0 ∙ ap closed_down tables-say
