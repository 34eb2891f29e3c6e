-- A save, beside the model's: "Saving writes the records only, whatever is open." Assumes nothing.
use Rattle.std.specs.Prelude.{ℕ, ◌≡◌, Bool, List, eqb, length}
use Rattle.std.proofs.Math.Path.{refl}
use Rattle.std.proofs.Common.{ap, ◌∙◌}
use Rattle.std.proofs.Math.Bool.{true, false}
use Rattle.std.proofs.Math.Option.{some}
use Rattle.combine.specs.Verdict.{Said, done, refuse◌when◌else◌}
use Rattle.combine.specs.Outcome.{Outcome, settle}
use Rattle.rules.specs.Calls.{save, asks}
use Rattle.rules.specs.Gates.{start_gate, image_gate}
use Rattle.rules.specs.House.{closed_down}
use Rattle.rules.specs.Runs.{no_run}
use Rattle.segments.specs.Free.{SegmentHouse}
use Rattle.tables.specs.Laws.Sound.{ranged-of}
use Rattle.image.specs.Image.{served, image_length, image_of}
use Rattle.cells.specs.Says.{house_of}
use Rattle.cells.specs.Outcomes.{Lent, Saved, saved, sound_lent, save_out}
use Rattle.model.specs.Model.{Model}
use Rattle.model.specs.Step.{Report, report}
use Rattle.model.specs.View.{view_house, view, files_in}
use Rattle.demands.specs.Demands.{Sound, Refines}
use Rattle.proof_images.specs.Closed.{closed-says}
use Rattle.proof_images.specs.Done.{sound-files, saved-again, saved-sound}

-- what is told of a save, and what users know afterwards: on cells, and in the model
abbrev cells_said : List ℕ → List ℕ → List ℕ → Outcome Saved → Report × Model
cells_said s t img o = (report (asks (save img)) o.answer (files_in s o.after.image) no_run, view s t)

abbrev model_said : List ℕ → List ℕ → List ℕ → Said → Report × Model
model_said s t img a = (report (asks (save img)) a (some (closed_down (view_house s (house_of t)))) no_run, view s t)

module _ (s t : List ℕ) (sound : sound_lent s t ≡ true) where
  -- whatever a save writes is sound, and holds the permanent files
  pub saved-files : files_in s (image_of served t) ≡ some (closed_down (view_house s (house_of t)))
  saved-files =
      sound-files s (image_of served t) (saved-sound (length s) t sound)
      ∙ ap (λ (c : List ℕ). some (view_house s (house_of c))) (saved-again (length s) t sound)
      ∙ ap (λ (h : SegmentHouse). some (view_house s h)) (closed-says t (ranged-of (length s) t sound).0)

  save-told : (img : List ℕ) (b : Bool)
      → cells_said s t img (settle (saved s t img) (image_gate true b (done (0, saved s t (image_of served t)))))
      ≡ model_said s t img (image_gate true b (done 0))
  unfolding image_gate start_gate settle refuse◌when◌else◌
  save-told img true = λ i. (record { answer = done 0; image = saved-files i; run = no_run }, view s t)
  save-told img false = refl

pub save-refines : (img : List ℕ) (x : Lent) → Sound x → Refines (asks (save img)) x
unfolding save_out view
save-refines img x sound =
    let s = x.store in
    let t = x.tables in
    let right = eqb (length img) (image_length served) in
    ap (λ (b : Bool). cells_said s t img (settle (saved s t img) (image_gate b right (done (0, saved s t (image_of served t)))))) sound
    ∙ save-told s t sound img right
