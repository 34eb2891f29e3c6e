-- From form 2 to form 1: a sound image moves exactly if form 1 reaches its begins and ends. Assumes nothing.
use Rattle.std.specs.Prelude.{ℕ, ◌*◌, ◌≤◌, ◌<◌, ◌≡◌, length}
use Rattle.std.proofs.Common.{sym, ap, ◌∙◌, subst, ⊎_elim, arith}
use Rattle.combine.specs.Verdict.{done}
use Rattle.combine.specs.Outcome.{Outcome, outcome_of}
use Rattle.combine.specs.Laws.Below.{split-bool}
use Rattle.placing.specs.Sizes.{Cells, places, segment_cells, tables_length}
use Rattle.tables.specs.declared.Record.{Record}
use Rattle.tables.specs.Layout.{record_at}
use Rattle.tables.specs.Laws.Sound.{ranged-of}
use Rattle.image.specs.Image.{form1, form2, served, image_of, tables_from}
use Rattle.image.specs.Reformed.{reachesb, down_out}
use Rattle.cells.specs.Outcomes.{Saved}
use Rattle.demands.specs.Forms.{AtMost, DownByRule, DownExactly, SavedDown}
use Rattle.proof_images.specs.Closed.{closed, record-kept}
use Rattle.proof_images.specs.Done.{save-done, saved-again, saved-sound}
use Rattle.proof_forms.specs.Beside.{sound-beside}
use Rattle.proof_forms.specs.Reach.{reaches-means}
use Rattle.proof_forms.specs.Tables.{image-of-closed}
use Rattle.proof_forms.specs.Moved.{moved, too_far}

pub down-exactly : DownExactly
down-exactly img buffer n ok lb =
    let t = tables_from form2 img in
    let means = reaches-means form1 t in (
      λ h. moved form2 form1 img buffer n (record { sound = ok; long = lb; reaches = means.1 h }),
      λ no. too_far form2 form1 img buffer n ok lb (⊎_elim (λ r. absurd (no (means.0 r))) (λ r. r) (split-bool (reachesb form1 t))),
    )

-- the rule sees the records only
most-kept : (n : ℕ) (t u : Cells) → ((p : ℕ) → p < places → record_at t p ≡ record_at u p) → AtMost n t → AtMost n u
most-kept n t u same h p l = subst (λ (r : Record). (r.begin.0 ≤ n) × (r.end.0 ≤ n)) (same p l) (h p l)

opened-again : (t buffer : Cells) (o : Outcome Cells) → length t ≡ tables_length → DownByRule (closed t) buffer o → DownByRule t buffer o
opened-again t buffer o long d = (
  λ h. d.0 (most-kept 16777215 t (closed t) (λ p l. sym (record-kept t long p l)) h) ∙ ap (λ (i : Cells). outcome_of (done 0) i) (image-of-closed form1 t long),
  λ no. d.1 (λ h. no (most-kept 16777215 (closed t) t (record-kept t long) h)),
)

pub saved-down : SavedDown
saved-down x image buffer n sound li lb room =
    let s = x.store in
    let t = x.tables in
    let img = image_of served t in
    let ok = saved-sound (segment_cells * n) t (sound-beside (length s) (segment_cells * n) t sound (omega (arith, room))) in
    let rule = subst (λ (c : Cells). DownByRule c buffer (down_out img buffer n)) (saved-again (length s) t sound) (down-exactly img buffer n ok lb) in
    subst (λ (o : Outcome Saved). DownByRule t buffer (down_out o.after.image buffer n)) (sym (save-done s t image sound li))
    (opened-again t buffer (down_out img buffer n) (ranged-of (length s) t sound).0 rule)
