-- What a save writes after a fresh start and calls, whatever the cells were before: the image of what the calls leave on segments. Assumes
-- nothing.
use Rattle.std.specs.Prelude.{ℕ, ◌<◌, ◌≡◌, refl, true, List, ◌∷◌, ◌++◌, T, leb, length, get_or}
use Rattle.std.proofs.Common.{arith, sym, ◌∙◌}
use Rattle.std.proofs.Math.Path.{ap}
use Rattle.std.proofs.Math.Option.{none}
use Rattle.combine.specs.Lists.{tab, part, joined}
use Rattle.combine.specs.Laws.Lists.{tab-cong}
use Rattle.combine.specs.Laws.Parts.{length_part}
use Rattle.combine.specs.Verdict.{done}
use Rattle.combine.specs.Outcome.{outcome_of}
use Rattle.packing.specs.Packing.{field, cells_of, sum, packed}
use Rattle.placing.specs.Sizes.{Cells, places}
use Rattle.rules.specs.Calls.{fresh, Call, starts}
use Rattle.rules.specs.House.{fresh_house}
use Rattle.segments.specs.Free.{SegmentHouse}
use Rattle.segments.specs.State.{State, state}
use Rattle.tables.specs.Layout.{record_base, segments_in, record_cells, record_at, unused_record}
use Rattle.tables.specs.Laws.Rows.{record-row}
use Rattle.tables.specs.Sound.{soundb}
use Rattle.tables.specs.Laws.Sound.{ranged-of}
use Rattle.image.specs.Image.{Form, served, head_widths, record_widths, head_image, packed_record, record_image, image_of}
use Rattle.cells.specs.Says.{house_of, in_places, as_record}
use Rattle.cells.specs.Outcomes.{Lent, lent, saved}
use Rattle.proof_cells_agree.specs.Canonical.{sound-canonical, record-determined}
use Rattle.proof_images.specs.Done.{save-done}
use Rattle.proof_calls_sound.specs.Keeps.{sound-final}
use Rattle.demands.specs.History.{after_call, final}
use Rattle.demands.specs.Demands.{Sound}
use Rattle.examples.specs.Holding.{SavesAfter, PacksAfter}
use Rattle.proof_examples.specs.Fresh.{fresh-leaves-sound, fresh-leaves-state}
use Rattle.proof_examples.specs.OnSegments.{state_after, goes_on, state-known}

-- ---- the image of sound tables, by what they say

-- what unfolds this unfolds every definition that it rests on
unfoldable pub image_by : Form → SegmentHouse → Cells
unfolding tab joined field cells_of sum packed head_widths record_widths head_image packed_record record_cells unused_record in_places as_record
image_by f h = head_image f h.segments ++ joined (tab places (λ p. packed_record f (record_cells (as_record (get_or h.records p none)))))

image-by : (f : Form) (cells : ℕ) (t : Cells) → soundb cells t ≡ true → image_of f t ≡ image_by f (house_of t)
unfolding image_by image_of record_image record_at house_of
image-by f cells t ok =
    let long = (ranged-of cells t ok).0 in
    let row : (p : ℕ) → p < places → part t (record_base p) 50 ≡ record_cells (as_record (get_or (house_of t).records p none)) =
    λ p l. sym (record-row (part t (record_base p) 50) (length_part t (record_base p) 50 (omega arith)))
    ∙ ap record_cells (record-determined t (sound-canonical cells t ok) p l (get_or (house_of t).records p none) refl) in
    ap (λ (l : List Cells). head_image f (segments_in t) ++ joined l)
    (tab-cong places (λ p. packed_record f (record_cells (as_record (get_or (house_of t).records p none)))) (record_image f t) (λ p l. ap (packed_record f) (row p l)))

-- ---- what calls lead to on segments, whatever the store's cells are, they lead to on cells

pub record Leads (before : SegmentHouse) (calls : List Call) (after : SegmentHouse) : Type 0 where
  pub going : T (goes_on calls)
  pub leads : (store : Cells) → (state_after calls (state store before)).house ≡ after

module _ (g : SegmentHouse) (calls : List Call) (h : SegmentHouse) (w : Leads g calls h) (x : Lent) (sound : Sound x) (says : house_of x.tables ≡ g) where
  pub after-says : house_of (final calls x).tables ≡ h
  after-says =
      ap (λ (m : State). m.house) (state-known calls x sound w.going) ∙ ap (λ (k : SegmentHouse). (state_after calls (state x.store k)).house) says
      ∙ w.leads x.store

  pub after-image : (f : Form) → image_of f (final calls x).tables ≡ image_by f h
  after-image f = image-by f (length (final calls x).store) (final calls x).tables (sound-final calls x sound) ∙ ap (image_by f) after-says

-- ---- after a fresh start over n cells, and calls

module _ (n : ℕ) (calls : List Call) (h : SegmentHouse) (image : Cells) (large : leb 64 n ≡ true) (w : Leads (fresh_house n) calls h) where
  pub packs-after : (f : Form) → image_by f h ≡ image → PacksAfter f n (starts fresh ∷ calls) image
  unfolding PacksAfter
  packs-after f e s t cells long =
      let x = after_call (starts fresh) (lent s t) in
      let says = ap (λ (m : State). m.house) (fresh-leaves-state s t n cells large long) in
      after-image (fresh_house n) calls h w x (fresh-leaves-sound s t n cells large long) says f ∙ e

  pub saves-after : image_by served h ≡ image → SavesAfter n (starts fresh ∷ calls) image
  unfolding SavesAfter PacksAfter
  saves-after e s t buffer cells long fits =
      let x = after_call (starts fresh) (lent s t) in
      let y = final calls x in
      save-done y.store y.tables buffer (sound-final calls x (fresh-leaves-sound s t n cells large long)) fits
      ∙ ap (λ (i : Cells). outcome_of (done 0) (saved y.store y.tables i)) (packs-after served e s t cells long)
