-- What calls lead to, saved and moved from form to form. Assumes nothing.
use Rattle.std.specs.Prelude.{ℕ, ◌*◌, ◌≡◌, refl, Bool, true, ◌&&◌, List, ◌∷◌, leb, ltb, get_or}
use Rattle.std.proofs.Common.{sym, ◌∙◌, ⊎_elim, arith, ltb-true}
use Rattle.std.proofs.Math.Path.{ap}
use Rattle.std.proofs.Math.Option.{none}
use Rattle.std.proofs.Math.ListN.{length, replicate, length-replicate, get_or-eq_default}
use Rattle.combine.specs.Below.{all_below}
use Rattle.combine.specs.Laws.Below.{all-at, all-cong}
use Rattle.combine.specs.Laws.Numbers.{le-or-lt}
use Rattle.combine.specs.Verdict.{done, is_done}
use Rattle.combine.specs.Outcome.{Outcome, outcome_of}
use Rattle.placing.specs.Sizes.{Cells, places, segment_cells, tables_length}
use Rattle.rules.specs.Calls.{Call, fresh, starts}
use Rattle.rules.specs.House.{fresh_house}
use Rattle.segments.specs.Free.{SegmentHouse}
use Rattle.segments.specs.State.{State}
use Rattle.tables.specs.declared.Record.{Record}
use Rattle.tables.specs.Layout.{segments_in, record_at, unused_record}
use Rattle.tables.specs.Sound.{soundb}
use Rattle.image.specs.Image.{Form, form1, form2, served, image_length}
use Rattle.image.specs.Reformed.{reachesb, up_out, down_out}
use Rattle.cells.specs.Says.{house_of, as_record}
use Rattle.cells.specs.Outcomes.{Saved, lent}
use Rattle.demands.specs.History.{after_call, final}
use Rattle.demands.specs.Demands.{AreCells}
use Rattle.proof_cells_agree.specs.Canonical.{record-determined, sound-canonical}
use Rattle.proof_calls_sound.specs.Keeps.{sound-final}
use Rattle.proof_forms.specs.Reach.{reaches-means}
use Rattle.proof_forms.specs.Down.{saved-down}
use Rattle.proof_forms.specs.Back.{down-then-up}
use Rattle.examples.specs.Holding.{SavesAfter, PacksAfter, MovesTo}
use Rattle.proof_examples.specs.Fresh.{fresh-leaves-sound, fresh-leaves-state}
use Rattle.proof_examples.specs.Saved.{Leads, after-says}

-- ---- how far a form reaches, by what sound tables say

abbrev within : Form → Record → Bool
within f r = leb r.begin.0 f.greatest && leb r.end.0 f.greatest

-- what unfolds this unfolds every definition that it rests on
unfoldable pub reaches_by : Form → SegmentHouse → Bool
unfolding all_below as_record unused_record
reaches_by f h = all_below places (λ p. within f (as_record (get_or h.records p none)))

reaches-by : (f : Form) (cells : ℕ) (t : Cells) → soundb cells t ≡ true → reachesb f t ≡ reaches_by f (house_of t)
unfolding reaches_by reachesb house_of
reaches-by f cells t ok =
    all-cong (λ p. within f (record_at t p)) (λ p. within f (as_record (get_or (house_of t).records p none))) places
    (λ p l. ap (within f) (record-determined t (sound-canonical cells t ok) p l (get_or (house_of t).records p none) refl))

-- ---- after a fresh start over n segments, and calls

module _ (n : ℕ) (calls : List Call) (h : SegmentHouse) (image old : Cells) (large : leb 64 (segment_cells * n) ≡ true) (w : Leads (fresh_house (segment_cells * n)) calls h) (many : h.segments ≡ n) where
  -- what a save writes, moved down, is what form 1 has for the tables
  pub moves-down : reaches_by form1 h ≡ true → SavesAfter (segment_cells * n) (starts fresh ∷ calls) image → PacksAfter form1 (segment_cells * n) (starts fresh ∷ calls) old → MovesTo form2 form1 image n old
  unfolding MovesTo SavesAfter PacksAfter house_of
  moves-down near saves packs buffer fits =
      let s : Cells = replicate (segment_cells * n) 0 in
      let t : Cells = replicate tables_length 0 in
      let ls : length s ≡ segment_cells * n = length-replicate {A = ℕ} (segment_cells * n) 0 in
      let lt : length t ≡ tables_length = length-replicate {A = ℕ} tables_length 0 in
      let room : Cells = replicate (image_length served) 0 in
      let lr : length room ≡ image_length served = length-replicate {A = ℕ} (image_length served) 0 in
      let x = after_call (starts fresh) (lent s t) in
      let y = final calls x in
      let begun = fresh-leaves-sound s t (segment_cells * n) ls large lt in
      let sound = sound-final calls x begun in
      let says = after-says (fresh_house (segment_cells * n)) calls h w x begun (ap (λ (m : State). m.house) (fresh-leaves-state s t (segment_cells * n) ls large lt)) in
      let fit : segments_in y.tables ≡ n = ap (λ (k : SegmentHouse). k.segments) says ∙ many in
      let reach = (reaches-means form1 y.tables).0 (reaches-by form1 (length y.store) y.tables sound ∙ ap (reaches_by form1) says ∙ near) in
      ap (λ (o : Outcome Saved). down_out o.after.image buffer n) (sym (saves s t room ls lt lr))
      ∙ (saved-down y room buffer n sound lr fits (omega (arith, fit))).0 reach
      ∙ ap (λ (i : Cells). outcome_of (done 0) i) (packs s t ls lt)

-- and up again
pub moves-up : (n : ℕ) (image old : Cells) → AreCells image → MovesTo form2 form1 image n old → MovesTo form1 form2 old n image
unfolding MovesTo
moves-up n image old cells down buffer fits =
    let room : Cells = replicate (image_length form1) 0 in
    let d = down room (length-replicate {A = ℕ} (image_length form1) 0) in
    ap (λ (o : Outcome Cells). up_out o.after buffer n) (sym d) ∙ down-then-up image room buffer n cells (ap (λ (o : Outcome Cells). is_done o.answer) d) fits

pub cells_of : (l : Cells) → all_below (length l) (λ k. ltb (get_or l k 0) 4294967296) ≡ true → AreCells l
cells_of l h k =
    ⊎_elim (λ p. omega (arith, get_or-eq_default l 0 {n = k} p)) (λ q. ltb-true _ _ (all-at (λ k. ltb (get_or l k 0) 4294967296) (length l) h k q)) (le-or-lt (length l) k)
