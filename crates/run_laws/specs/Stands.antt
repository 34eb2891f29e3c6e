-- A use of an open entry of sound tables leaves it so: "Every call leaves sound tables sound", which is why the tables are judged once a run.
-- Assumes nothing.
use Rattle.std.specs.Prelude.{ℕ, ◌%◌, ◌≡◌, true, List, [], ◌∷◌, length}
use Rattle.std.proofs.Math.Path.{refl, ap}
use Rattle.std.proofs.Common.{sym, subst, ◌∙◌, arith}
use Rattle.std.proofs.Math.Option.{Option, none, some}
use Rattle.std.proofs.Math.ListN.{get_or}
use Rattle.combine.specs.Laws.Lists.{tab-at}
use Rattle.combine.specs.Verdict.{Verdict, Said, refused, done, on_done}
use Rattle.combine.specs.Outcome.{Outcome, outcome_of, settle}
use Rattle.combine.specs.Laws.Run.{run-first}
use Rattle.placing.specs.Sizes.{entries, user_of, entry_of}
use Rattle.rules.specs.Calls.{Act, uses}
use Rattle.rules.specs.Headings.{opening}
use Rattle.rules.specs.Effects.{Use, used}
use Rattle.rules.specs.Levels.{ruled, or_blank}
use Rattle.segments.specs.Free.{SegmentOpening}
use Rattle.segments.specs.Deeds.{segment_level, segments_after}
use Rattle.tables.specs.declared.Opening.{Opening}
use Rattle.tables.specs.Layout.{opening_at}
use Rattle.tables.specs.Fields.{is_open}
use Rattle.tables.specs.Laws.Put.{opening-put}
use Rattle.cells.specs.Says.{opening_in, decoded_opening, house_of, as_opening, written}
use Rattle.cells.specs.Outcomes.{Lent, lent, sound_lent}
use Rattle.cells.specs.Laws.Written.{opening-shaped}
use Rattle.cells.specs.Laws.Lowered.{AllFit}
use Rattle.cells.specs.Laws.Uses.{verdict_on}
use Rattle.proof_cells_agree.specs.SoundSays.{sound-says}
use Rattle.proof_requests_agree.specs.Fits.{all_fit}
use Rattle.proof_requests_agree.specs.Requests.{request-sound}
use Rattle.gate_laws.specs.Standing.{Standing, standing-reached, standing-long}
use Rattle.gate_laws.specs.Used.{used_out}
use Rattle.gate_laws.specs.Gated.{request-used}
use Rattle.run_laws.specs.Singles.{use_on, Goes}

module _ (s t : List ℕ) (i : ℕ) (w : Standing (length s) t i) (a : Act) where
  pub use-used : use_on i a (lent s t) ≡ used_out s t i (opening_at t i) (verdict_on a t (opening_at t i))
  unfolding use_on
  use-used = request-used s t (user_of i) (i % 4) i (standing-reached w) a

  -- ---- the entry is open afterwards

  entry-is : i ≡ entry_of (user_of i) (i % 4)
  entry-is = omega arith

  decoded-there : get_or (house_of t).openings (entry_of (user_of i) (i % 4)) none ≡ some (opening_in (opening_at t i))
  unfolding house_of decoded_opening
  decoded-there =
      let h = w.there in
      let there : decoded_opening (opening_at t i) ≡ some (opening_in (opening_at t i)) = rw h refl in
      ap (λ (j : ℕ). get_or (house_of t).openings j none) (sym entry-is) ∙ tab-at entries (λ j. decoded_opening (opening_at t j)) i none w.entry ∙ there

  use-fits : AllFit s t (opening_in (opening_at t i)) (on_done used (verdict_on a t (opening_at t i)))
  use-fits =
      let l = w.entry in
      subst (λ (x : Option SegmentOpening). AllFit s t (or_blank (segment_level s) x) (ruled (segment_level s) (uses a) (user_of i) (house_of t) x)) decoded-there
      (all_fit s t (sound-says (length s) t w.sound) (uses a) (user_of i) (i % 4) (omega arith) (omega arith))

  open_after : (v : Verdict Use) → AllFit s t (opening_in (opening_at t i)) (on_done used v) → is_open (opening_at (used_out s t i (opening_at t i) v).after.tables i) ≡ true
  unfolding used_out settle written as_opening
  open_after (refused n) f = w.there
  open_after (done u) f =
      let y : SegmentOpening = opening u.handle (segments_after (house_of t) (opening_in (opening_at t i)) u.handle u.deed) in
      ap (λ (o : Opening). is_open o) (opening-put t (standing-long w) i (as_opening (some y)) w.entry (opening-shaped y f.entry))

  sound-after : sound_lent (use_on i a (lent s t)).after.store (use_on i a (lent s t)).after.tables ≡ true
  unfolding use_on
  sound-after = request-sound (uses a) s t (user_of i) (i % 4) w.sound

  pub stays-standing : (v : Said) (s' t' : List ℕ) → use_on i a (lent s t) ≡ outcome_of v (lent s' t') → Standing (length s') t' i
  stays-standing v s' t' e =
      record {
        sound = subst (λ (o : Outcome Lent). sound_lent o.after.store o.after.tables ≡ true) e sound-after;
        entry = w.entry;
        there = subst (λ (o : Outcome Lent). is_open (opening_at o.after.tables i) ≡ true) (sym use-used ∙ e) (open_after (verdict_on a t (opening_at t i)) use-fits);
      }

  -- ---- one act of a list

  pub one-goes : (rest : List Act) (v : ℕ) (s' t' : List ℕ) → use_on i a (lent s t) ≡ outcome_of (done v) (lent s' t') → Goes i (a ∷ rest) s t (v ∷ []) s' t'
  one-goes rest v s' t' e =
      record {
        some = omega arith;
        few = omega arith;
        standing = stays-standing (done v) s' t' e;
        left = run-first (use_on i) a rest v (lent s t) (lent s' t') e;
      }
