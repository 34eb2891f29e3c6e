-- Demand 3: an opening that is abandoned leaves no trace. Assumes nothing.
use Rattle.std.specs.Prelude.{ℕ, ◌≡◌, refl, List, [], ◌∷◌, ◌++◌, map, T, length, get_or}
use Rattle.std.proofs.Common.{sym, ap, ap₂, ◌∙◌, subst, ⊎_elim, append_assoc}
use Rattle.std.proofs.Math.Option.{none}
use Rattle.combine.specs.Laws.Below.{split-bool}
use Rattle.combine.specs.Verdict.{Said, is_done}
use Rattle.combine.specs.Outcome.{Outcome}
use Rattle.placing.specs.Sizes.{entry_of}
use Rattle.rules.specs.Calls.{Way, opens, Call, on}
use Rattle.segments.specs.Free.{free_count}
use Rattle.cells.specs.Says.{house_of}
use Rattle.cells.specs.Outcomes.{Lent, sound_lent}
use Rattle.model.specs.Model.{Model, free}
use Rattle.model.specs.Step.{Report}
use Rattle.model.specs.View.{view}
use Rattle.proof_cells_agree.specs.SoundSays.{sound-says}
use Rattle.proof_calls_sound.specs.Keeps.{keeps-sound}
use Rattle.proof_model.specs.Counted.{free_seen}
use Rattle.demands.specs.History.{outcome_on, after_call, told_of, view_on, told_all, final}
use Rattle.demands.specs.Hearing.{Fate, remains, left_fate, hear, heard, heard_of}
use Rattle.demands.specs.Demands.{Sound}
use Rattle.demands.specs.Laws.Unsound.{refuses-unsound}
use Rattle.demands.specs.Abandoning.{NoLoad, between_fate, strike, Story, opening_call, abandoning, whole, rest, whole_fates, rest_fates, Abandoned, Demand3}
use Rattle.proof_demand2.specs.Demand2.{answer-known, after-known}
use Rattle.proof_demand3.specs.Eased.{emptied}
use Rattle.proof_demand3.specs.Own.{Begun, begun, request-own, emptied-closed}
use Rattle.proof_demand3.proofs.Beside.{Beside, abandoned-seen}
use Rattle.proof_demand3.proofs.Histories.{BetweenAlike, between-alike, KnownSame, LaterAlike, later-alike}

-- ---- one history after another

final-joined : (cs ds : List Call) (x : Lent) → final (cs ++ ds) x ≡ final ds (final cs x)
final-joined [] ds x = refl
final-joined (c ∷ cs) ds x = final-joined cs ds (after_call c x)

heard-joined : (f : Call → Fate) (cs ds : List Call) (fs : List Fate) (x : Lent)
    → heard (map f cs ++ fs) (told_all (cs ++ ds) x) ≡ heard_of f cs x ++ heard fs (told_all ds (final cs x))
heard-joined f [] ds fs x = refl
heard-joined f (c ∷ cs) ds fs x =
    ap (λ (l : List Report). hear (f c) (told_of c x) ++ l) (heard-joined f cs ds fs (after_call c x))
    ∙ sym (append_assoc (hear (f c) (told_of c x)) (heard_of f cs (after_call c x)) (heard fs (told_all ds (final cs (after_call c x)))))

-- ---- an opening that is done found sound tables, and its entry closed

module _ (u e : ℕ) (w : Way) (x : Lent) (opened : T (is_done (outcome_on (on u e (opens w)) x).answer)) where
  pub found-sound : Sound x
  found-sound = ⊎_elim (λ s. s)
      (λ n. absurd (subst (λ (o : Outcome Lent). T (is_done o.answer)) (refuses-unsound (on u e (opens w)) x refl n) opened))
      (split-bool (sound_lent x.store x.tables))

  found : Begun u e (get_or (view_on x).house.openings (entry_of u e) none)
  found = begun u e (view_on x) w (subst (λ (a : Said). T (is_done a)) (answer-known (on u e (opens w)) x found-sound) opened)

  -- after the opening, beside before it
  pub opened-beside : Beside (entry_of u e) (after_call (on u e (opens w)) x) x
  opened-beside = record {
    with = keeps-sound (on u e (opens w)) x found-sound;
    without = found-sound;
    seen = sym (ap (emptied (entry_of u e)) (after-known (on u e (opens w)) x found-sound) ∙ request-own u e (view_on x) (opens w) tt ∙ emptied-closed (view_on x) (entry_of u e) found.closed);
  }

-- ---- the number of free segments is seen

free-known : (x : Lent) → Sound x → free_count (house_of x.tables) ≡ free (view_on x).house
unfolding view
free-known x s = sym (free_seen x.store (house_of x.tables) (sound-says (length x.store) x.tables s))

-- ---- the demand

module _ (h : Story) (x : Lent) (a : Abandoned h x) where
  abbrev u : ℕ
  u = h.user

  abbrev e : ℕ
  e = h.entry

  abbrev found-cells : Lent
  found-cells = final h.before x

  abbrev opened-cells : Lent
  opened-cells = after_call (opening_call h) found-cells

  -- from the opening to the abandonment
  abbrev lived : List Call
  lived = opening_call h ∷ (h.between ++ abandoning h ∷ [])

  begin : Begun u e (get_or (view_on found-cells).house.openings (entry_of u e) none)
  begin = found u e h.way found-cells a.opened

  between : BetweenAlike u e begin.entry h.between opened-cells found-cells
  between = between-alike u e begin.entry h.between opened-cells found-cells (opened-beside u e h.way found-cells a.opened) a.quietly

  abbrev left-cells : Lent
  left-cells = after_call (abandoning h) (final h.between opened-cells)

  abbrev struck-cells : Lent
  struck-cells = final (strike u e h.between) found-cells

  left-known : KnownSame left-cells struck-cells
  left-known = record {
    here = keeps-sound (abandoning h) _ between.after.with;
    there = between.after.without;
    seen = abandoned-seen u e _ _ between.after begin.user begin.entry;
  }

  not-loaded : NoLoad h.later left-cells
  not-loaded = subst (NoLoad h.later) (final-joined h.before lived x ∙ final-joined h.between (abandoning h ∷ []) opened-cells) a.no_load

  later : LaterAlike h.later left-cells struck-cells
  later = later-alike h.later left-cells struck-cells left-known not-loaded

  -- the ends of the two histories
  whole-end : final (whole h) x ≡ final h.later left-cells
  whole-end = final-joined h.before _ x ∙ final-joined h.between _ opened-cells

  rest_end : final (rest h) x ≡ final h.later struck-cells
  rest_end = final-joined h.before _ x ∙ final-joined (strike u e h.between) _ found-cells

  ends-known : KnownSame (final (whole h) x) (final (rest h) x)
  ends-known = subst (λ (y : Lent). KnownSame y (final (rest h) x)) (sym whole-end) (subst (KnownSame (final h.later left-cells)) (sym rest_end) later.after)

  same-answers : heard (whole_fates h) (told_all (whole h) x) ≡ heard (rest_fates h) (told_all (rest h) x)
  same-answers =
      heard-joined (λ c. remains) h.before _ _ x
      ∙ ap (λ (l : List Report). heard_of (λ c. remains) h.before x ++ l)
      (heard-joined (between_fate u e) h.between _ _ opened-cells ∙ ap₂ {C = List Report} (λ k l. k ++ l) between.told later.told ∙ sym (heard-joined left_fate (strike u e h.between) _ _ found-cells))
      ∙ sym (heard-joined (λ c. remains) h.before _ _ x)

pub demand3 : Demand3
demand3 h x a =
    let k = ends-known h x a in
    record {
      same_answers = same-answers h x a;
      same_state = k.seen;
      same_free = free-known (final (whole h) x) k.here ∙ ap (λ (m : Model). free m.house) k.seen ∙ sym (free-known (final (rest h) x) k.there);
    }
