-- What users know of two stores that are the same in a user's sight is the same, blotted for him; so he is told the same. Assumes nothing.
use Rattle.std.specs.Prelude.{ℕ, ◌≡◌, refl, Bool, true, false, cond, List, [], map, T, eqb, length, get_or}
use Rattle.std.proofs.Common.{arith, sym, ap, ◌∙◌, subst, ⊎_elim, eqb→eq, ext_get_or}
use Rattle.std.proofs.Math.Option.{Option, none, some}
use Rattle.std.proofs.lemmas.List.{length-map}
use Rattle.std.proofs.Math.ListN.{get_or-map}
use Rattle.combine.specs.Laws.Below.{split-bool}
use Rattle.combine.specs.Verdict.{refuse◌when◌else◌}
use Rattle.combine.specs.Outcome.{Outcome}
use Rattle.combine.specs.Run.{Ran, ran}
use Rattle.placing.specs.Placing.{segment, position, slot_of}
use Rattle.placing.specs.Sizes.{Cells, user_of}
use Rattle.placing.specs.Laws.Held.{slot-within}
use Rattle.store.specs.Store.{segment_of, elements_in}
use Rattle.store.specs.Laws.Elements.{element-of-cells}
use Rattle.store.specs.Laws.Files.{elements-ext}
use Rattle.rules.specs.Calls.{Run, writes, fills, save, count, Call, starts, asks, arranges, on, runs}
use Rattle.rules.specs.Gates.{user_gate, entry_gate}
use Rattle.rules.specs.Headings.{Open, filing, opening, value}
use Rattle.rules.specs.House.{house}
use Rattle.rules.specs.Readable.{may_read}
use Rattle.rules.specs.Runs.{run_answer, run_told, no_run}
use Rattle.segments.specs.Free.{SegmentRecord, SegmentOpening, SegmentHouse, opening_segments}
use Rattle.segments.specs.Laws.Sound.{SoundFile, SoundPlace, SoundEntry, SoundHouse}
use Rattle.tables.specs.Sound.{soundb}
use Rattle.cells.specs.Says.{house_of}
use Rattle.cells.specs.Outcomes.{Lent, lent, sound_lent, run_out}
use Rattle.model.specs.Model.{File, Body, body, Model, model}
use Rattle.model.specs.Step.{Look, Report, step, step_told}
use Rattle.model.specs.View.{view_place, view_entry, view_opening, view}
use Rattle.proof_requests_sound.specs.Counts.{in-at}
use Rattle.proof_cells_agree.specs.SoundSays.{sound-says}
use Rattle.proof_demand2.specs.Demand2.{told-known, after-known}
use Rattle.demands.specs.History.{after_call, told_of, look_on, view_on}
use Rattle.demands.specs.Demands.{Sound}
use Rattle.demands.specs.Laws.Unsound.{refuses-unsound}
use Rattle.demands.specs.Private.{is_of, blot_file, blot_opening, blot_openings, blotted, SameIn, SameInSight, AnsweredFromNone}
use Rattle.proof_neighbours.specs.Blotted.{openings-length, opening-at}
use Rattle.proof_neighbours.proofs.AnsweredFromNone.{answered-from-none-known}

-- ---- the elements of a file are of its segments' cells

elements_same : (s s' : Cells) (n sp b e : ℕ) (gs : List ℕ) → SoundFile n sp b e gs → SameIn s s' gs → elements_in s' gs sp b e ≡ elements_in s gs sp b e
unfolding segment_of
elements_same s s' n sp b e gs f same =
    elements-ext s' s gs gs sp b e
    (λ x l m. let g = segment_of gs sp b x in
    element-of-cells s' s sp f.species (segment g) (segment g) (position x)
    (λ c r. same g c (in-at g gs (slot_of sp b x) (omega (arith, f.each, slot-within sp f.species b f.first e x l m)) refl) r))

module _ (u : ℕ) (h : SegmentHouse) (sound : SoundHouse h) (s s' : Cells) (sight : SameInSight u h s s') where
  -- ---- records

  file-same : (p : ℕ) (r : Option SegmentRecord) → get_or h.records p none ≡ r → SoundPlace h.segments r → blot_file u (view_place s' r) ≡ blot_file u (view_place s r)
  file-same p none e f = refl
  file-same p (some r) e f = go (may_read u r.head) refl
    where
      elements : Cells → List ℕ
      elements z = elements_in z r.content r.head.species r.head.begin r.head.end

      blot : Bool → List ℕ → Option File
      blot b l = some (cond b (filing r.head l) (filing r.head []))

      go : (b : Bool) → may_read u r.head ≡ b → blot b (elements s') ≡ blot b (elements s)
      go true q = ap (blot true) (elements_same s s' h.segments _ _ _ r.content f.file (sight.files p r e (rw q tt)))
      go false q = refl

  records-same : map (blot_file u) (map (view_place s') h.records) ≡ map (blot_file u) (map (view_place s) h.records)
  records-same =
      ext_get_or none _ _ (long s' ∙ sym (long s))
      (λ p l. at s' p ∙ file-same p (get_or h.records p none) refl (sound.records p) ∙ sym (at s p))
    where
      long : (z : Cells) → length (map (blot_file u) (map (view_place z) h.records)) ≡ length h.records
      long z = length-map (map (view_place z) h.records) (blot_file u) ∙ length-map h.records (view_place z)

      at : (z : Cells) (p : ℕ) → get_or (map (blot_file u) (map (view_place z) h.records)) p none ≡ blot_file u (view_place z (get_or h.records p none))
      at z p = get_or-map (blot_file u) (map (view_place z) h.records) p none ∙ ap (blot_file u) (get_or-map (view_place z) h.records p none)

  -- ---- openings

  opening-same : (i : ℕ) (x : Option SegmentOpening) → get_or h.openings i none ≡ x → SoundEntry h.segments (user_of i) h.records x
      → blot_opening u i (view_entry s' h.records x) ≡ blot_opening u i (view_entry s h.records x)
  opening-same i none e f = refl
  opening-same i (some x) e f = go (eqb (user_of i) u) refl
    where
      elements : Cells → List ℕ
      elements z = elements_in z x.content x.handle.species (value x.handle 0) (value x.handle 1)

      flags : List Bool
      flags = (view_opening s h.records x).content.shared

      blot : Bool → List ℕ → Option (Open Body)
      blot b l = some (cond b (opening x.handle (body l flags)) (opening x.handle (body [] flags)))

      go : (b : Bool) → eqb (user_of i) u ≡ b → blot b (elements s') ≡ blot b (elements s)
      go true q = ap (blot true)
          (elements_same s s' h.segments _ _ _ x.content f.file
          (subst (λ (z : Option SegmentOpening). SameIn s s' (opening_segments z)) e (sight.openings i (eqb→eq (user_of i) u (rw q tt)))))
      go false q = refl

  openings-same : blot_openings u 0 (map (view_entry s' h.records) h.openings) ≡ blot_openings u 0 (map (view_entry s h.records) h.openings)
  openings-same =
      ext_get_or none _ _ (long s' ∙ sym (long s))
      (λ i l. at s' i ∙ opening-same i (get_or h.openings i none) refl (sound.openings i) ∙ sym (at s i))
    where
      long : (z : Cells) → length (blot_openings u 0 (map (view_entry z h.records) h.openings)) ≡ length h.openings
      long z = openings-length u 0 (map (view_entry z h.records) h.openings) ∙ length-map h.openings (view_entry z h.records)

      at : (z : Cells) (i : ℕ) → get_or (blot_openings u 0 (map (view_entry z h.records) h.openings)) i none ≡ blot_opening u i (view_entry z h.records (get_or h.openings i none))
      at z i = opening-at u (map (view_entry z h.records) h.openings) i ∙ ap (blot_opening u i) (get_or-map (view_entry z h.records) h.openings i none)

-- ---- on sound cells

sight-blotted : (u : ℕ) (x : Lent) (s : Cells) → Sound x → SameInSight u (house_of x.tables) x.store s → blotted u (view_on (lent s x.tables)) ≡ blotted u (view_on x)
unfolding view
sight-blotted u x s sound sight =
    let h = house_of x.tables in
    let says = sound-says (length x.store) x.tables sound in
    λ i. model (sight.long i) (house h.segments (records-same u h says x.store s sight i) (openings-same u h says x.store s sight i))

-- no call of a user looks at an image
blind-told : (u : ℕ) (c : Call) (f g : Look) (m : Model) → T (is_of u c) → step_told f c m ≡ step_told g c m
blind-told u (starts c) f g m t = absurd t
blind-told u (asks (save img)) f g m t = absurd t
blind-told u (asks (count v)) f g m t = refl
blind-told u (arranges q) f g m t = absurd t
blind-told u (on v e r) f g m t = refl
blind-told u (runs v e r) f g m t = refl

-- ---- on any other: 20, and nothing is told beside it

run-unsound : (r : Run) (u e : ℕ) (x : Lent) → sound_lent x.store x.tables ≡ false → run_out r x.store x.tables u e ≡ ran 0 20 [] x
unfolding run_out user_gate entry_gate refuse◌when◌else◌
run-unsound r u e x q = rw q refl

told-unsound : (u : ℕ) (c : Call) (x y : Lent) → T (is_of u c) → sound_lent x.store x.tables ≡ false → sound_lent y.store y.tables ≡ false → told_of c x ≡ told_of c y
told-unsound u (starts c) x y t p q = absurd t
told-unsound u (asks (save img)) x y t p q = absurd t
told-unsound u (asks (count v)) x y t p q =
    let told : Outcome Lent → Report = λ o. record { answer = o.answer; image = none; run = no_run } in
    ap told (refuses-unsound (asks (count v)) x refl p) ∙ sym (ap told (refuses-unsound (asks (count v)) y refl q))
told-unsound u (arranges c) x y t p q = absurd t
told-unsound u (on v d r) x y t p q =
    let told : Outcome Lent → Report = λ o. record { answer = o.answer; image = none; run = no_run } in
    ap told (refuses-unsound (on v d r) x refl p) ∙ sym (ap told (refuses-unsound (on v d r) y refl q))
told-unsound u (runs v d r) x y t p q = go r (run-unsound r v d x p) (run-unsound r v d y q)
  where
    go : (r : Run) → run_out r x.store x.tables v d ≡ ran 0 20 [] x → run_out r y.store y.tables v d ≡ ran 0 20 [] y → told_of (runs v d r) x ≡ told_of (runs v d r) y
    go (writes n l) e f =
        let told : Ran Lent → Report = λ k. record { answer = run_answer k; image = none; run = run_told (writes n l) k } in
        ap told e ∙ sym (ap told f)
    go (fills n l) e f =
        let told : Ran Lent → Report = λ k. record { answer = run_answer k; image = none; run = run_told (fills n l) k } in
        ap told e ∙ sym (ap told f)

blind-after : (u : ℕ) (c : Call) (f g : Look) (m : Model) → T (is_of u c) → (step f c m).after ≡ (step g c m).after
blind-after u (starts c) f g m t = absurd t
blind-after u (asks (save img)) f g m t = absurd t
blind-after u (asks (count v)) f g m t = refl
blind-after u (arranges q) f g m t = absurd t
blind-after u (on v e r) f g m t = refl
blind-after u (runs v e r) f g m t = refl

-- ---- on any cells

module _ (u : ℕ) (c : Call) (x : Lent) (s : Cells) (own : T (is_of u c)) (sight : SameInSight u (house_of x.tables) x.store s) where
  abbrev y : Lent
  y = lent s x.tables

  -- whether tables are sound is seen by the store's length
  there : (b : Bool) → sound_lent x.store x.tables ≡ b → sound_lent s x.tables ≡ b
  there b e = subst (λ (n : ℕ). soundb n x.tables ≡ b) (sym sight.long) e

  told_same : Sound x → told_of c y ≡ told_of c x
  told_same sound =
      told-known c y (there true sound)
      ∙ sym (answered-from-none-known u c (look_on y) (view_on y) own).0 ∙ ap (step_told (look_on y) c) (sight-blotted u x s sound sight) ∙ (answered-from-none-known u c (look_on y) (view_on x) own).0
      ∙ blind-told u c (look_on y) (look_on x) (view_on x) own ∙ sym (told-known c x sound)

  after_same : Sound x → blotted u (view_on (after_call c y)) ≡ blotted u (view_on (after_call c x))
  after_same sound =
      ap (blotted u) (after-known c y (there true sound))
      ∙ sym (answered-from-none-known u c (look_on y) (view_on y) own).1 ∙ ap (λ (m : Model). (step (look_on y) c m).after) (sight-blotted u x s sound sight)
      ∙ (answered-from-none-known u c (look_on y) (view_on x) own).1
      ∙ ap (blotted u) (blind-after u c (look_on y) (look_on x) (view_on x) own ∙ sym (after-known c x sound))

pub answered-from-none : AnsweredFromNone
answered-from-none u c x s own sight = (
  ⊎_elim (told_same u c x s own sight) (λ e. told-unsound u c (lent s x.tables) x own (there u c x s own sight false e) e) (split-bool (sound_lent x.store x.tables)),
  after_same u c x s own sight,
)
