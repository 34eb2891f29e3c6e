-- Each outcome of an opening at a vacant entry. Assumes nothing.
use Rattle.std.specs.Prelude.{Err, Ok}
use Prim.Native.Nat.{ℕ, ◌≤◌, ◌<◌}
use mathlib.Core.Path.{◌≡◌, refl, sym, ap, subst, ◌∙◌}
use mathlib.Core.Bool.{Bool, true, false}
use mathlib.Core.Option.{none}
use mathlib.Core.List.{List}
use lib.ListN.{length}
use borrow.Author.Tests.{lt-ltb, le-ltb}
use Rattle.combine.specs.Verdict.{Verdict, done, on_done}
use Rattle.combine.specs.Laws.Verdict.{refused-here, went_on}
use Rattle.combine.specs.Outcome.{Outcome, outcome_of, settle}
use Rattle.answers.specs.declared.Refusal.{Refusal}
use Rattle.answers.specs.declared.Refusal.TheVariants.{Species}
use Rattle.answers.specs.Said.{Answer}
use Rattle.placing.specs.Sizes.{greatest_species, entry_of}
use Rattle.names.specs.Names.{name_of}
use Rattle.rules.specs.Calls.{Way, new, opens}
use Rattle.rules.specs.Effects.{Effect}
use Rattle.rules.specs.Levels.{or_blank}
use Rattle.rules.specs.Rules.{open_new, open_old, open_way}
use Rattle.segments.specs.Deeds.{segment_level}
use Rattle.tables.specs.declared.Opening.{Opening}
use Rattle.tables.specs.Layout.{record_at, opening_at, put_opening}
use Rattle.tables.specs.Fields.{is_open}
use Rattle.cells.specs.Outcomes.{Lent, lent, outcome, performed, request_out}
use Rattle.cells.specs.Laws.Entered.{request-closed}
use Rattle.cells.specs.Laws.Catalogue.{new_opening, old_opening, new-performed, old-performed}
use Rattle.catalogue_laws.specs.Places.{headings}
use Rattle.catalogue_laws.specs.Entries.{others_in}
use Rattle.catalogue_laws.specs.Determined.{record-determined}
use Rattle.open_choice.specs.Chosen.{Choice, chosen, There}
use Rattle.call_open.specs.Ways.{way_of}
use Rattle.call_open.specs.Vacant.{Vacant}

module _ (s t : List ℕ) (u e i : ℕ) (v : Vacant s t u e i) where
  -- what the rule's verdict comes to
  after : Verdict Effect → Outcome Lent
  after x = settle (lent s t) (on_done (performed s t i (or_blank (segment_level s) none)) x)

  asked : (w : Way) → request_out (opens w) s t u e ≡ after (open_way w u (headings t) (others_in t))
  unfolding headings others_in after
  asked w =
      let p = v.passed in
      let closed : is_open (opening_at t (entry_of u e)) ≡ false = ap (λ (k : ℕ). is_open (opening_at t k)) (sym p.which) ∙ v.closed in
      request-closed s t u e p.sound p.user p.entry (opens w) closed
      ∙ ap (λ (k : ℕ). settle (lent s t) (on_done (performed s t k (or_blank (segment_level s) none)) (open_way w u (headings t) (others_in t)))) (sym p.which)

  -- ---- "19 (new)"

  pub new-refused : (n : ℕ) → greatest_species < n → outcome (Err Species) s t ≡ request_out (opens (new n)) s t u e
  unfolding open_new settle after
  new-refused n l = sym (asked (new n) ∙ ap after (refused-here 19 _ _ (lt-ltb greatest_species n l)))

  pub new-done : (n : ℕ) → n ≤ greatest_species → (o : Opening) (t' : List ℕ) → o ≡ new_opening n → t' ≡ put_opening t i o → outcome (Ok 0) s t' ≡ request_out (opens (new n)) s t u e
  unfolding open_new settle after
  new-done n l o t' eo et =
      ap (λ (x : List ℕ). outcome_of (done 0) (lent s x)) (et ∙ ap (put_opening t i) eo)
      ∙ sym
      (asked (new n)
      ∙ ap after (went_on 19 _ _ _ (le-ltb greatest_species n l) refl)
      ∙ ap (λ c. outcome_of (done c.0) c.1) (new-performed s t i n (or_blank (segment_level s) none)))

  -- ---- an old file: by what was chosen

  module _ (w : Bool) (bytes : List ℕ) (n : List ℕ) (en : n ≡ name_of bytes) (g : Choice) (eg : chosen w t g ≡ open_old w u n (headings t) (others_in t)) where
    asked-old : request_out (opens (way_of w bytes)) s t u e ≡ after (chosen w t g)
    unfolding way_of
    asked-old = asked (way_of w bytes) ∙ ap after (by_way w ∙ ap (λ (x : List ℕ). open_old w u x (headings t) (others_in t)) (sym en) ∙ sym eg)
      where
        by_way : (x : Bool) → open_way (way_of x bytes) u (headings t) (others_in t) ≡ open_old x u (name_of bytes) (headings t) (others_in t)
        by_way true = refl
        by_way false = refl

    pub old-refused : (why : Refusal) → g ≡ Err why → (z : Answer) → z ≡ Err why → outcome z s t ≡ request_out (opens (way_of w bytes)) s t u e
    unfolding settle after chosen
    old-refused why at z ez = ap (λ (x : Answer). outcome x s t) ez ∙ sym (asked-old ∙ ap (λ (x : Choice). after (chosen w t x)) at)

    pub old-done : (p : ℕ) → g ≡ Ok p → There t g → (t' : List ℕ) → t' ≡ put_opening t i (old_opening w p (record_at t p)) → outcome (Ok 0) s t' ≡ request_out (opens (way_of w bytes)) s t u e
    unfolding settle after chosen
    old-done p at can t' et =
        let here : There t (Ok p) = subst (There t) at can in
        ap (λ (x : List ℕ). outcome_of (done 0) (lent s x)) et
        ∙ sym
        (asked-old
        ∙ ap (λ (x : Choice). after (chosen w t x)) at
        ∙ ap (λ c. outcome_of (done c.0) c.1) (old-performed s t i w p (or_blank (segment_level s) none) here.0 here.1 (record-determined (length s) t p v.passed.sound here.0 here.1)))
