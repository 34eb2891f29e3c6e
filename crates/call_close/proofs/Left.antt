-- Each outcome of a close and of an abandon. Assumes nothing.
use Rattle.std.specs.Prelude.{Err, Ok}
use Prim.Native.Nat.{ℕ, ◌≤◌}
use mathlib.Core.Path.{◌≡◌, sym, ap, subst, ◌∙◌}
use mathlib.Core.Bool.{Bool, true}
use mathlib.Core.Option.{some}
use mathlib.Core.List.{List}
use lib.ListN.{length}
use Rattle.combine.specs.Verdict.{Verdict, Said, done, on_done}
use Rattle.combine.specs.Outcome.{Outcome, outcome_of, settle}
use Rattle.answers.specs.declared.Refusal.{Refusal}
use Rattle.answers.specs.Said.{Answer}
use Rattle.placing.specs.Sizes.{places, entry_of}
use Rattle.rules.specs.Calls.{Request, closes, abandons}
use Rattle.rules.specs.Effects.{Effect, ended}
use Rattle.rules.specs.Rules.{close_rule}
use Rattle.rules.specs.Levels.{ruled}
use Rattle.segments.specs.Deeds.{segment_level}
use Rattle.tables.specs.declared.Opening.{Opening}
use Rattle.tables.specs.Layout.{opening_at, put_opening, closed_opening}
use Rattle.tables.specs.Handles.{handle_in}
use Rattle.cells.specs.Says.{opening_in, house_of, as_opening}
use Rattle.cells.specs.Outcomes.{Lent, lent, outcome, performed, request_out}
use Rattle.cells.specs.Laws.Entered.{request-open, open-determined}
use Rattle.cells.specs.Laws.Catalogue.{ended-performed, unfiled-performed, filed-performed}
use Rattle.catalogue_laws.specs.Places.{headings}
use Rattle.gate.specs.Gates.{Gate, reach_of}
use Rattle.gate.specs.Passed.{needs_open, Reached, reaches, reaches-not}
use Rattle.gate_laws.specs.Behind.{reached-open, reached-sound}
use Rattle.close_choice.specs.declared.Plan.{Plan}
use Rattle.close_choice.specs.declared.Plan.TheVariants.{Ends, Unfiles, Files}
use Rattle.close_choice.specs.Planned.{Decision, planned}
use Rattle.call_close.specs.Carried.{carried}

module _ (s t : List ℕ) (u e : ℕ) (g : Gate) (eg : g ≡ reach_of (length s) t u e) where
  pub left_not : (q : Request) → needs_open q ≡ true → (why : Refusal) → g ≡ Err why → (z : Answer) → z ≡ Err why → outcome z s t ≡ request_out q s t u e
  left_not q needs why at z ez = ap (λ (x : Answer). outcome x s t) ez ∙ reaches-not s t u e g eg q needs why at

  module _ (i : ℕ) (at : g ≡ Ok i) where
    pub here : Reached (length s) t u e i
    here = reaches s t u e g eg i at

    module _ (o : Opening) (eo : o ≡ opening_at t i) where
      pub left-place : o.place ≤ places
      left-place = subst (λ (x : Opening). x.place ≤ places) (sym eo) (reached-sound here).place

      -- what a verdict comes to
      after : Verdict Effect → Outcome Lent
      after x = settle (lent s t) (on_done (performed s t i (opening_in o)) x)

      determined : as_opening (some (opening_in o)) ≡ o
      determined =
          let p = here.passed in
          let k : o ≡ opening_at t (entry_of u e) = eo ∙ ap (opening_at t) p.which in
          subst (λ (x : Opening). as_opening (some (opening_in x)) ≡ x) (sym k) (open-determined s t u e p.sound p.user p.entry (reached-open here))

      asked : (q : Request) → request_out q s t u e ≡ after (ruled (segment_level s) q u (house_of t) (some (opening_in o)))
      unfolding after
      asked q =
          let p = here.passed in
          request-open s t u e p.sound p.user p.entry q (reached-open here) ∙ ap (λ (j : ℕ). settled j (opening_at t j)) (sym p.which) ∙ ap (settled i) (sym eo)
        where
          settled : ℕ → Opening → Outcome Lent
          settled j y = settle (lent s t) (on_done (performed s t j (opening_in y)) (ruled (segment_level s) q u (house_of t) (some (opening_in y))))

      ends : outcome_of (done 0) (lent s (put_opening t i closed_opening)) ≡ after (done ended)
      unfolding after settle
      ends = ap (λ c. outcome_of (done c.0) c.1) (sym (ended-performed s t i (opening_in o)))

      -- the plan does what the effect does
      performs : (plan : Plan) → let x = carried t i u o plan in outcome_of x.answer (lent s x.after) ≡ after (planned u o (Ok plan))
      unfolding carried planned after settle
      performs Ends = ends
      performs (Unfiles p) = ap (λ c. outcome_of (done c.0) c.1) (sym (unfiled-performed s t i (opening_in o) p))
      performs (Files p public) = ap (λ c. outcome_of (done c.0) c.1) (sym (filed-performed s t i public u p o determined))

      pub abandoned : (a : Said) (t' : List ℕ) → outcome_of a t' ≡ outcome_of (done 0) (put_opening t i closed_opening) → outcome_of a (lent s t') ≡ request_out abandons s t u e
      abandoned a t' er = ap (λ (x : Outcome (List ℕ)). outcome_of x.answer (lent s x.after)) er ∙ ends ∙ sym (asked abandons)

      -- ---- a close, by what was decided

      module _ (public : Bool) (d : Decision) (ed : planned u o d ≡ close_rule public u (headings t) (handle_in o)) where
        asked-close : after (planned u o d) ≡ request_out (closes public) s t u e
        unfolding headings
        asked-close = ap after ed ∙ sym (asked (closes public))

        pub close-refused : (why : Refusal) → d ≡ Err why → (z : Answer) → z ≡ Err why → outcome z s t ≡ request_out (closes public) s t u e
        unfolding planned after settle
        close-refused why at z ez = ap (λ (x : Answer). outcome x s t) ez ∙ ap (λ (x : Decision). after (planned u o x)) (sym at) ∙ asked-close

        pub closed_out : (plan : Plan) → d ≡ Ok plan → (a : Said) (t' : List ℕ) → outcome_of a t' ≡ carried t i u o plan → outcome_of a (lent s t') ≡ request_out (closes public) s t u e
        closed_out plan at a t' er =
            ap (λ (x : Outcome (List ℕ)). outcome_of x.answer (lent s x.after)) er ∙ performs plan ∙ ap (λ (x : Decision). after (planned u o x)) (sym at) ∙ asked-close
