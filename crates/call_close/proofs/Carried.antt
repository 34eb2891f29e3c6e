-- Each plan carried out on the tables t, at entry i. Assumes nothing.
use Rattle.std.specs.Prelude.{Ok}
use Prim.Native.Nat.{ℕ, ◌<◌}
use mathlib.Core.Path.{◌≡◌, sym, ap, subst, ◌∙◌}
use mathlib.Core.Bool.{Bool}
use mathlib.Core.List.{List}
use Rattle.combine.specs.Verdict.{done}
use Rattle.combine.specs.Outcome.{Outcome, outcome_of}
use Rattle.placing.specs.Sizes.{places}
use Rattle.tables.specs.declared.Record.{Record}
use Rattle.tables.specs.declared.Opening.{Opening}
use Rattle.tables.specs.Layout.{put_record, put_opening, unused_record, closed_opening}
use Rattle.cells.specs.Laws.Catalogue.{filed_record}
use Rattle.close_choice.specs.declared.Plan.{Plan}
use Rattle.close_choice.specs.declared.Plan.TheVariants.{Ends, Unfiles, Files}
use Rattle.close_choice.specs.Planned.{InRange}
use Rattle.call_close.specs.Carried.{carried}

module _ (plan : Plan) (r : InRange (Ok plan)) where
  pub unfiles-inside : (p : ℕ) → plan ≡ Unfiles p → p < places
  unfiles-inside p e = subst (λ (x : Plan). InRange (Ok x)) e r

  pub files-inside : (p : ℕ) (public : Bool) → plan ≡ Files p public → p < places
  files-inside p public e = subst (λ (x : Plan). InRange (Ok x)) e r

module _ (t : List ℕ) (i u : ℕ) (o : Opening) (plan : Plan) where
  by-plan : (x : Plan) → plan ≡ x → carried t i u o x ≡ carried t i u o plan
  by-plan x e = ap (carried t i u o) (sym e)

  -- what is left is that the opening ends: x is the answer with the tables then
  module _ (x : Outcome (List ℕ)) where
    pub carried-ends : plan ≡ Ends → x ≡ outcome_of (done 0) (put_opening t i closed_opening) → x ≡ carried t i u o plan
    unfolding carried
    carried-ends e h = h ∙ by-plan Ends e

    module _ (f : Record) (t' : List ℕ) (p : ℕ) (et : t' ≡ put_record t p f) (h : x ≡ outcome_of (done 0) (put_opening t' i closed_opening)) where
      written : (y : Record) → f ≡ y → x ≡ outcome_of (done 0) (put_opening (put_record t p y) i closed_opening)
      written y e = h ∙ ap (λ (l : List ℕ). outcome_of (done 0) (put_opening l i closed_opening)) (et ∙ ap (put_record t p) e)

      pub carried-unfiles : plan ≡ Unfiles p → f ≡ unused_record → x ≡ carried t i u o plan
      unfolding carried
      carried-unfiles e ef = written unused_record ef ∙ by-plan (Unfiles p) e

      pub carried-files : (public : Bool) → plan ≡ Files p public → f ≡ filed_record public u o → x ≡ carried t i u o plan
      unfolding carried
      carried-files public e ef = written (filed_record public u o) ef ∙ by-plan (Files p public) e
