-- Uses that leave the content of an opening: the outcome on cells is the outcome on the opening by value, put back. Assumes nothing.
use Rattle.std.specs.Prelude.{ℕ, ◌<◌, ◌≡◌, length}
use Rattle.std.proofs.Common.{sym, ◌∙◌}
use Rattle.std.proofs.Math.Path.{ap}
use Rattle.std.proofs.Math.Option.{some}
use mathlib.Core.List.{List}
use Rattle.combine.specs.Verdict.{Verdict, refused, done, on_done}
use Rattle.combine.specs.Outcome.{outcome_of, settle}
use Rattle.placing.specs.Sizes.{tables_length}
use Rattle.rules.specs.Headings.{Handle, opening}
use Rattle.rules.specs.Effects.{stays, plain, delivered_number, Use, does, used}
use Rattle.tables.specs.declared.Opening.{Opening}
use Rattle.tables.specs.Layout.{opening_at, put_opening}
use Rattle.tables.specs.Handles.{bit, place_number, handle_in, handled, carried}
use Rattle.tables.specs.Laws.Rows.{put-opening-again}
use Rattle.cells.specs.Says.{opening_in, as_opening, written}
use Rattle.cells.specs.Outcomes.{lent, performed}

-- a handle that differs from an opening's in pointers and name alone
pub record Alike (o : Opening) (h : Handle) : Type 0 where
  pub place : h.place ≡ (handle_in o).place
  pub permit : h.permit ≡ (handle_in o).permit
  pub species : h.species ≡ (handle_in o).species

pub record Leaving (o : Opening) (w : Use) : Type 0 where
  pub told : w.told ≡ plain (delivered_number w.told)
  pub deed : w.deed ≡ stays
  pub alike : Alike o w.handle

abbrev pub Leaves : Opening → Verdict Use → Type 0
Leaves o (refused n) = Unit {0}
Leaves o (done w) = Leaving o w

handled-back : (o : Opening) (h : Handle) → as_opening (some (opening_in o)) ≡ o → Alike o h → as_opening (some (opening h (opening_in o).content)) ≡ handled o h
unfolding as_opening
handled-back o h e a =
    let b : as_opening (some (opening_in o)) ≡ o = e in
    let p : place_number h.place ≡ o.place = ap place_number a.place ∙ ap (λ (x : Opening). x.place) b in
    let w : bit h.permit ≡ o.permit = ap bit a.permit ∙ ap (λ (x : Opening). x.permit) b in
    λ i. record {
      opened = ap (λ (x : Opening). x.opened) b i;
      place = p i;
      permit = w i;
      species = a.species i;
      pointers = (handled o h).pointers;
      name = h.name;
      segments = ap (λ (x : Opening). x.segments) b i;
    }

module _ (s t : List ℕ) (k : ℕ) (long : length t ≡ tables_length) (lk : k < 32) (determined : as_opening (some (opening_in (opening_at t k))) ≡ opening_at t k) where
  leaving : (w : Use) → Leaving (opening_at t k) w → performed s t k (opening_in (opening_at t k)) (used w) ≡ (delivered_number w.told, lent s (put_opening t k (handled (opening_at t k) w.handle)))
  unfolding written
  leaving w l =
      let o = opening_at t k in
      let e : w ≡ does (plain (delivered_number w.told)) w.handle stays = λ i. does (l.told i) w.handle (l.deed i) in
      ap (λ (x : Use). performed s t k (opening_in o) (used x)) e
      ∙ ap (λ (y : Opening). (delivered_number w.told, lent s (put_opening t k y))) (handled-back o w.handle determined l.alike)

  pub leaves-out : (v : Verdict Use) → Leaves (opening_at t k) v
      → let x = settle (opening_at t k) (on_done (carried (opening_at t k)) v) in
      settle (lent s t) (on_done (performed s t k (opening_in (opening_at t k))) (on_done used v)) ≡ outcome_of x.answer (lent s (put_opening t k x.after))
  unfolding settle
  leaves-out (refused n) l = ap (λ (y : List ℕ). outcome_of (refused n) (lent s y)) (sym (put-opening-again t long k lk))
  leaves-out (done w) l = ap (λ c. outcome_of (done c.0) c.1) (leaving w l)
