-- What a verdict on a use comes to on lent cells: s is the store, t the tables, i an entry of 32, o its opening. Assumes nothing.
use Rattle.std.specs.Prelude.{ℕ, ◌≡◌, List}
use Rattle.std.proofs.Math.Path.{sym, ap}
use Rattle.std.proofs.Common.{◌∙◌}
use Rattle.std.proofs.Math.Option.{some}
use Rattle.combine.specs.Verdict.{Verdict, refused, done, on_done}
use Rattle.combine.specs.Outcome.{Outcome, outcome_of, settle}
use Rattle.rules.specs.Headings.{Handle, opening}
use Rattle.rules.specs.Effects.{Deed, Delivered, Use, does, used}
use Rattle.segments.specs.Deeds.{segments_after, store_after, delivered_by_segments}
use Rattle.tables.specs.declared.Opening.{Opening}
use Rattle.tables.specs.Layout.{put_opening}
use Rattle.cells.specs.Says.{opening_in, house_of, as_opening, written}
use Rattle.cells.specs.Outcomes.{Lent, lent, performed}

-- a refusal leaves all as it stood; else the use is performed
unfoldable pub used_out : List ℕ → List ℕ → ℕ → Opening → Verdict Use → Outcome Lent
used_out s t i o v = settle (lent s t) (on_done (performed s t i (opening_in o)) (on_done used v))

module _ (s t : List ℕ) (i : ℕ) (o : Opening) where
  pub used-no : (v : Verdict Use) (n : ℕ) → v ≡ refused n → outcome_of (refused n) (lent s t) ≡ used_out s t i o v
  unfolding used_out settle
  used-no v n e = sym (ap (used_out s t i o) e)

  -- the number of the answer, the store, and the opening that is put back
  pub used-done : (v : Verdict Use) (a : Delivered) (h : Handle) (d : Deed) (n : Opening) → v ≡ done (does a h d)
      → as_opening (some (opening h (segments_after (house_of t) (opening_in o) h d))) ≡ n
      → used_out s t i o v ≡ outcome_of (done (delivered_by_segments s (opening_in o) a)) (lent (store_after s (house_of t) (opening_in o) d) (put_opening t i n))
  unfolding used_out settle written
  used-done v a h d n e b =
      ap (used_out s t i o) e
      ∙ ap (λ (y : Opening). outcome_of (done (delivered_by_segments s (opening_in o) a)) (lent (store_after s (house_of t) (opening_in o) d) (put_opening t i y))) b
