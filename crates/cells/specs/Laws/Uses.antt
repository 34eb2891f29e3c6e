-- Every use that leaves the content, on the cells of sound tables: the rule is asked with the opening's handle, and its outcome on the opening
-- by value is put back. Assumes nothing.
use Rattle.std.specs.Prelude.{ℕ, ◌≤◌, ◌≡◌, Bool, length}
use Rattle.std.proofs.Math.Path.{refl, ap}
use Rattle.std.proofs.Common.{◌∙◌, arith}
use Rattle.std.proofs.Math.Bool.{true, false}
use mathlib.Core.List.{List}
use Rattle.combine.specs.Laws.Below.{not-both}
use Rattle.combine.specs.Verdict.{Verdict, done, on_done, refuse◌when◌else◌}
use Rattle.combine.specs.Outcome.{outcome_of, settle}
use Rattle.placing.specs.Sizes.{greatest_user, greatest_entry, entry_of, tables_length}
use Rattle.rules.specs.Calls.{Act, rename, reset, new_pointer, delete_pointer, write, next, prev, write_signed, next_signed, prev_signed, ask_species, ask_claim, ask_permit, ask_symbol, ask_begin, ask_end, ask_value, uses}
use Rattle.rules.specs.Headings.{Handle}
use Rattle.rules.specs.Effects.{stays, plain, Use, does}
use Rattle.rules.specs.Access.{new_pointer_rule, delete_pointer_rule, value_rule, rename_rule, asked, acting}
use Rattle.segments.specs.Free.{has_room}
use Rattle.segments.specs.Deeds.{takes_at}
use Rattle.tables.specs.declared.Opening.{Opening}
use Rattle.tables.specs.Layout.{opening_at, put_opening}
use Rattle.tables.specs.Fields.{is_open}
use Rattle.tables.specs.Handles.{handle_in, handled, carried}
use Rattle.tables.specs.Laws.Again.{positions-again}
use Rattle.tables.specs.Laws.Rows.{put-opening-again}
use Rattle.tables.specs.Laws.Sound.{ranged-of}
use Rattle.cells.specs.Says.{opening_in, house_of}
use Rattle.cells.specs.Outcomes.{lent, sound_lent, request_out}
use Rattle.cells.specs.Laws.Entered.{request-open, open-determined}
use Rattle.cells.specs.Laws.Leaves.{Alike, Leaving, Leaves, leaves-out}

-- the acts that leave the content
abbrev pub leaves_content : Act → Bool
leaves_content (rename bytes) = true
leaves_content reset = true
leaves_content (new_pointer p) = true
leaves_content (delete_pointer p) = true
leaves_content (write p n) = false
leaves_content (next p) = false
leaves_content (prev p) = false
leaves_content (write_signed p z) = false
leaves_content (next_signed p) = false
leaves_content (prev_signed p) = false
leaves_content ask_species = true
leaves_content ask_claim = true
leaves_content ask_permit = true
leaves_content (ask_symbol k) = true
leaves_content ask_begin = true
leaves_content ask_end = true
leaves_content (ask_value p) = true

-- the act's chain, with the handle that the cells of an opening say
abbrev pub verdict_on : Act → List ℕ → Opening → Verdict Use
verdict_on a t o = acting a (takes_at (house_of t).records (opening_in o)) (has_room (house_of t)) (handle_in o)

module _ (o : Opening) where
  or-refused : (n : ℕ) (b : Bool) (v : Verdict Use) → Leaves o v → Leaves o (refuse◌when◌else◌ n b v)
  unfolding refuse◌when◌else◌
  or-refused n true v l = tt
  or-refused n false v l = l

  leaving : (n : ℕ) (h : Handle) → Alike o h → Leaving o (does (plain n) h stays)
  leaving n h a = record { told = refl; deed = refl; alike = a }

  alike : Alike o (handle_in o)
  alike = record { place = refl; permit = refl; species = refl }

  leaves-acting : (a : Act) (takes : ℕ → Bool) (room : Bool) → leaves_content a ≡ true → Leaves o (acting a takes room (handle_in o))
  unfolding new_pointer_rule delete_pointer_rule value_rule rename_rule
  leaves-acting (rename bytes) takes room q = or-refused 5 _ _ (leaving _ _ (record { place = refl; permit = refl; species = refl }))
  leaves-acting reset takes room q = leaving _ _ (record { place = refl; permit = refl; species = refl })
  leaves-acting (new_pointer p) takes room q = or-refused 4 _ _ (or-refused 21 _ _ (leaving _ _ (record { place = refl; permit = refl; species = refl })))
  leaves-acting (delete_pointer p) takes room q = or-refused 4 _ _ (leaving _ _ (record { place = refl; permit = refl; species = refl }))
  leaves-acting (write p n) takes room q = absurd (not-both q refl)
  leaves-acting (next p) takes room q = absurd (not-both q refl)
  leaves-acting (prev p) takes room q = absurd (not-both q refl)
  leaves-acting (write_signed p z) takes room q = absurd (not-both q refl)
  leaves-acting (next_signed p) takes room q = absurd (not-both q refl)
  leaves-acting (prev_signed p) takes room q = absurd (not-both q refl)
  leaves-acting ask_species takes room q = leaving _ _ alike
  leaves-acting ask_claim takes room q = leaving _ _ alike
  leaves-acting ask_permit takes room q = leaving _ _ alike
  leaves-acting (ask_symbol k) takes room q = leaving _ _ alike
  leaves-acting ask_begin takes room q = leaving _ _ alike
  leaves-acting ask_end takes room q = leaving _ _ alike
  leaves-acting (ask_value p) takes room q = or-refused 4 _ _ (leaving _ _ alike)

  -- an opening with its own handle
  pub handled-same : handled o (handle_in o) ≡ o
  handled-same = ap (λ ps. record { opened = o.opened; place = o.place; permit = o.permit; species = o.species; pointers = ps; name = o.name; segments = o.segments }) (positions-again o.pointers)

module _ (s t : List ℕ) (u e : ℕ) (sound : sound_lent s t ≡ true) (lu : u ≤ greatest_user) (le : e ≤ greatest_entry) (there : is_open (opening_at t (entry_of u e)) ≡ true) where
  long : length t ≡ tables_length
  long = (ranged-of (length s) t sound).0

  pub use-out : (a : Act) → leaves_content a ≡ true
      → let x = settle (opening_at t (entry_of u e)) (on_done (carried (opening_at t (entry_of u e))) (verdict_on a t (opening_at t (entry_of u e)))) in
      request_out (uses a) s t u e ≡ outcome_of x.answer (lent s (put_opening t (entry_of u e) x.after))
  use-out a q =
      let o = opening_at t (entry_of u e) in
      request-open s t u e sound lu le (uses a) there
      ∙ leaves-out s t (entry_of u e) long (omega arith) (open-determined s t u e sound lu le there) (verdict_on a t o) (leaves-acting o a _ _ q)

  -- an inquiry that is never refused
  pub asked-out : (a : Act) (n : ℕ) → leaves_content a ≡ true → verdict_on a t (opening_at t (entry_of u e)) ≡ asked n (handle_in (opening_at t (entry_of u e)))
      → request_out (uses a) s t u e ≡ outcome_of (done n) (lent s t)
  unfolding settle
  asked-out a n q v =
      let o = opening_at t (entry_of u e) in
      use-out a q
      ∙ ap (λ (w : Verdict Use). let x = settle o (on_done (carried o) w) in outcome_of x.answer (lent s (put_opening t (entry_of u e) x.after))) v
      ∙ ap (λ (y : Opening). outcome_of (done n) (lent s (put_opening t (entry_of u e) y))) (handled-same o)
      ∙ ap (λ (y : List ℕ). outcome_of (done n) (lent s y)) (put-opening-again t long (entry_of u e) (omega arith))
