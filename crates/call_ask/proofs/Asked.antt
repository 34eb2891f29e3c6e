-- Behind the gate: an inquiry whose verdict is a number is answered by that number, and the number is a cell of the opening. Assumes nothing.
use Rattle.std.specs.Prelude.{Err, Ok}
use Prim.Native.Nat.{ℕ, zero, suc, ◌+◌, ◌≤◌, ◌<◌}
use mathlib.Core.Path.{◌≡◌, refl, sym, ap, subst, ◌∙◌}
use mathlib.Core.Bool.{true, cond}
use mathlib.Core.List.{List}
use native.Mathlib.Omega.{arith}
use lib.Dec.{eqb}
use lib.ListN.{length}
use borrow.Author.Tests.{eq-eqb, ne_eqb}
use Rattle.combine.specs.Verdict.{Verdict, refused, on_done}
use Rattle.combine.specs.Laws.Verdict.{refused-here, went_on}
use Rattle.combine.specs.Outcome.{outcome_of, settle}
use Rattle.answers.specs.declared.Refusal.{Refusal}
use Rattle.answers.specs.Said.{refusal_number}
use Rattle.placing.specs.Sizes.{entry_of}
use Rattle.placing.specs.Placing.{claim_of}
use Rattle.rules.specs.Calls.{Act, uses, ask_species, ask_claim, ask_permit, ask_symbol, ask_begin, ask_end, ask_value}
use Rattle.rules.specs.Headings.{value}
use Rattle.rules.specs.Effects.{Use}
use Rattle.rules.specs.Access.{asked, value_rule}
use Rattle.tables.specs.Layout.{opening_at, put_opening}
use Rattle.tables.specs.Handles.{handle_in, carried}
use Rattle.tables.specs.Laws.Rows.{put-opening-again}
use Rattle.cells.specs.Outcomes.{lent, outcome, request_out}
use Rattle.cells.specs.Laws.Uses.{leaves_content, verdict_on, use-out, asked-out}
use Rattle.gate.specs.Passed.{Reached}
use Rattle.gate_laws.specs.Behind.{passed-long, passed-few, reached-open, reached-sound}
use Rattle.call_ask.specs.Told.{field_at}
use Rattle.call_ask.proofs.Fields.{permit-cell, species-cell, value_cell, symbol-beyond, symbol-cell}

-- the work permit is 1 or 0
one_or_zero : (n : ℕ) → n ≤ 1 → cond (eqb n 1) 1 0 ≡ n
one_or_zero zero h = refl
one_or_zero (suc zero) h = refl
one_or_zero (suc (suc n)) h = absurd (omega arith)

-- ---- behind the gate, at entry i

module _ (s t : List ℕ) (u e i : ℕ) (here : Reached (length s) t u e i) where
  -- the inquiry's verdict on the opening is that it is answered by n
  abbrev pub Asks : Act → ℕ → Type 0
  Asks act n = verdict_on act t (opening_at t i) ≡ asked n (handle_in (opening_at t i))

  pub answered : (act : Act) (n : ℕ) → leaves_content act ≡ true → Asks act n → outcome (Ok n) s t ≡ request_out (uses act) s t u e
  answered act n q v =
      let p = here.passed in
      sym
      (asked-out s t u e p.sound p.user p.entry (reached-open here) act n q
      (subst (λ (k : ℕ). verdict_on act t (opening_at t k) ≡ asked n (handle_in (opening_at t k))) p.which v))

  pub answered-not : (act : Act) (why : Refusal) → leaves_content act ≡ true → verdict_on act t (opening_at t i) ≡ refused (refusal_number why)
      → outcome (Err why) s t ≡ request_out (uses act) s t u e
  unfolding settle
  answered-not act why q v =
      let p = here.passed in
      let k = entry_of u e in
      let o = opening_at t k in
      let w : verdict_on act t o ≡ refused (refusal_number why) = subst (λ (j : ℕ). verdict_on act t (opening_at t j) ≡ refused (refusal_number why)) p.which v in
      sym
      (use-out s t u e p.sound p.user p.entry (reached-open here) act q
      ∙ ap (λ (y : Verdict Use). let x = settle o (on_done (carried o) y) in outcome_of x.answer (lent s (put_opening t k x.after))) w
      ∙ ap (λ (y : List ℕ). outcome_of (refused (refusal_number why)) (lent s y)) (put-opening-again t (passed-long here.passed) k (omega (arith, p.user, p.entry))))

  -- ---- what each inquiry asks

  pub asks-number : {m n : ℕ} → m ≡ n → asked m (handle_in (opening_at t i)) ≡ asked n (handle_in (opening_at t i))
  asks-number q = ap (λ (k : ℕ). asked k (handle_in (opening_at t i))) q

  pub asks-species : Asks ask_species (field_at t i 3)
  asks-species = asks-number (species-cell t i)

  pub asks-permit : Asks ask_permit (field_at t i 2)
  asks-permit = asks-number (one_or_zero _ (reached-sound here).permit ∙ permit-cell t i)

  pub asks-begin : Asks ask_begin (field_at t i 4)
  asks-begin = asks-number (value_cell t i 0 (omega arith))

  pub asks-end : Asks ask_end (field_at t i 5)
  asks-end = asks-number (value_cell t i 1 (omega arith))

  pub asks-claim : Asks ask_claim (claim_of (field_at t i 3) (field_at t i 4) (field_at t i 5))
  asks-claim = asks-number (λ j. claim_of (species-cell t i j) (value_cell t i 0 (omega arith) j) (value_cell t i 1 (omega arith) j))

  pub asks-no-symbol : (k : ℕ) → 11 < k → Asks (ask_symbol k) 63
  asks-no-symbol k h = asks-number (symbol-beyond t i (passed-long here.passed) (passed-few here.passed) k h)

  pub asks-symbol : (k : ℕ) → k < 12 → Asks (ask_symbol k) (field_at t i (12 + k))
  asks-symbol k h = asks-number (symbol-cell t i (passed-long here.passed) (passed-few here.passed) k h)

  pub asks-no-value : (p : ℕ) → value (handle_in (opening_at t i)) p ≡ 0 → verdict_on (ask_value p) t (opening_at t i) ≡ refused 4
  unfolding value_rule
  asks-no-value p z = refused-here 4 (eqb (value (handle_in (opening_at t i)) p) 0) _ (eq-eqb _ 0 z)

  pub asks-value : (p n : ℕ) → value (handle_in (opening_at t i)) p ≡ n → (n ≡ 0 → ⊥) → Asks (ask_value p) n
  unfolding value_rule
  asks-value p n z d =
      went_on 4 (eqb (value (handle_in (opening_at t i)) p) 0) _ _ (ne_eqb _ 0 (λ q. d (sym z ∙ q))) (asks-number z)
