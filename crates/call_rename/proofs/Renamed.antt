-- Each outcome of renaming: refused at the gate, refused without the permit, or the renamed opening put back. Assumes nothing.
use Rattle.std.specs.Prelude.{Result, Err, Ok}
use Prim.Native.Nat.{ℕ}
use mathlib.Core.Path.{◌≡◌, refl, sym, ap, ◌∙◌}
use mathlib.Core.List.{List}
use lib.ListN.{length}
use Rattle.combine.specs.Verdict.{done, refused, on_done}
use Rattle.combine.specs.Outcome.{Outcome, outcome_of, settle}
use Rattle.answers.specs.declared.Refusal.{Refusal}
use Rattle.answers.specs.Said.{refusal_number}
use Rattle.names.specs.Names.{name_of}
use Rattle.rules.specs.Calls.{rename, uses}
use Rattle.rules.specs.Access.{rename_rule}
use Rattle.tables.specs.declared.Opening.{Opening}
use Rattle.tables.specs.Layout.{opening_at, put_opening}
use Rattle.tables.specs.Handles.{handle_in, carried}
use Rattle.tables.specs.Told.{answered}
use Rattle.tables.specs.Laws.Rows.{put-opening-again}
use Rattle.cells.specs.Outcomes.{Lent, lent, outcome, request_out}
use Rattle.cells.specs.Laws.Uses.{use-out}
use Rattle.gate.specs.Gates.{Gate, reach_of}
use Rattle.gate.specs.Passed.{Reached, reaches, reaches-not}
use Rattle.gate_laws.specs.Behind.{passed-long, passed-few, reached-open}

module _ (s t : List ℕ) (u e : ℕ) (g : Gate) (eg : g ≡ reach_of (length s) t u e) where
  pub refused-at-gate : (bytes : List ℕ) (why : Refusal) → g ≡ Err why → outcome (Err why) s t ≡ request_out (uses (rename bytes)) s t u e
  refused-at-gate bytes why at = reaches-not s t u e g eg (uses (rename bytes)) refl why at

  -- behind the gate
  module _ (i : ℕ) (at : g ≡ Ok i) where
    pub here : Reached (length s) t u e i
    here = reaches s t u e g eg i at

    by-opening : Opening → List ℕ → Outcome Opening
    by-opening y n = settle y (on_done (carried y) (rename_rule n (handle_in y)))

    put : ℕ → Outcome Opening → Outcome Lent
    put k y = outcome_of y.answer (lent s (put_opening t k y.after))

    -- o is the opening there, n the name, and m what renaming told
    module _ (bytes n : List ℕ) (en : n ≡ name_of bytes) (o : Opening) (eo : o ≡ opening_at t i) (m : Result (ℕ × Opening) Refusal)
        (h : answered o m ≡ settle o (on_done (carried o) (rename_rule n (handle_in o)))) where
      put_back : (x : Result (ℕ × Opening) Refusal) → m ≡ x → put i (answered o x) ≡ request_out (uses (rename bytes)) s t u e
      unfolding by-opening put
      put_back x r =
          let p = here.passed in
          ap (λ (y : Result (ℕ × Opening) Refusal). put i (answered o y)) (sym r)
          ∙ ap (put i) (h ∙ (λ j. by-opening (eo j) (en j)))
          ∙ ap (λ (k : ℕ). put k (by-opening (opening_at t k) (name_of bytes))) p.which
          ∙ sym (use-out s t u e p.sound p.user p.entry (reached-open here) (rename bytes) refl)

      -- without the work permit the opening stays as it is, and so do the tables
      pub not-renamed : (why : Refusal) → m ≡ Err why → outcome (Err why) s t ≡ request_out (uses (rename bytes)) s t u e
      unfolding put
      not-renamed why r =
          let same : put_opening t i o ≡ t = ap (put_opening t i) eo ∙ put-opening-again t (passed-long here.passed) i (passed-few here.passed) in
          ap (λ (x : List ℕ). outcome_of (refused (refusal_number why)) (lent s x)) (sym same) ∙ put_back (Err why) r

      pub renamed : (c : ℕ × Opening) → m ≡ Ok c → (after : List ℕ) → after ≡ put_opening t i c.1 → outcome (Ok c.0) s after ≡ request_out (uses (rename bytes)) s t u e
      unfolding put
      renamed c r after ea = ap (λ (x : List ℕ). outcome_of (done c.0) (lent s x)) ea ∙ put_back (Ok c) r
