-- A call on an opening by value: refused at the gate, refused by the method, or the method's opening put back. Assumes nothing.
use Rattle.std.specs.Prelude.{Result, Err, Ok}
use Prim.Native.Nat.{ℕ, ◌<◌}
use mathlib.Core.Path.{◌≡◌, refl, sym, ap, ◌∙◌}
use mathlib.Core.Bool.{true}
use mathlib.Core.List.{List}
use lib.ListN.{length}
use Rattle.combine.specs.Verdict.{done, refused, on_done}
use Rattle.combine.specs.Outcome.{Outcome, outcome_of, settle}
use Rattle.answers.specs.declared.Refusal.{Refusal}
use Rattle.answers.specs.Said.{refusal_number}
use Rattle.placing.specs.Placing.{position}
use Rattle.placing.specs.Sizes.{entries, tables_length}
use Rattle.rules.specs.Calls.{Act, uses, reset}
use Rattle.rules.specs.Headings.{value}
use Rattle.tables.specs.declared.Opening.{Opening}
use Rattle.tables.specs.Layout.{opening_at, put_opening}
use Rattle.tables.specs.Fields.{value_of}
use Rattle.tables.specs.Handles.{handle_in, pointed, carried}
use Rattle.tables.specs.Told.{answered}
use Rattle.tables.specs.Laws.Pointers.{value_in, moved_in}
use Rattle.tables.specs.Laws.Rows.{put-opening-again}
use Rattle.cells.specs.Outcomes.{Lent, lent, outcome, request_out}
use Rattle.cells.specs.Laws.Uses.{leaves_content, verdict_on, use-out}
use Rattle.gate.specs.Gates.{Gate, reach_of}
use Rattle.gate.specs.Passed.{Reached, reaches, reaches-not}
use Rattle.gate_laws.specs.Behind.{passed-long, passed-few, reached-open}

module _ (s t : List ℕ) (u e : ℕ) (g : Gate) (eg : g ≡ reach_of (length s) t u e) where
  pub refused-at-gate : (act : Act) (why : Refusal) → g ≡ Err why → outcome (Err why) s t ≡ request_out (uses act) s t u e
  refused-at-gate act why at = reaches-not s t u e g eg (uses act) refl why at

  -- behind the gate
  module _ (i : ℕ) (at : g ≡ Ok i) where
    here : Reached (length s) t u e i
    here = reaches s t u e g eg i at

    pub long-behind : length t ≡ tables_length
    long-behind = passed-long here.passed

    pub entry-behind : i < entries
    entry-behind = passed-few here.passed

    -- o is the opening there
    module _ (o : Opening) (eo : o ≡ opening_at t i) (act : Act) (q : leaves_content act ≡ true) where
      -- the act's outcome on an opening by value
      abbrev by_value : Opening → Outcome Opening
      by_value x = settle x (on_done (carried x) (verdict_on act t x))

      put : ℕ → Outcome Opening → Outcome Lent
      put k x = outcome_of x.answer (lent s (put_opening t k x.after))

      put_back : (x : Outcome Opening) → x ≡ by_value o → outcome_of x.answer (lent s (put_opening t i x.after)) ≡ request_out (uses act) s t u e
      unfolding put
      put_back x h =
          let p = here.passed in
          ap (put i) h
          ∙ ap (λ (y : Opening). put i (by_value y)) eo
          ∙ ap (λ (k : ℕ). put k (by_value (opening_at t k))) p.which
          ∙ sym (use-out s t u e p.sound p.user p.entry (reached-open here) act q)

      -- m is what the method told
      module _ (m : Result (ℕ × Opening) Refusal) (h : answered o m ≡ by_value o) where
        -- where it refuses, the opening stays as it is, and so do the tables
        pub method-refused : (why : Refusal) → m ≡ Err why → outcome (Err why) s t ≡ request_out (uses act) s t u e
        method-refused why r =
            let same : put_opening t i o ≡ t = ap (put_opening t i) eo ∙ put-opening-again t long-behind i entry-behind in
            ap (λ (x : List ℕ). outcome_of (refused (refusal_number why)) (lent s x)) (sym same)
            ∙ put_back (answered o (Err why)) (ap (answered o) (sym r) ∙ h)

        pub method-done : (c : ℕ × Opening) → m ≡ Ok c → (after : List ℕ) → after ≡ put_opening t i c.1 → outcome (Ok c.0) s after ≡ request_out (uses act) s t u e
        method-done c r after ea =
            ap (λ (x : List ℕ). outcome_of (done c.0) (lent s x)) ea
            ∙ put_back (answered o (Ok c)) (ap (answered o) (sym r) ∙ h)

    pub was-reset : (o p : Opening) → o ≡ opening_at t i → p ≡ pointed o 2 (position (value_of o 0)) → (after : List ℕ) → after ≡ put_opening t i p
        → outcome (Ok 0) s after ≡ request_out (uses reset) s t u e
    unfolding settle
    was-reset o p eo ep after ea =
        let moves = ep ∙ ap (λ (v : ℕ). pointed o 2 (position v)) (sym (value_in o 0)) ∙ sym (moved_in o 2 (value (handle_in o) 0)) in
        method-done o eo reset refl (Ok (0, p)) (ap (outcome_of (done 0)) moves) (0, p) refl after ea

pub ruleset behind = (long-behind, entry-behind)
