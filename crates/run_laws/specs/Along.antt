-- Acts through one pointer that all are done and do nothing to the tables but move it: s is the store's cells, t the tables', i an entry of 32, p a
-- pointer. Assumes nothing.
use Rattle.std.specs.Prelude.{ℕ, suc, ◌+◌, ◌≤◌, ◌<◌, ◌≡◌, get_or, take, drop}
use Rattle.std.proofs.Common.{sym, ◌∙◌, arith, add-one, take-append-drop, get_or-take}
use Rattle.std.proofs.Math.Path.{ap, subst}
use mathlib.Core.List.{List}
use Rattle.std.proofs.Math.ListN.{length}
use Rattle.std.proofs.Math.Seq.{length-take-le}
use Rattle.combine.specs.Lists.{tab}
use Rattle.combine.specs.Laws.Lists.{length-tab}
use Rattle.combine.specs.Verdict.{done}
use Rattle.combine.specs.Outcome.{outcome_of}
use Rattle.combine.specs.Laws.Run.{behind, run_along}
use Rattle.placing.specs.Sizes.{all_pointers}
use Rattle.placing.specs.Placing.{position}
use Rattle.rules.specs.Calls.{Act, reset}
use Rattle.tables.specs.declared.Opening.{Opening}
use Rattle.tables.specs.Layout.{opening_at, put_opening}
use Rattle.tables.specs.Fields.{value_of}
use Rattle.tables.specs.Handles.{pointed}
use Rattle.cells.specs.Outcomes.{Lent, lent}
use Rattle.gate_laws.specs.Standing.{Standing, standing-long}
use Rattle.run_laws.specs.Singles.{use_on, uses_on, Goes}
use Rattle.run_laws.specs.Stands.{stays-standing}
use Rattle.run_laws.specs.Pointed.{by-none, by-there, by_next}

abbrev pub Stands : ℕ → Lent → Type 0
Stands i x = Standing (length x.store) x.tables i

-- at an open entry with the opening o the act is done, tells v, changes the store to s' and the opening's pointer p alone, by one
pub record Steps (i p : ℕ) (a : Act) (s t : List ℕ) (v : ℕ) (s' : List ℕ) : Type 0 where
  pub outcome : let o = opening_at t i in use_on i a (lent s t) ≡ outcome_of (done v) (lent s' (put_opening t i (pointed o p (position (value_of o p + 1)))))

module _ (i p : ℕ) (l : List Act) (s t : List ℕ) (w : Standing (length s) t i) (lp : p < all_pointers) (k : ℕ) (some : 1 ≤ k) (few : k ≤ length l)
    (stores : ℕ → List ℕ) (from : stores 0 ≡ s) (tell : ℕ → ℕ) where
  -- the state before act j
  at : ℕ → Lent
  at j = lent (stores j) (put_opening t i (pointed (opening_at t i) p (position (value_of (opening_at t i) p + j))))

  starts : at 0 ≡ lent s t
  unfolding at
  starts = λ q. lent (from q) (by-none t (standing-long w) i w.entry p q)

  module _ (step : (j : ℕ) → j < k → let o = opening_at t i in let t' = put_opening t i (pointed o p (position (value_of o p + j))) in
      Standing (length (stores j)) t' i → Steps i p (get_or l j reset) (stores j) t' (tell j) (stores (j + 1))) where
    one : (j : ℕ) → j < length (take k l) → Stands i (at j) → use_on i (get_or (take k l) j reset) (at j) ≡ outcome_of (done (tell j)) (at (suc j))
    unfolding at
    one j h q =
        let lt : j < k = omega (arith, h, length-take-le k l few) in
        let there = by-there t (standing-long w) i w.entry p j in
        ap (λ (a : Act). use_on i a (at j)) (get_or-take k l j reset lt)
        ∙ (step j lt q).outcome
        ∙ ap (λ (y : Opening). outcome_of (done (tell j)) (lent (stores (j + 1)) (put_opening (at j).tables i (pointed y p (position (value_of y p + 1)))))) there
        ∙ ap (λ (t' : List ℕ). outcome_of (done (tell j)) (lent (stores (j + 1)) t')) (by_next t (standing-long w) i w.entry p lp j)
        ∙ ap (λ (n : ℕ). outcome_of (done (tell j)) (at n)) (add-one j)

    pub goes-along : Goes i l s t (tab k tell) (stores k) (put_opening t i (pointed (opening_at t i) p (position (value_of (opening_at t i) p + k))))
    unfolding at
    goes-along =
        let long : length (take k l) ≡ k = length-take-le k l few in
        let told : length (tab k tell) ≡ k = length-tab k tell in
        let went = run_along (use_on i) (Stands i) (λ a v x y q e. stays-standing x.store x.tables i q a (done v) y.store y.tables e) reset (drop k l) (take k l) at tell
        (subst (Stands i) (sym starts) w) one in
        let ends : behind (tab (length (take k l)) tell) (uses_on i (drop k l) (at (length (take k l)))) ≡ behind (tab k tell) (uses_on i (drop (length (tab k tell)) l) (at k)) =
        (λ q. behind (tab (long q) tell) (uses_on i (drop (sym told q) l) (at (long q)))) in
        record {
          some = omega (arith, told);
          few = omega (arith, told);
          standing = subst (λ (n : ℕ). Stands i (at n)) long went.0;
          left = (λ q. uses_on i (sym (take-append-drop k l) q) (sym starts q)) ∙ went.1 ∙ ends;
        }
