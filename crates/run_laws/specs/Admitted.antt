-- A run at the gate and behind it: "a list of length 0 still gets refusals 20, 1, 2, 4, 5 where they apply", and 19. r is a run, s the store's cells, t the
-- tables', u a user, e an entry, i the entry of 32. Assumes nothing.
use Rattle.std.specs.Prelude.{ℕ, ◌%◌, ◌≤◌, ◌<◌, ◌≡◌, ◌≢◌, Bool, not, ◌&&◌, List, [], eqb, ltb, length, get_or, Err, Ok}
use Rattle.std.proofs.Math.Path.{refl, ap}
use Rattle.std.proofs.Common.{sym, ◌∙◌, arith, eq-eqb, ne_eqb}
use Rattle.std.proofs.Math.Bool.{true, false}
use Rattle.std.proofs.Math.Option.{none, some}
use Rattle.combine.specs.Verdict.{Said, refused, done, refuse◌when◌else◌}
use Rattle.combine.specs.Run.{Ran, ran, run_over, admitted}
use Rattle.combine.specs.Laws.Below.{both, bad-left, bad-right}
use Rattle.combine.specs.Laws.Lists.{tab-at}
use Rattle.combine.specs.Laws.Run.{run-map}
use Rattle.combine.specs.Laws.Verdict.{refused-here, went_on}
use Rattle.answers.specs.declared.Refusal.{Refusal}
use Rattle.answers.specs.declared.Refusal.TheVariants.{User, Entry, Tables, Species, Pointer, Permit}
use Rattle.answers.specs.Said.{refusal_number}
use Rattle.numbers.specs.Numbers.{is_foreign}
use Rattle.placing.specs.Sizes.{greatest_user, greatest_entry, entries, entry_of, user_of}
use Rattle.rules.specs.Calls.{Request, Act, uses, write, next, Run, writes, fills}
use Rattle.rules.specs.Headings.{value, handle_of}
use Rattle.rules.specs.Access.{pointer_gate}
use Rattle.rules.specs.Gates.{user_gate, entry_gate}
use Rattle.rules.specs.Runs.{requests_of, admits, admission}
use Rattle.rules.specs.Laws.Gates.{entered}
use Rattle.tables.specs.declared.Opening.{Opening}
use Rattle.tables.specs.Layout.{opening_at}
use Rattle.tables.specs.Fields.{is_open, value_of}
use Rattle.tables.specs.Handles.{handle_in}
use Rattle.tables.specs.Laws.Pointers.{value_in}
use Rattle.cells.specs.Says.{opening_in, decoded_opening, house_of}
use Rattle.cells.specs.Outcomes.{Lent, lent, sound_lent, request_out, run_out}
use Rattle.gate.specs.Gates.{Gate, refusing, pass_of, opened, reach_of}
use Rattle.gate.specs.Passed.{Passed, Reached, pass-at, reaches}
use Rattle.gate_laws.specs.Behind.{passed-few}
use Rattle.run_laws.specs.Singles.{use_on, uses_on, writes_of, nexts_of}

-- the run's acts
abbrev pub acts_of : Run → List Act
acts_of (writes p l) = writes_of p l
acts_of (fills p l) = nexts_of p l

-- ---- the same calls, as requests and as acts

calls_at : (r : Run) (u e i : ℕ) → i ≡ entry_of u e → e ≤ greatest_entry → (x : Lent) → run_over (λ q y. request_out q y.store y.tables u e) (requests_of r) x ≡ uses_on i (acts_of r) x
unfolding use_on
calls_at r u e i h le x = go r
  where
    user-is : u ≡ user_of i
    user-is = omega arith

    entry-is : e ≡ i % 4
    entry-is = omega arith

    go : (r : Run) → run_over (λ q y. request_out q y.store y.tables u e) (requests_of r) x ≡ uses_on i (acts_of r) x
    go (writes p l) =
        run-map (λ n. uses (write p n)) (λ (q : Request) (y : Lent). request_out q y.store y.tables u e) l x
        ∙ (λ j. run_over (λ (n : ℕ) (y : Lent). request_out (uses (write p n)) y.store y.tables (user-is j) (entry-is j)) l x)
        ∙ sym (run-map (write p) (use_on i) l x)
    go (fills p l) =
        run-map (λ n. uses (next p)) (λ (q : Request) (y : Lent). request_out q y.store y.tables u e) l x
        ∙ (λ j. run_over (λ (n : ℕ) (y : Lent). request_out (uses (next p)) y.store y.tables (user-is j) (entry-is j)) l x)
        ∙ sym (run-map (λ n. next p) (use_on i) l x)

-- ---- the handle that the entry's cells say

module _ (t : List ℕ) (i : ℕ) (li : i < entries) where
  handle-there : is_open (opening_at t i) ≡ true → handle_of (get_or (house_of t).openings i none) ≡ some (handle_in (opening_at t i))
  unfolding house_of decoded_opening
  handle-there h =
      let says : decoded_opening (opening_at t i) ≡ some (opening_in (opening_at t i)) = rw h refl in
      ap handle_of (tab-at entries (λ j. decoded_opening (opening_at t j)) i none li ∙ says)

  handle-none : is_open (opening_at t i) ≡ false → handle_of (get_or (house_of t).openings i none) ≡ none
  unfolding house_of decoded_opening
  handle-none h =
      let says : decoded_opening (opening_at t i) ≡ none = rw h refl in
      ap handle_of (tab-at entries (λ j. decoded_opening (opening_at t j)) i none li ∙ says)

module _ (r : Run) (s t : List ℕ) (u e : ℕ) where
  abbrev judged : Said
  judged = admission (sound_lent s t) r u e (house_of t)

  passed-judged : (i : ℕ) → Passed (length s) t u e i → judged ≡ admits r (handle_of (get_or (house_of t).openings i none))
  passed-judged i p =
      ap (λ (b : Bool). entry_gate b u e (admits r (handle_of (get_or (house_of t).openings (entry_of u e) none)))) p.sound
      ∙ entered u e _ p.user p.entry
      ∙ ap (λ (j : ℕ). admits r (handle_of (get_or (house_of t).openings j none))) (sym p.which)

  -- ---- behind the gate

  pub reached-run : (i : ℕ) → Reached (length s) t u e i → run_out r s t u e ≡ admitted (lent s t) (admits r (some (handle_in (opening_at t i)))) (uses_on i (acts_of r) (lent s t))
  unfolding run_out
  reached-run i g =
      let p = g.passed in
      let v : judged ≡ admits r (some (handle_in (opening_at t i))) = passed-judged i p ∙ ap (admits r) (handle-there t i (passed-few p) g.there) in
      λ j. admitted (lent s t) (v j) (calls_at r u e i p.which p.entry (lent s t) j)

  -- ---- refused at the gate

  module _ (why : Refusal) where
    not-no : (i : ℕ) → Ok i ≡ Err why → ⊥
    not-no i q = let z : ◌≡◌ {A = ℕ} 0 1 = cc in omega arith

    said : (y : Refusal) → judged ≡ refused (refusal_number y) → ◌≡◌ {A = Gate} (Err y) (Err why) → judged ≡ refused (refusal_number why)
    said y h q = let z : y ≡ why = cc in h ∙ ap (λ (x : Refusal). refused (refusal_number x)) z

    judged-here : (a b c : Bool) → sound_lent s t ≡ a → ltb greatest_user u ≡ b → ltb greatest_entry e ≡ c
        → refusing (not a) Tables (refusing b User (refusing c Entry (Ok (entry_of u e)))) ≡ Err why → judged ≡ refused (refusal_number why)
    unfolding refusing entry_gate user_gate refuse◌when◌else◌
    judged-here false b c pa pb pc h = said Tables (rw pa refl) h
    judged-here true true c pa pb pc h = said User (rw (pa, pb) refl) h
    judged-here true false true pa pb pc h = said Entry (rw (pa, pb, pc) refl) h
    judged-here true false false pa pb pc h = absurd (not-no (entry_of u e) h)

    closed-here : (i : ℕ) (b : Bool) → is_open (opening_at t i) ≡ b → Passed (length s) t u e i → refusing (not b) Entry (Ok i) ≡ Err why → judged ≡ refused (refusal_number why)
    unfolding refusing
    closed-here i true q p h = absurd (not-no i h)
    closed-here i false q p h = said Entry (passed-judged i p ∙ ap (admits r) (handle-none t i (passed-few p) q)) h

    opened-no : (g : Gate) → pass_of (length s) t u e ≡ g → opened t g ≡ Err why → judged ≡ refused (refusal_number why)
    unfolding pass_of
    opened-no (Err y) q h = let z : pass_of (length s) t u e ≡ Err why = q ∙ h in judged-here (sound_lent s t) (ltb greatest_user u) (ltb greatest_entry e) refl refl refl z
    opened-no (Ok i) q h = closed-here i (is_open (opening_at t i)) refl (pass-at (length s) t u e i q) h

    pub refused-run : reach_of (length s) t u e ≡ Err why → run_out r s t u e ≡ ran 0 (refusal_number why) [] (lent s t)
    unfolding run_out reach_of
    refused-run h =
        ap (λ (v : Said). admitted (lent s t) v (run_over (λ q x. request_out q x.store x.tables u e) (requests_of r) (lent s t)))
        (opened-no (pass_of (length s) t u e) refl h)

-- ---- the same, of a gate that the code has in hand

module _ (r : Run) (s t : List ℕ) (u e : ℕ) (g : Gate) (eg : g ≡ reach_of (length s) t u e) where
  pub run-refused : (why : Refusal) → g ≡ Err why → run_out r s t u e ≡ ran 0 (refusal_number why) [] (lent s t)
  run-refused why at = refused-run r s t u e why (sym eg ∙ at)

  pub run-behind : (i : ℕ) → g ≡ Ok i → run_out r s t u e ≡ admitted (lent s t) (admits r (some (handle_in (opening_at t i)))) (uses_on i (acts_of r) (lent s t))
  run-behind i at = reached-run r s t u e i (reaches s t u e g eg i at)

-- ---- 19, 4 and 5, by the opening o that was loaded: f says that its species is signed, v is the pointer's value, and q what the run comes to where it
-- is admitted

module _ (t : List ℕ) (i : ℕ) (o : Opening) (eo : o ≡ opening_at t i) (f : Bool) (ef : f ≡ is_foreign false o.species) (p v : ℕ) (ev : v ≡ value_of o p) (b : Bool) (eb : b ≡ eqb v 0)
    (needs : Bool) (x : Lent) (q : Ran Lent) where
  abbrev gated : Ran Lent
  gated = admitted x (pointer_gate false p needs (handle_in (opening_at t i)) (done 0)) q

  kind-is : is_foreign false (opening_at t i).species ≡ f
  kind-is = ap (λ (y : Opening). is_foreign false y.species) (sym eo) ∙ sym ef

  none_is : eqb (value (handle_in (opening_at t i)) p) 0 ≡ b
  none_is = ap (λ (n : ℕ). eqb n 0) (value_in (opening_at t i) p ∙ ap (λ (y : Opening). value_of y p) (sym eo) ∙ sym ev) ∙ sym eb

  permit-is : eqb (opening_at t i).permit 1 ≡ eqb o.permit 1
  permit-is = ap (λ (y : Opening). eqb y.permit 1) (sym eo)

  pub no_kind : f ≡ true → admitted x (pointer_gate false p needs (handle_in (opening_at t i)) (done 0)) q ≡ ran 0 (refusal_number Species) [] x
  no_kind k = ap (λ (y : Said). admitted x y q) (refused-here 19 _ _ (kind-is ∙ k))

  module _ (kind : f ≡ false) where
    pub no_pointer : b ≡ true → admitted x (pointer_gate false p needs (handle_in (opening_at t i)) (done 0)) q ≡ ran 0 (refusal_number Pointer) [] x
    no_pointer z = ap (λ (y : Said). admitted x y q) (went_on 19 _ _ _ (kind-is ∙ kind) (refused-here 4 _ _ (none_is ∙ z)))

    module _ (there : b ≡ false) where
      pub no-permit : needs ≡ true → o.permit ≢ 1 → admitted x (pointer_gate false p needs (handle_in (opening_at t i)) (done 0)) q ≡ ran 0 (refusal_number Permit) [] x
      no-permit n d =
          ap (λ (y : Said). admitted x y q)
          (went_on 19 _ _ _ (kind-is ∙ kind) (went_on 4 _ _ _ (none_is ∙ there) (refused-here 5 _ _ (both n (ap not (permit-is ∙ ne_eqb o.permit 1 d))))))

      let-in : (needs && not (eqb (opening_at t i).permit 1)) ≡ false → gated ≡ q
      let-in h = ap (λ (y : Said). admitted x y q) (went_on 19 _ _ _ (kind-is ∙ kind) (went_on 4 _ _ _ (none_is ∙ there) (went_on 5 _ _ _ h refl)))

      pub works-on : o.permit ≡ 1 → admitted x (pointer_gate false p needs (handle_in (opening_at t i)) (done 0)) q ≡ q
      works-on h = let-in (bad-right needs _ (ap not (permit-is ∙ eq-eqb o.permit 1 h)))

      pub reads_on : needs ≡ false → admitted x (pointer_gate false p needs (handle_in (opening_at t i)) (done 0)) q ≡ q
      reads_on n = let-in (bad-left needs _ n)
