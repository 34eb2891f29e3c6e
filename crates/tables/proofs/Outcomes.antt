-- Each way through a method of an opening that can refuse, and its outcome. Assumes nothing.
use Prim.Native.Nat.{ℕ, ◌≤◌, ◌<◌}
use mathlib.Core.Path.{◌≡◌, refl, sym, ap, ◌∙◌}
use mathlib.Core.Bool.{Bool, true, false, ◌||◌}
use mathlib.Core.List.{List}
use native.Mathlib.Omega.{arith}
use lib.Dec.{eqb, ltb}
use lib.ListN.{length}
use borrow.Author.Tests.{eq-eqb, ne_eqb, lt-ltb, le-ltb}
use Rattle.combine.specs.Verdict.{Verdict, refused, done, on_done}
use Rattle.combine.specs.Laws.Verdict.{refused-here, went_on}
use Rattle.combine.specs.Outcome.{Outcome, outcome_of, settle}
use Rattle.placing.specs.declared.Position.{Position}
use Rattle.placing.specs.Placing.{position}
use Rattle.placing.specs.Laws.Tests.{none-not}
use Rattle.rules.specs.Headings.{Handle, value, moved, named}
use Rattle.rules.specs.Effects.{Use, does, plain, stays}
use Rattle.rules.specs.Access.{new_pointer_rule, delete_pointer_rule, rename_rule}
use Rattle.tables.specs.declared.Opening.{Opening}
use Rattle.tables.specs.Fields.{value_of}
use Rattle.tables.specs.Handles.{handle_in, pointed, handled, carried}
use Rattle.tables.specs.Pointers.{lowest_free_pointer, titled}
use Rattle.tables.specs.Laws.Pointers.{value_in, moved_in, named_in, value-some}

either_true : (a b : Bool) → b ≡ true → (a || b) ≡ true
either_true true b e = refl
either_true false b e = e

module _ (o : Opening) where
  abbrev after : Verdict Use → Outcome Opening
  after v = settle o (on_done (carried o) v)

  -- a refusal, and a use that leaves the content
  refuses : (v : Verdict Use) (n : ℕ) → v ≡ refused n → outcome_of (refused n) o ≡ after v
  unfolding settle
  refuses v n e = ap after (sym e)

  uses : (v : Verdict Use) (n : ℕ) (h : Handle) (x : Opening) → v ≡ done (does (plain n) h stays) → x ≡ handled o h → outcome_of (done n) x ≡ after v
  unfolding settle
  uses v n h x e f = ap (outcome_of (done n)) f ∙ ap after (sym e)

  -- the value v of pointer p, and the test b whether there is none
  module _ (p : ℕ) (v : Position) (ev : v.0 ≡ value_of o p) (b : Bool) (eb : b ≡ eqb v.0 0) where
    tested : eqb (value (handle_in o) p) 0 ≡ b
    tested = ap (λ (n : ℕ). eqb n 0) (value_in o p ∙ sym ev) ∙ sym eb

    -- ---- "A new own pointer takes the lowest free name, which is the answer, and the value of a given pointer."

    pub new_none : b ≡ true → outcome_of (refused 4) o ≡ after (new_pointer_rule p (handle_in o))
    unfolding new_pointer_rule
    new_none n = refuses (new_pointer_rule p (handle_in o)) 4 (refused-here 4 _ _ (tested ∙ n))

    module _ (there : b ≡ false) where
      pub new-full : lowest_free_pointer o ≡ 8 → outcome_of (refused 21) o ≡ after (new_pointer_rule p (handle_in o))
      unfolding new_pointer_rule lowest_free_pointer
      new-full l = refuses (new_pointer_rule p (handle_in o)) 21 (went_on 4 _ _ _ (tested ∙ there) (refused-here 21 _ _ (lt-ltb 7 (lowest_free_pointer o) (omega arith))))

      module _ (q : ℕ) (f : q ≡ lowest_free_pointer o) where
        takes : q ≤ 7 → new_pointer_rule p (handle_in o) ≡ done (does (plain (lowest_free_pointer o)) (moved (handle_in o) (lowest_free_pointer o) (value (handle_in o) p)) stays)
        unfolding new_pointer_rule lowest_free_pointer
        takes l = went_on 4 _ _ _ (tested ∙ there) (went_on 21 _ _ _ (le-ltb 7 (lowest_free_pointer o) (omega arith)) refl)

        pub new-made : (x : Opening) → q ≤ 7 → x ≡ pointed o q v → outcome_of (done q) x ≡ after (new_pointer_rule p (handle_in o))
        new-made x l e =
            ap (λ (n : ℕ). outcome_of (done n) x) f
            ∙ uses (new_pointer_rule p (handle_in o)) (lowest_free_pointer o) (moved (handle_in o) (lowest_free_pointer o) (value (handle_in o) p)) x (takes l)
            (e ∙ (λ j. pointed o (f j) (position ((ev ∙ sym (value_in o p)) j))) ∙ sym (moved_in o (lowest_free_pointer o) (value (handle_in o) p)))

    -- ---- "Only 3 to 7 can be deleted."

    pub delete-none : b ≡ true → outcome_of (refused 4) o ≡ after (delete_pointer_rule p (handle_in o))
    unfolding delete_pointer_rule
    delete-none n = refuses (delete_pointer_rule p (handle_in o)) 4 (refused-here 4 _ _ (rw (tested ∙ n)))

    pub delete-made : (x : Opening) (z : Position) → b ≡ false → 3 ≤ p → z.0 ≡ 0 → x ≡ pointed o p z → outcome_of (done 0) x ≡ after (delete_pointer_rule p (handle_in o))
    unfolding delete_pointer_rule
    delete-made x z there l ez e =
        uses (delete_pointer_rule p (handle_in o)) 0 (moved (handle_in o) p 0) x
        (went_on 4 _ _ _ (rw (tested ∙ there) (le-ltb p 3 l)) refl)
        (e ∙ ap (λ (n : ℕ). pointed o p (position n)) ez ∙ sym (moved_in o p 0))

    pub delete-known : length o.pointers ≡ 8 → b ≡ false → p ≤ 7
    delete-known eight there = value-some o p eight (λ e. none-not b v.0 eb there (ev ∙ e))

  pub delete-standard : (p : ℕ) → p < 3 → outcome_of (refused 4) o ≡ after (delete_pointer_rule p (handle_in o))
  unfolding delete_pointer_rule
  delete-standard p l = refuses (delete_pointer_rule p (handle_in o)) 4 (refused-here 4 _ _ (either_true (eqb (value (handle_in o) p) 0) (ltb p 3) (lt-ltb p 3 l)))

  -- ---- "Renaming (needs the work permit) changes the opening's name only."

  pub rename-refused : (n : List ℕ) → (o.permit ≡ 1 → ⊥) → outcome_of (refused 5) o ≡ after (rename_rule n (handle_in o))
  unfolding rename_rule
  rename-refused n h = refuses (rename_rule n (handle_in o)) 5 (refused-here 5 _ _ (rw (ne_eqb o.permit 1 h)))

  pub rename-made : (n : List ℕ) → o.permit ≡ 1 → outcome_of (done 0) (titled o n) ≡ after (rename_rule n (handle_in o))
  unfolding rename_rule
  rename-made n h = uses (rename_rule n (handle_in o)) 0 (named (handle_in o) n) (titled o n) (went_on 5 _ _ _ (rw (eq-eqb o.permit 1 h)) refl) (sym (named_in o n))

pub ruleset pointing = (new_none, delete-none, delete-standard, delete-made)
