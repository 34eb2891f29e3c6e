-- A reading is delivered, as the code's steps give its premises. Assumes nothing.
use Rattle.std.specs.Prelude.{Ok}
use Prim.Native.Nat.{ℕ, ◌+◌, ◌-◌, ◌*◌, ◌≤◌, ◌<◌}
use mathlib.Core.Path.{◌≡◌, refl, sym, ap, subst, ◌∙◌}
use mathlib.Core.Logic.{⊎_elim}
use mathlib.Core.Bool.{Bool, true, false, cond}
use mathlib.Core.Option.{some}
use mathlib.Core.List.{List}
use native.Mathlib.Omega.{arith}
use lib.Dec.{eqb}
use borrow.Author.Tests.{eqb-true}
use Rattle.combine.specs.Laws.Below.{split-bool}
use Rattle.combine.specs.Verdict.{Verdict, done}
use Rattle.combine.specs.Outcome.{Outcome, outcome_of}
use Rattle.placing.specs.Sizes.{greatest_species}
use Rattle.placing.specs.Placing.{slot_of}
use Rattle.store.specs.Store.{element_at}
use Rattle.rules.specs.Headings.{opening, moved}
use Rattle.rules.specs.Effects.{Deed, stays, first_leaves, last_leaves, element, Use}
use Rattle.rules.specs.Access.{next_rule}
use Rattle.segments.specs.Deeds.{segments_after, store_after}
use Rattle.tables.specs.declared.Opening.{Opening}
use Rattle.tables.specs.Layout.{segment_number, segments_in, put_opening}
use Rattle.tables.specs.Fields.{value_of}
use Rattle.tables.specs.Handles.{handle_in}
use Rattle.cells.specs.Says.{opening_in, house_of, as_opening}
use Rattle.cells.specs.Outcomes.{Lent, lent, outcome}
use Rattle.placing.specs.Laws.Held.{slot-within}
use Rattle.opening_laws.specs.Back.{OpenFile, first_back, last-back, stay-back}
use Rattle.opening_laws.specs.Shared.{segment-in}
use Rattle.gate_laws.specs.Known.{Known}
use Rattle.gate_laws.specs.Used.{used_out, used-done}
use Rattle.call_next_prev.specs.declared.Direction.{Direction}
use Rattle.call_next_prev.specs.declared.Direction.TheVariants.{Forward, Backward}
use Rattle.call_next_prev.specs.declared.Reading.{Reading}
use Rattle.call_next_prev.specs.Reads.{next_left, prev_left, rule_of, edge_of, leaves_of, left_by, from_of, to_of, Delivers, ReadPlan, NextPlan, delivered}

-- ---- the opening that is put back

module _ (t : List ℕ) (o : Opening) (w : OpenFile o) (p : ℕ) (there : value_of o 0 < value_of o 1) where
  next-back : let n = moved (handle_in o) p (value_of o p + 1) in
      as_opening (some (opening n (segments_after (house_of t) (opening_in o) n (cond (eqb p 0) first_leaves stays)))) ≡ next_left o p
  unfolding next_left
  next-back = ⊎_elim
      (λ b. subst (λ (q : ℕ). let n = moved (handle_in o) q (value_of o q + 1) in
      as_opening (some (opening n (segments_after (house_of t) (opening_in o) n (cond (eqb q 0) first_leaves stays)))) ≡ next_left o q)
      (sym (eqb-true p 0 b)) (first_back o w there (house_of t)))
      (λ b. rw b (stay-back o w p (value_of o p + 1))) (split-bool (eqb p 0))

  prev-back : let n = moved (handle_in o) p (value_of o p - 1) in
      as_opening (some (opening n (segments_after (house_of t) (opening_in o) n (cond (eqb p 1) last_leaves stays)))) ≡ prev_left o p
  unfolding prev_left
  prev-back = ⊎_elim
      (λ b. subst (λ (q : ℕ). let n = moved (handle_in o) q (value_of o q - 1) in
      as_opening (some (opening n (segments_after (house_of t) (opening_in o) n (cond (eqb q 1) last_leaves stays)))) ≡ prev_left o q)
      (sym (eqb-true p 1 b)) (last-back o w there (house_of t)))
      (λ b. rw b (stay-back o w p (value_of o p - 1))) (split-bool (eqb p 1))

  back : (d : Direction) (x : ℕ) → value_of o p ≡ from_of d x
      → let n = moved (handle_in o) p (to_of d x) in
      as_opening (some (opening n (segments_after (house_of t) (opening_in o) n (cond (eqb p (edge_of d)) (leaves_of d) stays)))) ≡ left_by d o p
  back Forward x e = subst (λ (y : ℕ). let n = moved (handle_in o) p (y + 1) in
      as_opening (some (opening n (segments_after (house_of t) (opening_in o) n (cond (eqb p 0) first_leaves stays)))) ≡ next_left o p) e next-back
  back Backward x e = subst (λ (y : ℕ). let n = moved (handle_in o) p y in
      as_opening (some (opening n (segments_after (house_of t) (opening_in o) n (cond (eqb p 1) last_leaves stays)))) ≡ prev_left o p) (let z : value_of o p - 1 ≡ x = omega arith in z) prev-back

-- neither changes a cell of the store
keeps-store : (d : Direction) (s t : List ℕ) (o : Opening) (b : Bool) → store_after s (house_of t) (opening_in o) (cond b (leaves_of d) stays) ≡ s
keeps-store Forward s t o true = refl
keeps-store Forward s t o false = refl
keeps-store Backward s t o true = refl
keeps-store Backward s t o false = refl

-- ---- what is delivered

module _ (t : List ℕ) (o : Opening) (w : OpenFile o) (p v : ℕ) (d : Deed) (verdict : Verdict Use) (r : Reading) (f : Delivers o p v d verdict r) where
  delivers : (s : List ℕ) (i : ℕ) (n : Opening) → let h = moved (handle_in o) p v in as_opening (some (opening h (segments_after (house_of t) (opening_in o) h d))) ≡ n
      → store_after s (house_of t) (opening_in o) d ≡ s → used_out s t i o verdict ≡ delivered s t i o.species n r
  unfolding delivered
  delivers s i n b k =
      used-done s t i o verdict (element r.position.0) (moved (handle_in o) p v) d n f.told b
      ∙ (λ j. outcome_of (done (element_at s o.species ((segment-in o w r.position.0 ∙ sym f.lies.which) j) r.position)) (lent (k j) (put_opening t i n)))

  -- its segment is one of the store
  within : Known t o → (cells : ℕ) → segments_in t * 64 ≤ cells → r.segment.0 * 64 + 64 ≤ cells
  within a cells l =
      let y = f.lies in
      let k : ℕ = slot_of o.species (value_of o 0) r.position.0 in
      let q = ap segment_number y.which in
      omega (arith, a.range k (slot-within o.species w.species (value_of o 0) w.first (value_of o 1) r.position.0 y.low y.high))

-- ---- what the reading that is delivered has, and what it leaves

module _ (d : Direction) (t : List ℕ) (o : Opening) (k : Bool) (p : ℕ) (r : Reading) (a : ReadPlan d o k p (Ok r)) where
  pub read-known : p < 8
  read-known = a.plan.1.known

  pub read-low : value_of o 0 ≤ r.position.0
  read-low = a.plan.1.lies.low

  pub read-high : r.position.0 < value_of o 1
  read-high = a.plan.1.lies.high

  pub read-pointer : value_of o p ≡ from_of d r.position.0
  read-pointer = a.plan.0

  module _ (w : Known t o) where
    pub read-from : 1 ≤ r.position.0
    read-from = let f = w.file in let l = a.plan.1.lies in omega arith

    pub read-fits : (cells : ℕ) → segments_in t * 64 ≤ cells → r.segment.0 * 64 + 64 ≤ cells
    read-fits cells l = within t o w.file p _ _ _ r a.plan.1 w cells l

    pub read-told : (s : List ℕ) (i : ℕ) (n : Opening) (z : Outcome Lent) → n ≡ left_by d o p → z ≡ delivered s t i o.species n r → z ≡ used_out s t i o (rule_of d k p (handle_in o))
    read-told s i n z en h =
        let l = a.plan.1.lies in
        h ∙ sym (delivers t o w.file p _ _ _ r a.plan.1 s i n (back t o w.file p (omega arith) d r.position.0 a.plan.0 ∙ sym en) (keeps-store d s t o (eqb p (edge_of d))))

    pub read-answer : (s : List ℕ) (i : ℕ) (n : Opening) (x : ℕ) (t' : List ℕ) → n ≡ left_by d o p → x ≡ element_at s o.species r.segment r.position → t' ≡ put_opening t i n
        → outcome (Ok x) s t' ≡ used_out s t i o (rule_of d k p (handle_in o))
    unfolding delivered
    read-answer s i n x t' en ex et = read-told s i n _ en (λ j. outcome_of (done (ex j)) (lent s (et j)))

pub known-file : (t : List ℕ) (o : Opening) → Known t o → OpenFile o
known-file t o w = w.file

pub known-species : (t : List ℕ) (o : Opening) → Known t o → o.species ≤ greatest_species
known-species t o w = w.file.species

pub ruleset arms = (known-file, known-species, read-known, read-low, read-high, read-pointer, read-from, read-fits, read-answer)

-- ---- of a next

module _ (t : List ℕ) (o : Opening) (k : Bool) (p : ℕ) (r : Reading) (a : NextPlan o k p (Ok r)) (w : Known t o) where
  pub next_fits : (cells : ℕ) → segments_in t * 64 ≤ cells → r.segment.0 * 64 + 64 ≤ cells
  next_fits = read-fits Forward t o k p r a w

  pub next-told : (s : List ℕ) (i : ℕ) (n : Opening) (z : Outcome Lent) → n ≡ next_left o p → z ≡ delivered s t i o.species n r → z ≡ used_out s t i o (next_rule k p (handle_in o))
  next-told = read-told Forward t o k p r a w
