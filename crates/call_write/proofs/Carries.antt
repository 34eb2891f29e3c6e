-- A plan is carried out, as the code's steps give its premises. Assumes nothing.
use Rattle.std.specs.Prelude.{Err, Ok}
use Prim.Native.Nat.{ℕ, ◌+◌, ◌*◌, ◌≤◌}
use mathlib.Core.Path.{◌≡◌, sym, ap, subst, ◌∙◌}
use mathlib.Core.Option.{some}
use mathlib.Core.List.{List}
use native.Mathlib.Omega.{arith}
use lib.ListN.{set}
use lib.Seq.{set-get_or}
use Rattle.combine.specs.Lists.{put}
use Rattle.combine.specs.Verdict.{Verdict, done}
use Rattle.combine.specs.Outcome.{Outcome, outcome_of}
use Rattle.answers.specs.declared.Refusal.{Refusal}
use Rattle.answers.specs.Said.{Answer}
use Rattle.placing.specs.declared.Segment.{Segment}
use Rattle.placing.specs.declared.Position.{Position}
use Rattle.placing.specs.Placing.{segment, position, slot_of}
use Rattle.store.specs.Store.{put_element, zeroed, copied}
use Rattle.rules.specs.Headings.{opening, moved, slot_in}
use Rattle.rules.specs.Effects.{stores, plain, Use, first_leaves}
use Rattle.segments.specs.Deeds.{target, segments_after}
use Rattle.tables.specs.declared.Opening.{Opening}
use Rattle.tables.specs.Layout.{segments_in, put_opening}
use Rattle.tables.specs.Fields.{value_of}
use Rattle.tables.specs.Handles.{handle_in, pointed}
use Rattle.tables.specs.Laws.Pointers.{value_in}
use Rattle.cells.specs.Says.{opening_in, house_of, as_opening}
use Rattle.cells.specs.Outcomes.{Lent, lent, outcome}
use Rattle.opening_laws.specs.Deeded.{with_segments, with_segment, first_left}
use Rattle.opening_laws.specs.Back.{OpenFile, store-back, first_back}
use Rattle.gate_laws.specs.Known.{Known}
use Rattle.gate_laws.specs.Used.{used_out, used-no, used-done}
use Rattle.write_plan.specs.declared.Plan.{Plan}
use Rattle.write_plan.specs.declared.Plan.TheVariants.{Drop, Put, Copy, Zero}
use Rattle.write_plan.specs.Plans.{Stores, prepared_for, Decision, Says, Planned}
use Rattle.call_write.specs.Settled.{settled, Moves}

-- ---- the element is put, the pointer grows: v is its value, x the one after

pub settle-done : (s t s' t' : List ℕ) (i : ℕ) (o m : Opening) (p n : ℕ) (g : Segment) (v x : Position) → v.0 ≡ value_of o p → x.0 ≡ v.0 + 1
    → s' ≡ put_element s o.species g v n → m ≡ pointed o p x → t' ≡ put_opening t i m → outcome (Ok 0) s' t' ≡ settled s t i o p n g
unfolding settled
settle-done s t s' t' i o m p n g v x ev ex es em et =
    let store : s' ≡ put_element s o.species g (position (value_of o p)) n = es ∙ ap (λ (k : ℕ). put_element s o.species g (position k) n) ev in
    let grown : m ≡ pointed o p (position (value_of o p + 1)) = em ∙ ap (λ (k : ℕ). pointed o p (position k)) (ex ∙ ap (λ (k : ℕ). k + 1) ev) in
    λ j. outcome_of (done 0) (lent (store j) ((et ∙ ap (put_opening t i) grown) j))

-- ---- the use that stores

module _ (s t : List ℕ) (i : ℕ) (o : Opening) (w : OpenFile o) (p : ℕ) (verdict : ℕ → Verdict Use) (k : ℕ) (g : Segment) (f : Stores t o p verdict k g) where
  stored_back : let n = moved (handle_in o) p (value_of o p + 1) in
      as_opening (some (opening n (segments_after (house_of t) (opening_in o) n (stores (value_of o p) 0)))) ≡ with_segment (pointed o p (position (value_of o p + 1))) k g
  stored_back =
      let v = value_of o p in
      let place : slot_in (handle_in o) v ≡ k = ap (λ (b : ℕ). slot_of o.species b v) (value_in o 0) ∙ sym f.place in
      let y = f.seats in
      let e = f.place in
      ap (λ (j : ℕ). as_opening (some (opening (moved (handle_in o) p (v + 1)) (put (opening_in o).content j (target (house_of t) (opening_in o) v))))) place
      ∙ store-back o w p (v + 1) k (target (house_of t) (opening_in o) v) (omega arith) (omega arith)
      ∙ ap (with_segment (pointed o p (position (v + 1))) k) (sym f.which)

  stored : (m : ℕ) (s' : List ℕ) → prepared_for t o p s ≡ s'
      → used_out s t i o (verdict m) ≡ outcome_of (done 0) (lent (put_element s' o.species g (position (value_of o p)) m) (put_opening t i (with_segment (pointed o p (position (value_of o p + 1))) k g)))
  stored m s' e =
      used-done s t i o (verdict m) (plain 0) _ (stores (value_of o p) m) _ (f.told m) stored_back
      ∙ (λ j. outcome_of (done 0) (lent (put_element (e j) o.species (sym f.which j) (position (value_of o p)) m) (put_opening t i (with_segment (pointed o p (position (value_of o p + 1))) k g))))

-- ---- nothing is to be done: a is the answer

pub carry-no : (s t : List ℕ) (i : ℕ) (o : Opening) (p : ℕ) (verdict : ℕ → Verdict Use) (d : Decision) → Planned t o p verdict d → (why : Refusal) → d ≡ Err why
    → (a : Answer) → a ≡ Err why → (m : ℕ) → outcome a s t ≡ used_out s t i o (verdict m)
carry-no s t i o p verdict d f why e a ea m =
    let says = (subst (λ (r : Decision). Planned t o p verdict r) e f).says in
    ap (λ (x : Answer). outcome x s t) ea ∙ used-no s t i o (verdict m) _ (says m)

-- ---- something is

pub planned-ok : (t : List ℕ) (o : Opening) (p : ℕ) (verdict : ℕ → Verdict Use) (d : Decision) → Planned t o p verdict d → (plan : Plan) → d ≡ Ok plan → Planned t o p verdict (Ok plan)
planned-ok t o p verdict d f plan e = subst (λ (r : Decision). Planned t o p verdict r) e f

-- ---- what each arm has of its plan

module _ (t : List ℕ) (o : Opening) (p : ℕ) (verdict : ℕ → Verdict Use) (plan : Plan) (a : Planned t o p verdict (Ok plan)) where
  is : (q : Plan) → plan ≡ q → Says t o p verdict (Ok q)
  is q e = subst (λ (r : Plan). Says t o p verdict (Ok r)) e a.says

  moves : Known t o → {k : ℕ} {g : Segment} → Stores t o p verdict k g → Moves o p
  moves w f =
      let x = w.file in
      let y = f.seats in
      record { species = x.species; known = y.known; some = omega arith; small = y.high }

  module _ (w : Known t o) where
    -- an opening with another segment at a place
    moves-with : {k : ℕ} {g : Segment} → Stores t o p verdict k g → (n : Opening) → n ≡ with_segment o k g → Moves n p
    unfolding value_of
    moves-with {k} {g} f n e =
        let m = moves w f in
        subst (λ (x : Opening). Moves x p) (sym e) (record { species = m.species; known = m.known; some = m.some; small = m.small })

    pub copy_moves : (k : ℕ) (f g : Segment) → plan ≡ Copy k f g → (n : Opening) → n ≡ with_segment o k g → Moves n p
    copy_moves k f g e n q = moves-with (is (Copy k f g) e).into n q

    pub zero-moves : (k : ℕ) (g : Segment) → plan ≡ Zero k g → (n : Opening) → n ≡ with_segment o k g → Moves n p
    zero-moves k g e n q = moves-with (is (Zero k g) e).into n q

  module _ (cells : ℕ) (fits : segments_in t * 64 ≤ cells) where
    pub copy-to : (k : ℕ) (f g : Segment) → plan ≡ Copy k f g → g.0 * 64 + 64 ≤ cells
    copy-to k f g e = omega (arith, (is (Copy k f g) e).into.range)

    pub zero-fits : (k : ℕ) (g : Segment) → plan ≡ Zero k g → g.0 * 64 + 64 ≤ cells
    zero-fits k g e = omega (arith, (is (Zero k g) e).into.range)

  -- ---- what each arm leaves

  module _ (s : List ℕ) (i m : ℕ) where
    module _ (w : Known t o) where
      pub carry-drop : (n : Opening) (t' : List ℕ) → plan ≡ Drop → n ≡ first_left o → t' ≡ put_opening t i n → outcome (Ok 0) s t' ≡ used_out s t i o (verdict m)
      carry-drop n t' e en et =
          let d = is Drop e in
          (λ j. outcome_of (done 0) (lent s ((et ∙ ap (put_opening t i) en) j)))
          ∙ sym (used-done s t i o (verdict m) (plain 0) _ first_leaves _ (d.told m) (first_back o w.file d.some (house_of t)))

      pub carry-put : (g : Segment) (z : Outcome Lent) → plan ≡ Put g → z ≡ settled s t i o p m g → z ≡ used_out s t i o (verdict m)
      unfolding settled
      carry-put g z e h =
          let f = is (Put g) e in
          let k = slot_of o.species (value_of o 0) (value_of o p) in
          let same : set o.segments k g ≡ o.segments = ap (set o.segments k) (sym f.there) ∙ set-get_or o.segments k (segment 0) in
          h
          ∙ (λ j. outcome_of (done 0) (lent (put_element s o.species g (position (value_of o p)) m) (put_opening t i (with_segments (pointed o p (position (value_of o p + 1))) (sym same j)))))
          ∙ sym (stored s t i o w.file p verdict k g f.into m s (f.cells s))

      pub carry-copy : (k : ℕ) (f g : Segment) (n : Opening) (s' : List ℕ) (z : Outcome Lent) → plan ≡ Copy k f g → s' ≡ copied s f g → n ≡ with_segment o k g → z ≡ settled s' t i n p m g
          → z ≡ used_out s t i o (verdict m)
      unfolding settled value_of
      carry-copy k f g n s' z e es en h =
          let c = is (Copy k f g) e in
          h ∙ (λ j. settled (es j) t i (en j) p m g) ∙ sym (stored s t i o w.file p verdict k g c.into m (copied s f g) (c.cells s))

      pub carry-zero : (k : ℕ) (g : Segment) (n : Opening) (s' : List ℕ) (z : Outcome Lent) → plan ≡ Zero k g → s' ≡ zeroed s g → n ≡ with_segment o k g → z ≡ settled s' t i n p m g
          → z ≡ used_out s t i o (verdict m)
      unfolding settled value_of
      carry-zero k g n s' z e es en h =
          let c = is (Zero k g) e in
          h ∙ (λ j. settled (es j) t i (en j) p m g) ∙ sym (stored s t i o w.file p verdict k g c.into m (zeroed s g) (c.cells s))

pub ruleset carries = (copy_moves, zero-moves)
