-- The single next, at each position of a stretch: s is the store's cells, t the tables', i an entry of 32, p a pointer. Assumes nothing.
use Rattle.std.specs.Prelude.{Ok}
use Prim.Native.Nat.{ℕ, ◌+◌, ◌-◌, ◌≤◌, ◌<◌}
use mathlib.Core.Path.{◌≡◌, refl, sym, ap, subst, ◌∙◌}
use mathlib.Core.Logic.{◌≢◌, ⊎_elim}
use mathlib.Core.Bool.{Bool, true, false}
use mathlib.Core.List.{List}
use native.Mathlib.Omega.{arith}
use lib.Dec.{eqb, ltb}
use lib.ListN.{length, get_or}
use borrow.Author.Tests.{ne_eqb, le-ltb}
use Rattle.combine.specs.Verdict.{Verdict, done, refuse◌when◌else◌}
use Rattle.combine.specs.Laws.Numbers.{eq-or-ne}
use Rattle.numbers.specs.Numbers.{is_foreign}
use Rattle.placing.specs.declared.Segment.{Segment}
use Rattle.placing.specs.Sizes.{greatest_species, all_pointers}
use Rattle.placing.specs.Placing.{segment, position, stretch_of, held_of, slot_of}
use Rattle.placing.specs.Laws.Sized.{stretch-mono}
use Rattle.placing.specs.Laws.Held.{dropped}
use Rattle.store.specs.Store.{element_at}
use Rattle.rules.specs.Calls.{next}
use Rattle.rules.specs.Effects.{Use}
use Rattle.rules.specs.Access.{next_rule}
use Rattle.tables.specs.declared.Opening.{Opening}
use Rattle.tables.specs.Layout.{opening_at, put_opening}
use Rattle.tables.specs.Fields.{value_of}
use Rattle.tables.specs.Handles.{handle_in, pointed}
use Rattle.opening_laws.specs.Deeded.{first_left}
use Rattle.gate_laws.specs.Standing.{Standing, standing-long}
use Rattle.gate_laws.specs.Known.{standing-known}
use Rattle.call_next_prev.specs.Reads.{segment_for, lacks_permit, next_left, NextPlan, delivered}
use Rattle.call_next_prev.proofs.Chains.{next-there}
use Rattle.call_next_prev.proofs.Delivers.{next-told}
use Rattle.run_laws.specs.Stands.{use-used}
use Rattle.run_laws.specs.Pointed.{value-pointed, value-beside, by-there}
use Rattle.run_laws.specs.Along.{Steps}
use Rattle.run_takes.specs.Takes.{Points, Far}

-- ---- a next that does nothing to the opening but move its pointer

record Moves (o : Opening) (p : ℕ) : Type 0 where
  pub kind : is_foreign false o.species ≡ false
  pub low : value_of o 0 ≤ value_of o p
  pub high : value_of o p < value_of o 1
  pub allowed : lacks_permit p 0 o.permit ≡ false
  pub left : next_left o p ≡ pointed o p (position (value_of o p + 1))

module _ (s t : List ℕ) (i : ℕ) (w : Standing (length s) t i) (p : ℕ) where
  next_one : let o = opening_at t i in Moves o p → Steps i p (next p) s t (element_at s o.species (segment_for o (value_of o p)) (position (value_of o p))) s
  unfolding delivered
  next_one m =
      let o = opening_at t i in
      let x = position (value_of o p) in
      let known = standing-known s t i w o refl in
      let first = known.file.first in
      let there = ne_eqb (value_of o p) 0 (λ z. let l = m.low in omega arith) in
      let plan : NextPlan o false p (Ok (record { segment = segment_for o (value_of o p); position = x })) = next-there false o p _ refl m.kind x refl (eqb (value_of o p) 0) refl there _ refl m.allowed m.low m.high known.file _ refl in
      record { outcome = use-used s t i w (next p) ∙ sym (next-told t o false p _ plan known s i (pointed o p (position (value_of o p + 1))) _ (sym m.left) refl) }

-- ---- a next that is done was of its file's kind, and allowed

passed_on : (n : ℕ) (b : Bool) (v : Verdict Use) (u : Use) → refuse◌when◌else◌ n b v ≡ done u → (b ≡ false) × (v ≡ done u)
unfolding refuse◌when◌else◌
passed_on n true v u e = let z : ◌≡◌ {A = ℕ} 0 1 = cc in absurd (omega arith)
passed_on n false v u e = (refl, e)

module _ (o : Opening) (p : ℕ) (u : Use) (e : next_rule false p (handle_in o) ≡ done u) where
  pub next-kind : is_foreign false o.species ≡ false
  unfolding next_rule
  next-kind = (passed_on 19 _ _ u e).0

  pub next-allowed : lacks_permit p 0 o.permit ≡ false
  unfolding next_rule
  next-allowed = (passed_on 5 _ _ u (passed_on 4 _ _ u (passed_on 19 _ _ u e).1).1).0

-- ---- the opening whose pointer is j further on, within the stretch

abbrev on : Opening → ℕ → ℕ → Opening
on o p j = pointed o p (position (value_of o p + j))

-- a next at it delivers from the same segment, and moves its pointer
record Same (o : Opening) (p j : ℕ) : Type 0 where
  pub low : value_of (on o p j) 0 ≤ value_of o p + j
  pub which : segment_for (on o p j) (value_of o p + j) ≡ segment_for o (value_of o p)
  pub left : next_left (on o p j) p ≡ pointed (on o p j) p (position (value_of o p + j + 1))

module _ (o : Opening) (eight : length o.pointers ≡ all_pointers) (j : ℕ) where
  -- through 0 no segment leaves the list
  same_first : o.species ≤ greatest_species → 1 ≤ value_of o 0 → value_of o 0 + j + 1 < value_of o 1
      → stretch_of o.species (value_of o 0 + j + 1) ≡ stretch_of o.species (value_of o 0 + j) → Same o 0 j
  unfolding next_left first_left slot_of
  same_first species first high same =
      let o' = on o 0 j in
      let b : value_of o' 0 ≡ value_of o 0 + j = value-pointed o 0 _ eight (omega arith) in
      let e : value_of o' 1 ≡ value_of o 1 = value-beside o 0 _ 1 (λ q. omega arith) in
      let here = ap (stretch_of o.species) b in
      let next : stretch_of o.species (value_of o' 0 + 1) ≡ stretch_of o.species (value_of o 0 + j + 1) = ap (λ (v : ℕ). stretch_of o.species (v + 1)) b in
      let slot : stretch_of o.species (value_of o 0 + j) - stretch_of o.species (value_of o' 0) ≡ stretch_of o.species (value_of o 0) - stretch_of o.species (value_of o 0) = omega arith in
      let stay = dropped o.species species (value_of o' 0) (omega arith) (value_of o' 1) (omega arith) (omega arith) in
      let held : held_of o.species (value_of o' 0) (value_of o' 1) ≤ held_of o.species (value_of o' 0 + 1) (value_of o' 1) = omega arith in
      let test : ltb (held_of o.species (value_of o' 0 + 1) (value_of o' 1)) (held_of o.species (value_of o' 0) (value_of o' 1)) ≡ false = le-ltb _ _ held in
      record {
        low = omega arith;
        which = ap (λ (k : ℕ). get_or o.segments k (segment 0)) slot;
        left = rw test (ap (λ (v : ℕ). pointed o' 0 (position (v + 1))) b);
      }

  same-other : (p : ℕ) → p < all_pointers → p ≢ 0 → value_of o 0 ≤ value_of o p → stretch_of o.species (value_of o p + j) ≡ stretch_of o.species (value_of o p) → Same o p j
  unfolding next_left slot_of
  same-other p known d low same =
      let o' = on o p j in
      let b : value_of o' 0 ≡ value_of o 0 = value-beside o p _ 0 (λ q. d (sym q)) in
      let v : value_of o' p ≡ value_of o p + j = value-pointed o p _ eight known in
      let other = ne_eqb p 0 d in
      record {
        low = omega arith;
        which = λ k. get_or o.segments (same k - stretch_of o.species (b k)) (segment 0);
        left = rw other (ap (λ (x : ℕ). pointed o' p (position (x + 1))) v);
      }

-- ---- each position of a stretch

-- so many nexts through the pointer, of so many that are left, deliver from its stretch and move it
pub record Within (o : Opening) (p left k : ℕ) : Type 0 where
  pub points : Points o p
  pub low : value_of o 0 ≤ value_of o p
  pub kind : is_foreign false o.species ≡ false
  pub allowed : lacks_permit p 0 o.permit ≡ false
  pub far : Far o p left k

module _ (o : Opening) (eight : length o.pointers ≡ all_pointers) (p left k : ℕ) (a : Within o p left k) (j : ℕ) (h : j < k) where
  same-zero : p ≡ 0 → Same o 0 j
  same-zero z =
      let f = a.points in
      let begin = a.far.begin z in
      let same = a.far.same j h in
      let e = ap (value_of o) z in
      let here = ap (λ (v : ℕ). stretch_of o.species (v + j)) e in
      let up = stretch-mono o.species f.species (value_of o 0 + j) (value_of o 0 + j + 1) (omega arith) in
      let most = stretch-mono o.species f.species (value_of o 0 + j + 1) (value_of o p + k) (omega arith) in
      same_first o eight j f.species (omega arith) (omega arith) (omega arith)

  same-there : Same o p j
  same-there = ⊎_elim
      (λ z. subst (λ (q : ℕ). Same o q j) (sym z) (same-zero z))
      (λ d. same-other o eight j p a.points.known d a.low (a.far.same j h)) (eq-or-ne p 0)

  value_there : value_of (on o p j) p ≡ value_of o p + j
  value_there = value-pointed o p _ eight a.points.known

  -- the end is another pointer's value
  not_end : 1 ≢ p
  not_end z = let e = ap (value_of o) z in let b = a.points.before in omega arith

  moves : Moves (on o p j) p
  moves =
      let v = value_there in
      let e : value_of (on o p j) 1 ≡ value_of o 1 = value-beside o p _ 1 not_end in
      let most = a.far.before in
      let begin = same-there.low in
      record { kind = a.kind; low = omega arith; high = omega arith; allowed = a.allowed; left = same-there.left ∙ ap (λ (x : ℕ). pointed (on o p j) p (position (x + 1))) (sym v) }

  tells : (s : List ℕ) → let y = on o p j in
      element_at s y.species (segment_for y (value_of y p)) (position (value_of y p)) ≡ element_at s o.species (segment_for o (value_of o p)) (position (value_of o p + j))
  tells s =
      (λ q. element_at s o.species (segment_for (on o p j) (value_there q)) (position (value_there q)))
      ∙ ap (λ (g : Segment). element_at s o.species g (position (value_of o p + j))) same-there.which

module _ (s t : List ℕ) (i : ℕ) (w : Standing (length s) t i) (p left k : ℕ) where
  pub next-steps : let o = opening_at t i in Within o p left k → (j : ℕ) → j < k → let t' = put_opening t i (pointed o p (position (value_of o p + j))) in
      Standing (length s) t' i → Steps i p (next p) s t' (element_at s o.species (segment_for o (value_of o p)) (position (value_of o p + j))) s
  next-steps a j h q =
      let o = opening_at t i in
      let t' = put_opening t i (pointed o p (position (value_of o p + j))) in
      let eight = (standing-known s t i w o refl).file.pointers8 in
      let there : opening_at t' i ≡ on o p j = by-there t (standing-long w) i w.entry p j in
      let told = ap (λ (y : Opening). element_at s y.species (segment_for y (value_of y p)) (position (value_of y p))) there ∙ tells o eight p left k a j h s in
      subst (λ (n : ℕ). Steps i p (next p) s t' n s) told (next_one s t' i q p (subst (λ (y : Opening). Moves y p) (sym there) (moves o eight p left k a j h)))
