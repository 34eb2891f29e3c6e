-- The entries of the cells t, where all pass the tests; "a work opening's record .. has no other opening". Assumes nothing.
use Prim.Native.Nat.{ℕ, suc, ◌-◌, ◌<◌}
use native.Mathlib.Omega.{arith}
use Rattle.std.proofs.Math.Path.{◌≡◌, sym}
use Rattle.std.specs.Prelude.{refl, ◌≢◌, Bool, ◌||◌, cond, List, map, T, length, get_or}
use Rattle.std.proofs.Common.{ap, ◌∙◌, subst}
use Rattle.std.proofs.Math.Bool.{true, false, not}
use Rattle.std.proofs.Math.Option.{none, some}
use Rattle.std.proofs.Math.Dec.{eqb, eqb→eq}
use borrow.Author.Tests.{eqb-true, eqb-false, eq-eqb, ne_eqb}
use Rattle.combine.specs.Laws.Below.{all-at}
use Rattle.combine.specs.Laws.Rows.{each_of}
use Rattle.placing.specs.Sizes.{entries, tables_length}
use Rattle.rules.specs.Headings.{Handle, handle_of, passes}
use Rattle.rules.specs.House.{opens_place, works_place}
use Rattle.segments.specs.Free.{SegmentOpening}
use Rattle.segments.specs.Laws.Sound.{Alone}
use Rattle.tables.specs.Layout.{opening_at}
use Rattle.tables.specs.Fields.{is_open}
use Rattle.tables.specs.Handles.{handle_in, place_of}
use Rattle.tables.specs.Openings.{workb, openb, openingb, openingsb}
use Rattle.tables.specs.Laws.Put.{opening-shaped-at}
use Rattle.cells.specs.Says.{house_of}
use Rattle.combine.specs.Laws.Tests.{and_first, and_second, eqb-ne}
use Rattle.proof_cells_agree.specs.Lists.{passing-at}
use Rattle.proof_cells_agree.specs.There.{opening-there}
use Rattle.proof_cells_agree.specs.Openings.{shared}

pub opening-ok : (t : List ℕ) → openingsb t ≡ true → (i : ℕ) → i < entries → openingb t i ≡ true
unfolding openingsb
opening-ok t ok i l = all-at (openingb t) entries ok i l

pub open-tests : (t : List ℕ) (i : ℕ) → openingb t i ≡ true → is_open (opening_at t i) ≡ true → openb t i (opening_at t i) ≡ true
unfolding openingb
open-tests t i ok u = let z : eqb (opening_at t i).opened 0 ≡ false = ap (λ (k : ℕ). eqb k 0) (eqb-true (opening_at t i).opened 1 u) in rw z at ok

-- an entry whose handle passes a test
record Passing (t : List ℕ) (f : Handle → Bool) (i : ℕ) : Type 0 where
  below : i < entries
  opened : is_open (opening_at t i) ≡ true
  passed : T (f (handle_in (opening_at t i)))

passing : (t : List ℕ) (f : Handle → Bool) (i : ℕ) → T (passes f (get_or (map handle_of (house_of t).openings) i none)) → Passing t f i
passing t f i h =
    let w = passing-at f (λ (x : SegmentOpening). x.handle) handle_of refl (λ x. refl) (house_of t).openings i h in
    let there = opening-there t i w.0 w.1 in
    record { below = there.below; opened = there.opened; passed = subst (λ (x : SegmentOpening). T (f x.handle)) (sym there.same) w.2 }

-- the place that a number in the cells means
place-said : (p n : ℕ) → T (passes (eqb p) (place_of n)) → n ≡ suc p
place-said p n = go (eqb n 0) refl
  where
    go : (b : Bool) → eqb n 0 ≡ b → T (passes (eqb p) (cond b none (some (n - 1)))) → n ≡ suc p
    go true e k = absurd k
    go false e k = let d = eqb-false n 0 e in let q = eqb→eq p (n - 1) k in omega (arith, d)

module _ (t : List ℕ) (long : length t ≡ tables_length) (ok : openingsb t ≡ true) where
  works-alone : (p i j : ℕ) → Passing t (works_place p) i → Passing t (opens_place p) j → i ≢ j → ⊥
  unfolding workb
  works-alone p i j a b d =
      let o = opening_at t i in
      let place = place-said p o.place (and_second (eqb o.permit 1) (passes (eqb p) (place_of o.place)) a.passed) in
      let permit = eqb→eq o.permit 1 (and_first (eqb o.permit 1) (passes (eqb p) (place_of o.place)) a.passed) in
      let tests = open-tests t i (opening-ok t ok i a.below) a.opened in
      let f = each_of _ (shared t i o (opening-shaped-at t long i a.below) tests 1 permit (ne_eqb o.place 0 (λ e. omega arith))) in
      no-other place (all-at _ entries f.1.1.0 j b.below)
    where
      no-other : (opening_at t i).place ≡ suc p → (eqb j i || not (eqb (opening_at t j).place (opening_at t i).place)) ≡ true → ⊥
      no-other e k =
          let at_j : (opening_at t j).place ≡ suc p = place-said p (opening_at t j).place b.passed in
          let same : eqb (opening_at t j).place (opening_at t i).place ≡ true = eq-eqb (opening_at t j).place (opening_at t i).place (at_j ∙ sym e) in
          let z : false ≡ true = rw (eqb-ne j i (λ q. d (sym q)), same) at k in
          let y : ◌≡◌ {A = ℕ} 0 1 = cc in omega arith

  pub entries-alone : Alone (map handle_of (house_of t).openings)
  entries-alone p i j d hi hj = works-alone p i j (passing t (works_place p) i hi) (passing t (opens_place p) j hj) d
