-- "Through 0: the first element is dropped, no segment is taken and no store cell changes.": as long as the first stretch keeps an element, only the
-- begin moves. i is an entry of 32, s the store's cells, t the tables', l a list of numbers. Assumes nothing.
use Rattle.std.specs.Prelude.{Ok}
use Prim.Native.Nat.{ℕ, ◌+◌, ◌≤◌, ◌<◌}
use mathlib.Core.Path.{◌≡◌, refl, sym, ap, subst, ◌∙◌}
use mathlib.Core.Bool.{false}
use mathlib.Core.List.{List}
use native.Mathlib.Omega.{arith}
use lib.Dec.{ltb}
use lib.ListN.{length, get_or, length-map}
use borrow.Author.Tests.{ne_eqb, le-ltb, lt-leb}
use Rattle.combine.specs.Lists.{tab}
use Rattle.numbers.specs.declared.Number.TheVariants.{Plain}
use Rattle.numbers.specs.Numbers.{is_foreign, too_wide}
use Rattle.placing.specs.Placing.{position, stretch_of, held_of}
use Rattle.placing.specs.Laws.Held.{dropped}
use Rattle.rules.specs.Calls.{Act, write, reset}
use Rattle.tables.specs.declared.Opening.{Opening}
use Rattle.tables.specs.Layout.{opening_at, put_opening}
use Rattle.tables.specs.Fields.{value_of}
use Rattle.tables.specs.Handles.{pointed}
use Rattle.opening_laws.specs.Deeded.{first_left}
use Rattle.gate_laws.specs.Standing.{Standing, standing-long}
use Rattle.gate_laws.specs.Known.{Known}
use Rattle.write_plan.specs.declared.Plan.TheVariants.{Drop}
use Rattle.write_plan.specs.Plans.{write_verdict, Planned}
use Rattle.write_plan.proofs.Insides.{inside-drop}
use Rattle.write_plan.proofs.Decides.{write-inside}
use Rattle.call_write.proofs.Carries.{carry-drop}
use Rattle.run_spans.specs.Ahead.{Ahead, Fits}
use Rattle.run_laws.specs.Singles.{writes_of, Goes}
use Rattle.run_laws.specs.Pointed.{by-there, by_value, by-beside}
use Rattle.run_laws.specs.Along.{Steps, goes-along}
use Rattle.call_write_run.proofs.Steps.{known, map_at, fitting-used}

-- the second element is of the first stretch
pub record Stays (o : Opening) : Type 0 where
  pub kind : is_foreign false o.species ≡ false
  pub works : o.permit ≡ 1
  pub more : value_of o 0 + 1 < value_of o 1
  pub same : stretch_of o.species (value_of o 0 + 1) ≡ stretch_of o.species (value_of o 0)

module _ (t : List ℕ) (o : Opening) (w : Known t o) (a : Stays o) where
  held_stays : ltb (held_of o.species (value_of o 0 + 1) (value_of o 1)) (held_of o.species (value_of o 0) (value_of o 1)) ≡ false
  held_stays =
      let f = w.file in
      let m = a.more in
      let s = a.same in
      let d = dropped o.species f.species (value_of o 0) f.first (value_of o 1) (omega arith) m in
      le-ltb (held_of o.species (value_of o 0 + 1) (value_of o 1)) (held_of o.species (value_of o 0) (value_of o 1)) (omega arith)

  -- the list of segments stays
  begin-moves : first_left o ≡ pointed o 0 (position (value_of o 0 + 1))
  unfolding first_left
  begin-moves = rw held_stays refl

  drop-planned : Planned t o 0 (write_verdict t o 0 false false) (Ok Drop)
  drop-planned =
      let f = w.file.first in
      let m = a.more in
      write-inside t o 0 false false _ refl a.kind (value_of o 0) refl _ refl (ne_eqb (value_of o 0) 0 (λ e. omega arith)) a.works (value_of o 0) refl _ refl
      (le-ltb (value_of o 0) (value_of o 0) (omega arith)) (λ e. omega arith) (Ok Drop)
      (inside-drop t o 0 false (value_of o 0) (value_of o 1) refl refl _ refl (lt-leb (value_of o 1) (value_of o 0) (omega arith)) refl refl)

drop-steps : (s t : List ℕ) (i : ℕ) (w : Standing (length s) t i) → Stays (opening_at t i) → (n : ℕ) → too_wide (opening_at t i).species (Plain n) ≡ false → Steps i 0 (write 0 n) s t 0 s
drop-steps s t i w a n fits =
    let o = opening_at t i in
    let k = known s t i w in
    record {
      outcome = fitting-used s t i w 0 n fits
          ∙ sym (carry-drop t o 0 (write_verdict t o 0 false false) Drop (drop-planned t o k a) s i n k (pointed o 0 (position (value_of o 0 + 1))) _ refl (sym (begin-moves t o k a)) refl);
    }

-- ---- k elements are dropped, where more than k lie ahead in the first stretch

module _ (s t : List ℕ) (i : ℕ) (w : Standing (length s) t i) (kind : is_foreign false (opening_at t i).species ≡ false) (works : (opening_at t i).permit ≡ 1) (l : List ℕ) (k m : ℕ)
    (some : 1 ≤ k) (few : k ≤ length l) (fit : (j : ℕ) → j < k → Fits (opening_at t i).species l j) (less : k < m) (f : let o = opening_at t i in Ahead o.species (value_of o 0) (value_of o 1) m) where
  o : Opening
  o = opening_at t i

  b : ℕ
  b = value_of (opening_at t i) 0

  tables : ℕ → List ℕ
  tables j = put_opening t i (pointed (opening_at t i) 0 (position (value_of (opening_at t i) 0 + j)))

  stays : (j : ℕ) → j < k → Stays (opening_at (tables j) i)
  unfolding o b tables
  stays j lt =
      let long = standing-long w in
      let there : opening_at (tables j) i ≡ pointed o 0 (position (b + j)) = by-there t long i w.entry 0 j in
      let begin : value_of (opening_at (tables j) i) 0 ≡ b + j = ap (λ (y : Opening). value_of y 0) there ∙ by_value t long i w.entry 0 (omega arith) j in
      let end : value_of (opening_at (tables j) i) 1 ≡ value_of o 1 = ap (λ (y : Opening). value_of y 1) there ∙ by-beside t long i w.entry 0 j 1 (λ q. omega arith) in
      let species : (opening_at (tables j) i).species ≡ o.species = ap (λ (y : Opening). y.species) there in
      let next : b + j + 1 ≡ b + (j + 1) = omega arith in
      let h = f.before in
      record {
        kind = ap (is_foreign false) species ∙ kind;
        works = ap (λ (y : Opening). y.permit) there ∙ works;
        more = omega arith;
        same = (λ q. stretch_of (species q) (begin q + 1)) ∙ ap (stretch_of o.species) next ∙ f.same (j + 1) (omega (arith, lt)) ∙ sym (f.same j (omega (arith, lt)))
            ∙ sym (λ q. stretch_of (species q) (begin q));
      }

  fits-there : (j : ℕ) → j < k → too_wide (opening_at (tables j) i).species (Plain (get_or l j 0)) ≡ false
  unfolding tables
  fits-there j lt = ap (λ (y : Opening). too_wide y.species (Plain (get_or l j 0))) (by-there t (standing-long w) i w.entry 0 j) ∙ fit j lt

  drop-step : (j : ℕ) → j < k → Standing (length s) (tables j) i → Steps i 0 (get_or (writes_of 0 l) j reset) s (tables j) 0 s
  drop-step j lt q =
      subst (λ (c : Act). Steps i 0 c s (tables j) 0 s) (sym (map_at (write 0) l j 0 reset (omega arith))) (drop-steps s (tables j) i q (stays j lt) (get_or l j 0) (fits-there j lt))

  pub drop-goes : let o = opening_at t i in Goes i (writes_of 0 l) s t (tab k (λ j. 0)) s (put_opening t i (pointed o 0 (position (value_of o 0 + k))))
  unfolding o b tables
  drop-goes = goes-along i 0 (writes_of 0 l) s t w (omega arith) k some (omega (arith, few, length-map l (write 0))) (λ j. s) refl (λ j. 0) drop-step
