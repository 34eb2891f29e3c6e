-- A pointer that is not the end: the refusals 7 and 23, and what is written, as the code's steps give their premises: v is the pointer's value, e the end,
-- w says that the number is too wide. Assumes nothing.
use Rattle.std.specs.Prelude.{Ok, Err}
use Prim.Native.Nat.{ℕ, ◌+◌, ◌≤◌}
use mathlib.Core.Path.{◌≡◌, sym, ap, ◌∙◌}
use mathlib.Core.Bool.{Bool, true, false, cond}
use mathlib.Core.List.{List}
use native.Mathlib.Omega.{arith}
use lib.Dec.{leb, eqb}
use borrow.Author.Tests.{eqb-true}
use Rattle.combine.specs.Verdict.{done}
use Rattle.combine.specs.Laws.Verdict.{refused-here, went_on}
use Rattle.answers.specs.declared.Refusal.TheVariants.{Beyond, Wide}
use Rattle.placing.specs.Laws.Tests.{most-not}
use Rattle.placing.specs.Laws.Held.{slot-within}
use Rattle.rules.specs.Headings.{moved}
use Rattle.rules.specs.Effects.{first_leaves, plain, does}
use Rattle.tables.specs.declared.Opening.{Opening}
use Rattle.tables.specs.Fields.{value_of}
use Rattle.tables.specs.Handles.{handle_in}
use Rattle.tables.specs.Laws.Pointers.{value-some}
use Rattle.opening_steps.specs.Bounds.{below_end}
use Rattle.gate_laws.specs.Known.{Known}
use Rattle.write_plan.specs.declared.Plan.TheVariants.{Drop}
use Rattle.write_plan.specs.Plans.{Seats, seat_verdict, inside_verdict, Decision, Planned}
use Rattle.write_plan.proofs.Appends.{planned-same}

module _ (t : List ℕ) (o : Opening) (p : ℕ) (w : Bool) (v e : ℕ) (ev : v ≡ value_of o p) (ee : e ≡ value_of o 1) (t₇ : Bool) (e₇ : t₇ ≡ leb e v) where
  beyond-is : leb (value_of o 1) (value_of o p) ≡ t₇
  beyond-is = (λ i. leb (sym ee i) (sym ev i)) ∙ sym e₇

  pub inside-beyond : t₇ ≡ true → Planned t o p (inside_verdict t o p w) (Err Beyond)
  unfolding inside_verdict
  inside-beyond l = record { says = λ n. refused-here 7 _ _ (beyond-is ∙ l) }

  module _ (high : t₇ ≡ false) where
    pub inside-wide : w ≡ true → Planned t o p (inside_verdict t o p w) (Err Wide)
    unfolding inside_verdict
    inside-wide l = record { says = λ n. went_on 7 _ _ _ (beyond-is ∙ high) (refused-here 23 _ _ l) }

    pub inside-seats : Known t o → value_of o 0 ≤ value_of o p → Seats o p
    inside-seats known low =
        let f = known.file in
        let below = below_end o v e ee t₇ e₇ high in
        let k = value-some o p f.pointers8 (λ q. omega arith) in
        let l = slot-within o.species f.species (value_of o 0) f.first (value_of o 1) (value_of o p) (omega arith) (omega arith) in
        record { known = omega arith; low = omega arith; high = omega arith; listed = omega arith; small = omega arith }

    module _ (fits : w ≡ false) where
      -- behind 7 and 23, b says that the pointer is 0
      on : (b : Bool) → eqb p 0 ≡ b → (n : ℕ) → inside_verdict t o p w n ≡ cond b (done (does (plain 0) (moved (handle_in o) p (value_of o p + 1)) first_leaves)) (seat_verdict t o p n)
      unfolding inside_verdict
      on b eb n =
          went_on 7 _ _ _ (beyond-is ∙ high)
          (went_on 23 _ _ _ fits (ap (λ (c : Bool). cond c (done (does (plain 0) (moved (handle_in o) p (value_of o p + 1)) first_leaves)) (seat_verdict t o p n)) eb))

      pub inside-drop : eqb p 0 ≡ true → Planned t o p (inside_verdict t o p w) (Ok Drop)
      inside-drop z =
          let first : p ≡ 0 = eqb-true p 0 z in
          let q = ap (value_of o) first in
          record {
            says = record {
              first = first;
              some = omega (arith, most-not t₇ e v e₇ high);
              told = λ n. on true z n ∙ (λ i. done (does (plain 0) (moved (handle_in o) (first i) (q i + 1)) first_leaves));
            };
          }

      pub inside_on : eqb p 0 ≡ false → (x : Decision) → Planned t o p (seat_verdict t o p) x → Planned t o p (inside_verdict t o p w) x
      inside_on d x f = planned-same t o p (seat_verdict t o p) (inside_verdict t o p w) (on false d) x f

pub ruleset insides = (inside-beyond, inside-wide, inside-seats, inside-drop, inside_on)
