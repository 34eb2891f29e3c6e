-- An append: the refusals 23, 10 and 8, one by one, as the code's steps give their premises. Assumes nothing.
use Rattle.std.specs.Prelude.{Ok, Err}
use Prim.Native.Nat.{ℕ, ◌+◌, ◌≤◌, ◌<◌}
use mathlib.Core.Path.{◌≡◌, refl, sym, ap, ◌∙◌}
use mathlib.Core.Bool.{Bool, true, false}
use mathlib.Core.List.{List}
use native.Mathlib.Omega.{arith}
use lib.Dec.{leb}
use borrow.Author.Tests.{lt-ltb, le-ltb}
use Rattle.combine.specs.Verdict.{Verdict}
use Rattle.combine.specs.Laws.Verdict.{refused-here, went_on}
use Rattle.answers.specs.declared.Refusal.TheVariants.{Positions, Segments, Wide}
use Rattle.placing.specs.declared.Segment.{Segment}
use Rattle.placing.specs.declared.Position.{Position}
use Rattle.placing.specs.Sizes.{most_held, greatest_end}
use Rattle.placing.specs.Placing.{held_of}
use Rattle.placing.specs.Laws.Tests.{most-not}
use Rattle.placing.specs.Laws.Held.{slot-at-end, held-behind}
use Rattle.rules.specs.Effects.{Use}
use Rattle.tables.specs.declared.Opening.{Opening}
use Rattle.tables.specs.Fields.{value_of}
use Rattle.tables.specs.Handles.{pointed}
use Rattle.opening_steps.specs.Spans.{Spans, end-spans, end-holds}
use Rattle.gate_laws.specs.Known.{Known}
use Rattle.write_plan.specs.declared.Plan.TheVariants.{Drop, Put, Copy, Zero}
use Rattle.write_plan.specs.Plans.{Seats, seat_verdict, append_verdict, Stores, Decision, Planned}

-- ---- a verdict that is the same has the same plan

module _ (t : List ℕ) (o : Opening) (p : ℕ) (a b : ℕ → Verdict Use) (e : (n : ℕ) → b n ≡ a n) where
  stores_same : {k : ℕ} {g : Segment} → Stores t o p a k g → Stores t o p b k g
  stores_same f = record { seats = f.seats; place = f.place; which = f.which; range = f.range; told = λ n. e n ∙ f.told n }

  pub planned-same : (x : Decision) → Planned t o p a x → Planned t o p b x
  planned-same (Err why) f = record { says = λ n. e n ∙ f.says n }
  planned-same (Ok Drop) f = record { says = record { first = f.says.first; some = f.says.some; told = λ n. e n ∙ f.says.told n } }
  planned-same (Ok (Put g)) f = record { says = record { into = stores_same f.says.into; there = f.says.there; held = f.says.held; alone = f.says.alone; cells = f.says.cells } }
  planned-same (Ok (Copy k h g)) f = record { says = record { into = stores_same f.says.into; source = f.says.source; cells = f.says.cells } }
  planned-same (Ok (Zero k g)) f = record { says = record { into = stores_same f.says.into; cells = f.says.cells } }

-- ---- append: e is the end, t₂₃ says that the number is too wide, t₁₀ that no position is beyond the end

pub append-wide : (t : List ℕ) (o : Opening) (t₂₃ : Bool) → t₂₃ ≡ true → Planned t o 1 (append_verdict t o t₂₃) (Err Wide)
unfolding append_verdict
append-wide t o t₂₃ w = record { says = λ n. refused-here 23 _ _ w }

-- the position after the end exists
append-after : (e : Position) (t₁₀ : Bool) → t₁₀ ≡ leb greatest_end e.0 → t₁₀ ≡ false → e.0 < greatest_end
append-after e t₁₀ e₁₀ l = most-not t₁₀ greatest_end e.0 e₁₀ l

module _ (t : List ℕ) (o : Opening) (t₂₃ : Bool) (fits : t₂₃ ≡ false) (e : Position) (ee : e.0 ≡ value_of o 1) (t₁₀ : Bool) (e₁₀ : t₁₀ ≡ leb greatest_end e.0) where
  last-is : leb greatest_end (value_of o 1) ≡ t₁₀
  last-is = ap (leb greatest_end) (sym ee) ∙ sym e₁₀

  pub append-full : t₁₀ ≡ true → Planned t o 1 (append_verdict t o t₂₃) (Err Positions)
  unfolding append_verdict
  append-full l = record { says = λ n. went_on 23 _ _ _ fits (refused-here 10 _ _ (last-is ∙ l)) }

  module _ (l : t₁₀ ≡ false) (w : Known t o) (x : Position) (ex : x.0 ≡ e.0 + 1) (m : Opening) (em : m ≡ pointed o 1 x) where
    pub append-spans : Spans m
    append-spans = let f = w.file.order in end-spans o m w.file x em (omega arith) (omega (arith, most-not t₁₀ greatest_end e.0 e₁₀ l))

    module _ (h : ℕ) (eh : h ≡ held_of m.species (value_of m 0) (value_of m 1)) where
      held-is : h ≡ held_of o.species (value_of o 0) (value_of o 1 + 1)
      held-is = eh ∙ end-holds o m w.file x em ∙ ap (λ (y : ℕ). held_of o.species (value_of o 0) y) (ex ∙ ap (λ (y : ℕ). y + 1) ee)

      pub append-many : most_held < h → Planned t o 1 (append_verdict t o t₂₃) (Err Segments)
      unfolding append_verdict
      append-many m =
          record {
            says = λ n. went_on 23 _ _ _ fits
                (went_on 10 _ _ _ (last-is ∙ l) (refused-here 8 _ _ (lt-ltb most_held (held_of o.species (value_of o 0) (value_of o 1 + 1)) (omega (arith, held-is)))));
          }

      module _ (few : h ≤ most_held) where
        pub append-seats : Seats o 1
        append-seats =
            let f = w.file in
            record {
              known = omega arith;
              low = f.order;
              high = omega (arith, append-after e t₁₀ e₁₀ l);
              listed = slot-at-end o.species f.species (value_of o 0) f.first (value_of o 1) f.order;
              small = omega (arith, held-is, held-behind o.species f.species (value_of o 0) f.first (value_of o 1) f.order);
            }

        pub append-on : (y : Decision) → Planned t o 1 (seat_verdict t o 1) y → Planned t o 1 (append_verdict t o t₂₃) y
        unfolding append_verdict
        append-on y f =
            planned-same t o 1 (seat_verdict t o 1) (append_verdict t o t₂₃)
            (λ n. went_on 23 _ _ _ fits
            (went_on 10 _ _ _ (last-is ∙ l) (went_on 8 _ _ _ (le-ltb most_held (held_of o.species (value_of o 0) (value_of o 1 + 1)) (omega (arith, held-is))) refl))) y f

pub ruleset appends = (append-wide, append-full, append-spans, append-many, append-seats, append-on)
