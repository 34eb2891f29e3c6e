-- The call behind the gate, with the opening that was loaded, and at the gate. Assumes nothing.
use Rattle.std.specs.Prelude.{Ok}
use Prim.Native.Nat.{ℕ, ◌≤◌}
use mathlib.Core.Path.{◌≡◌, refl, ap, ◌∙◌}
use mathlib.Core.Bool.{Bool}
use mathlib.Core.List.{List}
use lib.ListN.{length}
use Rattle.combine.specs.Outcome.{Outcome}
use Rattle.numbers.specs.declared.Number.{Number}
use Rattle.numbers.specs.declared.Number.TheVariants.{Plain, Signed}
use Rattle.numbers.specs.Numbers.{is_signed, too_wide, bits_of}
use Rattle.placing.specs.Sizes.{greatest_species}
use Rattle.rules.specs.Calls.{uses}
use Rattle.tables.specs.declared.Opening.{Opening}
use Rattle.tables.specs.Layout.{opening_at}
use Rattle.cells.specs.Outcomes.{Lent, request_out}
use Rattle.cells.specs.Laws.Uses.{verdict_on}
use Rattle.gate.specs.Gates.{Gate, reach_of}
use Rattle.gate_laws.specs.Standing.{Standing}
use Rattle.gate_laws.specs.Known.{standing, standing-file}
use Rattle.gate_laws.specs.Used.{used_out}
use Rattle.gate_laws.specs.Gated.{use-done}
use Rattle.write_plan.specs.Plans.{write_verdict}
use Rattle.call_write.specs.Settled.{write_of}

-- k is the kind and w says that the number is too wide, as the code has them of the opening o
pub write_done : (s t : List ℕ) (i p : ℕ) (number : Number) (o : Opening) → o ≡ opening_at t i → (k w : Bool) (n : ℕ) → k ≡ is_signed number → w ≡ too_wide o.species number → n ≡ bits_of number
    → (z : Outcome Lent) → z ≡ used_out s t i o (write_verdict t o p k w n)
    → z ≡ used_out s t i (opening_at t i) (write_verdict t (opening_at t i) p (is_signed number) (too_wide (opening_at t i).species number) (bits_of number))
write_done s t i p number o eo k w n ek ew en z h =
    h ∙ (λ j. used_out s t i o (write_verdict t o p (ek j) (ew j) (en j)))
    ∙ (λ j. used_out s t i (eo j) (write_verdict t (eo j) p (is_signed number) (too_wide (eo j).species number) (bits_of number)))

pub standing-species : (s t : List ℕ) (i : ℕ) → Standing (length s) t i → (o : Opening) → o ≡ opening_at t i → o.species ≤ greatest_species
standing-species s t i w o eo = (standing-file s t i w o eo).species

pub ruleset loaded = (standing, standing-species)

-- the rule's verdict is the act's
act-verdict : (t : List ℕ) (o : Opening) (p : ℕ) (number : Number) → write_verdict t o p (is_signed number) (too_wide o.species number) (bits_of number) ≡ verdict_on (write_of p number) t o
unfolding write_verdict
act-verdict t o p (Plain n) = refl
act-verdict t o p (Signed z) = refl

pub write-used : (s t : List ℕ) (u e : ℕ) (g : Gate) → g ≡ reach_of (length s) t u e → (i : ℕ) → g ≡ Ok i → (p : ℕ) (number : Number) (z : Outcome Lent)
    → z ≡ used_out s t i (opening_at t i) (write_verdict t (opening_at t i) p (is_signed number) (too_wide (opening_at t i).species number) (bits_of number))
    → z ≡ request_out (uses (write_of p number)) s t u e
write-used s t u e g eg i at p number z h =
    use-done s t u e g eg i at (write_of p number) z (h ∙ ap (used_out s t i (opening_at t i)) (act-verdict t (opening_at t i) p number))
