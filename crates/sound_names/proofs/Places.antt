-- What the cells of the tables say of the record at a place. Assumes nothing.
use Prim.Native.Nat.{ℕ, ◌+◌, ◌*◌, ◌≤◌}
use mathlib.Core.Path.{◌≡◌, sym, ap, ◌∙◌}
use mathlib.Core.Bool.{true, not}
use mathlib.Core.List.{List}
use native.Mathlib.Omega.{arith}
use lib.ListN.{get_or}
use borrow.Author.Tests.{eq-eqb, ne_eqb}
use Rattle.combine.specs.Below.{all_below}
use Rattle.combine.specs.Laws.Parts.{get_d_part}
use Rattle.tables.specs.Layout.{record_of, record_at}
use Rattle.tables.specs.Fields.{is_used}
use Rattle.tables.specs.Records.{clash, no_clashb}
use Rattle.sound_clashes.specs.Halves.{Spelled}

module _ (t : List ℕ) (p : ℕ) where
  pub used-cell : (record_at t p).used ≡ get_or t (1 + 50 * p) 0
  unfolding record_at record_of
  used-cell = get_d_part t (1 + 50 * p) 50 0 (omega arith) ∙ ap (λ (k : ℕ). get_or t k 0) (let z : 1 + 50 * p + 0 ≡ 1 + 50 * p = omega arith in z)

  pub private-cell : get_or t (15 + 50 * p) 0 ≡ (record_at t p).private
  unfolding record_at record_of
  private-cell = ap (λ (k : ℕ). get_or t k 0) (let z : 15 + 50 * p ≡ 1 + 50 * p + 14 = omega arith in z) ∙ sym (get_d_part t (1 + 50 * p) 50 14 (omega arith))

  -- a flag that is not 0 is 1
  pub is-used : Spelled (record_at t p) → (get_or t (1 + 50 * p) 0 ≡ 0 → ⊥) → is_used (record_at t p) ≡ true
  is-used s d =
      let positive : (record_at t p).used ≡ 0 → ⊥ = (λ e. d (sym used-cell ∙ e)) in
      eq-eqb (record_at t p).used 1 (one (record_at t p).used s.flag positive)
    where
      one : (n : ℕ) → n ≤ 1 → (n ≡ 0 → ⊥) → n ≡ 1
      one n l z = omega (arith, z)

  pub alone-unused : get_or t (1 + 50 * p) 0 ≡ 0 → no_clashb t p ≡ true
  unfolding no_clashb
  alone-unused e = rw (ne_eqb (record_at t p).used 1 (λ o. omega (arith, used-cell)))

  pub alone-used : is_used (record_at t p) ≡ true → all_below p (λ q. not (clash (record_at t p) (record_at t q))) ≡ no_clashb t p
  unfolding no_clashb
  alone-used u = sym (rw u)
