-- Each way through the gate, as the code's steps give its premises. Assumes nothing.
use Rattle.std.specs.Prelude.{Err, Ok}
use Prim.Native.Nat.{ℕ, ◌*◌, ◌<◌}
use mathlib.Core.Path.{◌≡◌, refl, sym, ap, ◌∙◌}
use mathlib.Core.Bool.{Bool, true, false, not}
use mathlib.Core.List.{List}
use native.Mathlib.Nat.{add-zero}
use native.Mathlib.Omega.{arith}
use lib.ListN.{length, get_or}
use mir.Syntax.{w64}
use mir.Val.{Fits}
use borrow.Author.Tests.{eq-eqb, ne_eqb, lt-ltb, le-ltb}
use Rattle.combine.specs.Laws.Parts.{get_d_part}
use Rattle.answers.specs.declared.Refusal.{Refusal}
use Rattle.answers.specs.declared.Refusal.TheVariants.{Entry}
use Rattle.placing.specs.Sizes.{entries, opening_length}
use Rattle.tables.specs.Layout.{opening_base, opening_of, opening_at}
use Rattle.tables.specs.Fields.{is_open}
use Rattle.tables.specs.Laws.Sound.{ranged-of}
use Rattle.gate.specs.Gates.{Gate, refusing, pass_of, reach_of, opened}
use Rattle.gate.specs.Passed.{pass-at}

pub stop : (b : Bool) (why : Refusal) (g : Gate) → b ≡ true → Err why ≡ refusing b why g
unfolding refusing
stop b why g e = rw e

pub go_on : (b : Bool) (why : Refusal) (g x : Gate) → b ≡ false → x ≡ g → x ≡ refusing b why g
unfolding refusing
go_on b why g x e h = rw e h

-- what a callee's answer says
pub answered : (r b c : Bool) → r ≡ b → not r ≡ c → not b ≡ c
answered r b c e h = ap not (sym e) ∙ h

pub ruleset ways = (stop, go_on, answered, lt-ltb, le-ltb)

-- the first cell of an opening says that it is open
opened-cell : (t : List ℕ) (i : ℕ) → (opening_at t i).opened ≡ get_or t (opening_base i) 0
unfolding opening_at opening_of
opened-cell t i = get_d_part t (opening_base i) opening_length 0 (omega arith) ∙ ap (λ (k : ℕ). get_or t k 0) (add-zero (opening_base i))

module _ (cells : ℕ) (t : List ℕ) (u e : ℕ) (g : Gate) (eg : g ≡ pass_of cells t u e) where
  pub reach-no : (why : Refusal) → g ≡ Err why → Err why ≡ reach_of cells t u e
  unfolding reach_of
  reach-no why at = sym (ap (opened t) (sym eg ∙ at))

  module _ (i : ℕ) (at : g ≡ Ok i) where
    pub opened-within : opening_base i < length t
    opened-within =
        let p = pass-at cells t u e i (sym eg ∙ at) in
        let l = (ranged-of cells t p.sound).0 in
        omega arith

    small : i < entries
    small = let p = pass-at cells t u e i (sym eg ∙ at) in omega arith

    pub opened-mul : Fits w64 (opening_length * i)
    opened-mul = record { fits = omega (arith, small) }

    pub opened-add : Fits w64 (opening_base i)
    opened-add = record { fits = omega (arith, small) }

    pub opened-scaled : Fits w64 ((opening_base i) * 4)
    opened-scaled = record { fits = omega (arith, small) }

    reach-is : opened t (Ok i) ≡ reach_of cells t u e
    unfolding reach_of
    reach-is = sym (ap (opened t) (sym eg ∙ at))

    pub reach-closed : (get_or t (opening_base i) 0 ≡ 1 → ⊥) → Err Entry ≡ reach_of cells t u e
    reach-closed d = stop (not (is_open (opening_at t i))) Entry (Ok i) (ap not (ne_eqb (opening_at t i).opened 1 (λ q. d (sym (opened-cell t i) ∙ q)))) ∙ reach-is

    pub reach-open : get_or t (opening_base i) 0 ≡ 1 → Ok i ≡ reach_of cells t u e
    reach-open q = go_on (not (is_open (opening_at t i))) Entry (Ok i) (Ok i) (ap not (eq-eqb (opening_at t i).opened 1 (opened-cell t i ∙ q))) refl ∙ reach-is
