-- The run of numbers, from one on, that a row lists in rising order. Assumes nothing.
use Rattle.std.specs.Prelude.{ℕ, ◌+◌, ◌≤◌, ◌<◌, ◌≡◌, refl, true, false, cond, List, [], ◌∷◌, eqb}
use Rattle.std.proofs.Common.{sym, ap, ⊎_elim, le_refl, arith, eq-eqb, ne_eqb, eqb-true}
use Rattle.std.proofs.lemmas.Bool.{eqb-false}
use Rattle.combine.specs.Laws.Below.{or_left, or_right, not-both, split-bool}
use Rattle.combine.specs.Lists.{is_in}
use Rattle.combine.specs.Laws.Numbers.{le-or-lt}

-- the number after the run: each number of the row that is the next one moves it on
unfoldable pub run_end : List ℕ → ℕ → ℕ
run_end [] number = number
run_end (x ∷ row) number = run_end row (cond (eqb x number) (number + 1) number)

-- ---- the next one after a number x

abbrev moved : ℕ → ℕ → ℕ
moved x number = cond (eqb x number) (number + 1) number

moved-hit : (x number : ℕ) → eqb x number ≡ true → moved x number ≡ number + 1
moved-hit x number e = simp e

moved-miss : (x number : ℕ) → eqb x number ≡ false → moved x number ≡ number
moved-miss x number e = simp e

moved_on : (x number : ℕ) → number ≤ moved x number
moved_on x number =
    ⊎_elim (λ e. let m = moved-hit x number e in omega arith) (λ e. let m = moved-miss x number e in omega arith) (split-bool (eqb x number))

-- ---- the run

pub run-start : (row : List ℕ) (number : ℕ) → number ≤ run_end row number
unfolding run_end
run-start [] number = le_refl number
run-start (x ∷ row) number = omega (arith, moved_on x number, run-start row (moved x number))

-- the row lists each number of it
pub run-each : (row : List ℕ) (number g : ℕ) → number ≤ g → g < run_end row number → is_in g row ≡ true
unfolding run_end
run-each [] number g a b = absurd (let z : ⊥ = omega arith in z)
run-each (x ∷ row) number g a b =
    ⊎_elim (λ m. or_right (eqb g x) (is_in g row) (run-each row (moved x number) g m b)) (here x number g row a) (le-or-lt (moved x number) g)
  where
    here : (x number g : ℕ) (row : List ℕ) → number ≤ g → g < moved x number → is_in g (x ∷ row) ≡ true
    here x number g row a m =
        ⊎_elim
        (λ e. let k = moved-hit x number e in let q = eqb-true x number e in or_left (eqb g x) (is_in g row) (eq-eqb g x (omega arith)))
        (λ e. absurd (let k = moved-miss x number e in let z : ⊥ = omega arith in z))
        (split-bool (eqb x number))

-- and passes the first one, where the row lists it
pub run_past : (row : List ℕ) (number : ℕ) → is_in number row ≡ true → number < run_end row number
unfolding run_end
run_past [] number h = absurd (not-both h refl)
run_past (x ∷ row) number h =
    ⊎_elim
    (λ e. omega (arith, moved-hit x number e, run-start row (moved x number)))
    (λ e.
    let later : is_in number row ≡ true = (rw (ne_eqb number x (λ q. eqb-false x number e (sym q))) at h) in
    omega (arith, ap (run_end row) (moved-miss x number e), run_past row number later))
    (split-bool (eqb x number))
