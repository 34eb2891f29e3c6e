-- Laws of tables/specs/Lists.antt. Assumes nothing.
use Rattle.std.specs.Prelude.{ℕ, ◌<◌, ◌≡◌, true, ◌&&◌, List, eqb}
use Rattle.std.proofs.Common.{eq-eqb, eqb-true}
use Rattle.combine.specs.Laws.Below.{all-at, left-of, right_of}
use Rattle.tables.specs.Lists.{held_in, listed, stretch_in, family_of, agree, distinctb}

-- "segments in all lists are distinct, but for a record and its openings at one stretch": among the first n lists, one number
-- is in one family and at one stretch
abbrev pub Distinct : List ℕ → ℕ → Type 0
Distinct t n =
    (i k j l : ℕ) → i < n → k < held_in t i → j < n → l < held_in t j → listed t i k ≡ listed t j l
    → (family_of t i ≡ family_of t j) × (stretch_in t i k ≡ stretch_in t j l)

pub distinct_of : (t : List ℕ) (n : ℕ) → distinctb t n ≡ true → Distinct t n
unfolding distinctb agree
distinct_of t n ok i k j l li lk lj ll e =
    let a = all-at _ (held_in t j) (all-at _ n (all-at _ (held_in t i) (all-at _ n ok i li) k lk) j lj) l ll in
    let f = eqb (family_of t i) (family_of t j) in
    let g = eqb (stretch_in t i k) (stretch_in t j l) in
    let b : (f && g) ≡ true = rw (eq-eqb (listed t i k) (listed t j l) e) at a in
    (eqb-true (family_of t i) (family_of t j) (left-of f g b), eqb-true (stretch_in t i k) (stretch_in t j l) (right_of f g b))
