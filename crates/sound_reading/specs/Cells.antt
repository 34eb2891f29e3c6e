-- Fields of an opening's row of 56 cells, and of a record's row of 50, by cells. Assumes nothing.
use Rattle.std.specs.Prelude.{ℕ, ◌+◌, ◌-◌, ◌^◌, ◌≤◌, ◌<◌, ◌≡◌, Bool, true, List, map, eqb, leb, length, get_or}
use Rattle.std.proofs.Common.{sym, ap, ◌∙◌, arith, le-leb}
use Rattle.combine.specs.Below.{all_below}
use Rattle.combine.specs.Laws.Below.{all-cong, all-make}
use Rattle.combine.specs.Lists.{part, same}
use Rattle.combine.specs.Laws.Parts.{length_part, get_d_part}
use Rattle.combine.specs.Laws.Same.{same-all}
use Rattle.placing.specs.Sizes.{most_held, greatest_end, all_pointers}
use Rattle.placing.specs.Placing.{segment}
use Rattle.tables.specs.Layout.{opening_of}
use Rattle.tables.specs.Fields.{value_of, number_at}
use Rattle.sound_extents.specs.Numbers.{segment-number, position-number}

-- a pointer's value
pub value_cell : (c : List ℕ) (p : ℕ) → p < 8 → value_of (opening_of c) p ≡ get_or c (4 + p) 0
unfolding opening_of value_of
value_cell c p h = position-number (part c 4 8) p ∙ get_d_part c 4 8 p h

-- a test of it
pub value-test : (c : List ℕ) (p x : ℕ) (b : Bool) → p < 8 → eqb (get_or c (4 + p) 0) x ≡ b → eqb (value_of (opening_of c) p) x ≡ b
value-test c p x b h e = ap (λ (v : ℕ). eqb v x) (value_cell c p h) ∙ e

-- what is computed of the species, the begin and the end
pub extent-cells : {A : Type 0} (f : ℕ → ℕ → ℕ → A) (c : List ℕ) → f (get_or c 3 0) (get_or c 4 0) (get_or c 5 0) ≡ f (opening_of c).species (value_of (opening_of c) 0) (value_of (opening_of c) 1)
unfolding opening_of
extent-cells f c = sym (λ i. f (get_or c 3 0) (value_cell c 0 (omega arith) i) (value_cell c 1 (omega arith) i))

-- a segment number of a list of 32 that starts at cell a
pub number-cell : (c : List ℕ) (a k : ℕ) → k < most_held → number_at (map segment (part c a most_held)) k ≡ get_or c (a + k) 0
number-cell c a k h = segment-number (part c a most_held) k ∙ get_d_part c a most_held k h

-- the lists of two rows
pub same_numbers : (c d : List ℕ) (a b : ℕ) → a + most_held ≤ length c → b + most_held ≤ length d
    → same (part c a most_held) (part d b most_held) ≡ all_below most_held (λ k. eqb (number_at (map segment (part c a most_held)) k) (number_at (map segment (part d b most_held)) k))
same_numbers c d a b hc hd =
    let x : List ℕ = part c a most_held in
    let y : List ℕ = part d b most_held in
    let lx : length x ≡ most_held = length_part c a most_held hc in
    let ly : length y ≡ most_held = length_part d b most_held hd in
    same-all x y (lx ∙ sym ly)
    ∙ ap (λ (n : ℕ). all_below n (λ k. eqb (get_or x k 0) (get_or y k 0))) lx
    ∙ sym (all-cong (λ k. eqb (number_at (map segment x) k) (number_at (map segment y) k)) (λ k. eqb (get_or x k 0) (get_or y k 0)) most_held (λ k _ i. eqb (segment-number x k i) (segment-number y k i)))

-- "the values of pointers 2 to 7 .. are 1 to the greatest end value": no cell is above it
pub values-small : (c : List ℕ) → ((i : ℕ) → get_or c i 0 < 2 ^ 32) → all_below (all_pointers - 2) (λ k. leb (value_of (opening_of c) (2 + k)) greatest_end) ≡ true
values-small c small = all-make _ (all_pointers - 2) (λ k h. le-leb (value_of (opening_of c) (2 + k)) greatest_end (omega (arith, small (4 + (2 + k)), value_cell c (2 + k) (omega arith))))
