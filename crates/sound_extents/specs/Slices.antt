-- A test of every cell of a slice is a test of the row that the slice was taken from. Assumes nothing.
use Rattle.std.specs.Prelude.{ℕ, ◌+◌, ◌-◌, ◌≤◌, ◌<◌, ◌≡◌, Bool, List, map, eqb, ltb, length, get_or, take, drop}
use Rattle.std.proofs.Common.{sym, ap, ◌∙◌, arith}
use Rattle.combine.specs.Below.{all_below}
use Rattle.combine.specs.Laws.Below.{all-cong}
use Rattle.combine.specs.Lists.{part}
use Rattle.combine.specs.Laws.Parts.{length_part, get_d_part}
use Rattle.placing.specs.Sizes.{most_held}
use Rattle.placing.specs.Placing.{segment}
use Rattle.tables.specs.Fields.{number_at}
use Rattle.sound_extents.specs.Numbers.{segment-number}

-- the cells of a row from a up to e, as `&row[a..e]` has them
abbrev pub sliced : List ℕ → ℕ → ℕ → List ℕ
sliced l a e = take (e - a) (drop a l)

-- every cell passes f
abbrev pub all_cells : (ℕ → Bool) → List ℕ → Bool
all_cells f l = all_below (length l) (λ k. f (get_or l k 0))

pub sliced-part : (l : List ℕ) (a e n : ℕ) → e ≡ a + n → sliced l a e ≡ part l a n
unfolding part
sliced-part l a e n q =
    let d : e - a ≡ n = omega arith in
    ap (λ (m : ℕ). take m (drop a l)) d

pub all-slice : (f g : ℕ → Bool) (l : List ℕ) (a e n : ℕ) → a + n ≤ length l → e ≡ a + n → ((k : ℕ) → k < n → f (get_or l (a + k) 0) ≡ g k) → all_cells f (sliced l a e) ≡ all_below n g
all-slice f g l a e n h q w =
    ap (all_cells f) (sliced-part l a e n q)
    ∙ ap (λ (m : ℕ). all_below m (λ k. f (get_or (part l a n) k 0))) (length_part l a n h)
    ∙ all-cong (λ k. f (get_or (part l a n) k 0)) g n (λ k r. ap f (get_d_part l a n k r) ∙ w k r)

-- the two parts of a list of segments: the held ones, and the unused list places
module _ (l : List ℕ) (h : ℕ) (whole : length l ≡ most_held) (few : h ≤ most_held) where
  pub list_held : (n : ℕ) → all_cells (λ x. ltb x n) (sliced l 0 h) ≡ all_below h (λ k. ltb (number_at (map segment l) k) n)
  list_held n = all-slice (λ x. ltb x n) (λ k. ltb (number_at (map segment l) k) n) l 0 h h (omega arith) (omega arith) (λ k _. ap (λ (x : ℕ). ltb x n) (at k))
    where
      at : (k : ℕ) → get_or l (0 + k) 0 ≡ number_at (map segment l) k
      at k =
          let e : 0 + k ≡ k = omega arith in
          ap (λ (j : ℕ). get_or l j 0) e ∙ sym (segment-number l k)

  pub list-unused : all_cells (λ x. eqb x 0) (sliced l h most_held) ≡ all_below (most_held - h) (λ k. eqb (number_at (map segment l) (h + k)) 0)
  list-unused = all-slice (λ x. eqb x 0) (λ k. eqb (number_at (map segment l) (h + k)) 0) l h most_held (most_held - h) (omega arith) (omega arith) (λ k _. ap (λ (x : ℕ). eqb x 0) (sym (segment-number l (h + k))))
