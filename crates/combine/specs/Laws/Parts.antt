-- Parts of a list, and a list of which a part was replaced. Assumes nothing.
use Rattle.std.specs.Prelude.{ℕ, ◌+◌, ◌-◌, ◌≤◌, ◌<◌, ◌≡◌, ◌⊎◌, length, get_or}
use Rattle.std.proofs.Common.{sym, ◌∙◌, ⊎_elim, arith, length-drop, length-take-le, get_or-append-add, get_or-take, get_or-drop, ext_get_or, drop_at}
use Rattle.std.proofs.Math.Path.{ap}
use mathlib.Core.List.{List, ◌++◌, append_assoc}
use Rattle.std.proofs.Math.ListN.{take, drop, get_or-append}
use Rattle.std.proofs.Math.Seq.{paste, length_paste_head, take_at, take_all}
use Rattle.std.proofs.lemmas.List.Edits.{length-paste, drop-paste}
use Rattle.combine.specs.Lists.{part}

pub length_part : (t : List ℕ) (a n : ℕ) → a + n ≤ length t → length (part t a n) ≡ n
unfolding part
length_part t a n h = length-take-le n (drop a t) (rw (length-drop a t) (omega arith))

pub get_d_part : (t : List ℕ) (a n k : ℕ) → k < n → get_or (part t a n) k 0 ≡ get_or t (a + k) 0
unfolding part
get_d_part t a n k h = get_or-take n (drop a t) k 0 h ∙ get_or-drop a t k 0

-- n elements of s replace those of d from `at` on
module _ (d : List ℕ) (at : ℕ) (s : List ℕ) (n : ℕ) (hd : at + n ≤ length d) (hs : n ≤ length s) where
  front : length (take at d ++ take n s) ≡ at + n
  front = length_paste_head d at s n (omega arith) hs

  pub paste-below : (k : ℕ) → k < at → get_or (paste d at s n) k 0 ≡ get_or d k 0
  paste-below k h =
      let l : length (take at d) ≡ at = length-take-le at d (omega arith) in
      get_or-append (take at d ++ take n s) (drop (at + n) d) 0 k (omega (arith, front))
      ∙ get_or-append (take at d) (take n s) 0 k (omega arith) ∙ get_or-take at d k 0 h

  pub paste-above : (k : ℕ) → at + n ≤ k → get_or (paste d at s n) k 0 ≡ get_or d k 0
  paste-above k h =
      let e : k ≡ (at + n) + (k - (at + n)) = omega arith in
      let j : ℕ = k - (at + n) in
      ap (λ (i : ℕ). get_or (paste d at s n) i 0) (e ∙ ap (λ (i : ℕ). i + j) (sym front))
      ∙ get_or-append-add (take at d ++ take n s) (drop (at + n) d) j 0 ∙ get_or-drop (at + n) d j 0 ∙ ap (λ (i : ℕ). get_or d i 0) (sym e)

  -- the part that was replaced
  pub part-pasted : length s ≡ n → part (paste d at s n) at n ≡ s
  unfolding part
  part-pasted e =
      ap (λ (l : List ℕ). take n (drop at l)) (append_assoc (take at d) (take n s) (drop (at + n) d))
      ∙ ap (take n) (drop_at (take at d) (take n s ++ drop (at + n) d) at (length-take-le at d (omega arith)))
      ∙ take_at (take n s) (drop (at + n) d) n (length-take-le n s hs)
      ∙ take_all n s (omega arith)

  -- replaced again, it is as if the first time had not been
  pub paste-over : (q : List ℕ) → paste (paste d at s n) at q n ≡ paste d at q n
  paste-over q =
      let before : take at (paste d at s n) ≡ take at d =
      ap (take at) (append_assoc (take at d) (take n s) (drop (at + n) d)) ∙ take_at (take at d) (take n s ++ drop (at + n) d) at (length-take-le at d (omega arith)) in
      λ i. before i ++ take n q ++ drop-paste d at s n (omega arith) hs i

  -- a part before it, or after it
  pub part-kept : (b m : ℕ) → b + m ≤ length d → (b + m ≤ at) ⊎ (at + n ≤ b) → part (paste d at s n) b m ≡ part d b m
  part-kept b m h w =
      let l : length (paste d at s n) ≡ length d = length-paste d at s n hd hs in
      let l₁ : length (part (paste d at s n) b m) ≡ m = length_part (paste d at s n) b m (omega arith) in
      let l₂ : length (part d b m) ≡ m = length_part d b m h in
      ext_get_or 0 (part (paste d at s n) b m) (part d b m) (l₁ ∙ sym l₂) (λ k r. at_each k (omega (arith, r, l₁)))
    where
      at_each : (k : ℕ) → k < m → get_or (part (paste d at s n) b m) k 0 ≡ get_or (part d b m) k 0
      at_each k r =
          get_d_part (paste d at s n) b m k r
          ∙ ⊎_elim (λ p. paste-below (b + k) (omega arith)) (λ p. paste-above (b + k) (omega arith)) w
          ∙ sym (get_d_part d b m k r)
