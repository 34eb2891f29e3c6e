-- A turn of the loops over the 64 records: one piece more after the first cell. Assumes nothing.
use Prim.Native.Nat.{ℕ, suc, ◌+◌, ◌-◌, ◌*◌, ◌≤◌, ◌<◌}
use mathlib.Core.Path.{◌≡◌, sym, ap, ◌∙◌}
use mathlib.Core.List.{List, ◌++◌, append_assoc, append-nil}
use native.Mathlib.Nat.{mul_comm, mul-suc, mul-le-mul_left}
use native.Mathlib.Numerals.{add-one}
use native.Mathlib.Omega.{arith}
use borrow.Rule.Slice.PartMut.{put_mid, Post-is, mid_len}
use lib.ListN.{length, take, drop, replicate, length-append, length-replicate, take-append-drop, drop_of_length-le, replicate-append-replicate}
use lib.Seq.{length-take-le, take_at, drop_at, drop-append-add, drop-drop}
use Rattle.combine.specs.Lists.{joined, tab, part}
use Rattle.placing.specs.Sizes.{places}
use Rattle.image.specs.Image.{Form, image_length}
use Rattle.image_code.specs.Pieces.{pieces-suc, pieces-length}

-- the cells from a to e
pub mid-part : (a e n : ℕ) (l : List ℕ) → e ≡ a + n → e ≤ length l → length (take (e - a) (drop a l)) ≡ n
mid-part a e n l q h = mid_len a e l h ∙ omega arith

pub mid-is : (a e n : ℕ) (l : List ℕ) → e ≡ a + n → take (e - a) (drop a l) ≡ part l a n
unfolding part
mid-is a e n l q = let k : e - a ≡ n = omega arith in ap (λ (y : ℕ). take y (drop a l)) k

-- ---- pieces of m cells after the first cell

-- within a row that has room for all
pub pieces-in : (m p : ℕ) → p < places → 1 + m * p + m ≤ 1 + places * m
pieces-in m p l = omega (arith, mul-le-mul_left {m = suc p} {n = places} m l, mul-suc m p, mul_comm m places)

-- where one starts, as the code counts
pub piece-at : (m p cells : ℕ) → cells ≡ m → 1 + cells * p ≡ 1 + m * p
piece-at m p cells e = ap (λ (k : ℕ). 1 + k * p) e

-- and the next one
pub piece-next : (m p at cells : ℕ) → cells ≡ m → at ≡ 1 + m * p → (at + cells ≡ 1 + m * p + m) × (at + cells ≡ 1 + m * (p + 1))
piece-next m p at cells e q =
    let more : m * (p + 1) ≡ m * p + m = ap (λ (k : ℕ). m * k) (add-one p) ∙ mul-suc m p ∙ omega arith in
    (omega arith, omega (arith, more))

module _ (f : ℕ → List ℕ) (m : ℕ) (long : (p : ℕ) → length (f p) ≡ m) (x₀ : List ℕ) where
  -- x₀ with p pieces after its first cell
  abbrev pub placed : ℕ → List ℕ
  placed p = take 1 x₀ ++ (joined (tab p f) ++ drop (1 + m * p) x₀)

  pub none-placed : 1 + m * 0 ≡ 1 → x₀ ≡ placed 0
  unfolding joined tab
  none-placed e = sym (ap (λ (k : ℕ). take 1 x₀ ++ drop k x₀) e ∙ take-append-drop 1 x₀)

  -- behind the pieces all is as it was
  pub not-placed : (x : List ℕ) (p : ℕ) → 1 ≤ length x₀ → x ≡ placed p → drop (1 + m * p) x ≡ drop (1 + m * p) x₀
  not-placed x p some i =
      let h : List ℕ = take 1 x₀ ++ joined (tab p f) in
      let d : List ℕ = drop (1 + m * p) x₀ in
      let n : length h ≡ 1 + m * p = length-append (take 1 x₀) (joined (tab p f)) ∙ (λ j. length-take-le 1 x₀ some j + pieces-length f m long p j) in
      ap (drop (1 + m * p)) (i ∙ sym (append_assoc (take 1 x₀) (joined (tab p f)) d)) ∙ drop_at h d (1 + m * p) n

  pub one_placed : (x ys : List ℕ) (p at e : ℕ) → 1 ≤ length x₀ → at ≡ 1 + m * p → e ≡ 1 + m * p + m → e ≡ 1 + m * (p + 1) → x ≡ placed p → ys ≡ f p → put_mid at (e - at) x ys ≡ placed (p + 1)
  one_placed x ys p at e some here q q' i y =
      let h : List ℕ = take 1 x₀ ++ joined (tab p f) in
      let d : List ℕ = drop (1 + m * p) x₀ in
      let n : length h ≡ 1 + m * p = length-append (take 1 x₀) (joined (tab p f)) ∙ (λ j. length-take-le 1 x₀ some j + pieces-length f m long p j) in
      let i' : x ≡ h ++ d = i ∙ sym (append_assoc (take 1 x₀) (joined (tab p f)) d) in
      let a : take (1 + m * p) x ≡ h = ap (take (1 + m * p)) i' ∙ take_at h d (1 + m * p) n in
      let b : drop e x ≡ drop e x₀ =
      (λ j. drop (q j) (i' j)) ∙ ap (λ (k : ℕ). drop (k + m) (h ++ d)) (sym n) ∙ drop-append-add h d m ∙ drop-drop m (1 + m * p) x₀ ∙ ap (λ (k : ℕ). drop k x₀) (sym q) in
      let g : joined (tab p f) ++ f p ≡ joined (tab (p + 1) f) = sym (ap (λ (k : ℕ). joined (tab k f)) (add-one p) ∙ pieces-suc p f) in
      ap (λ (k : ℕ). put_mid k (e - k) x ys) here
      ∙ ap (λ (k : List ℕ). take (1 + m * p) x ++ (ys ++ k)) (Post-is (1 + m * p) e x (omega arith))
      ∙ (λ j. a j ++ (y j ++ b j)) ∙ append_assoc (take 1 x₀) (joined (tab p f)) (f p ++ drop e x₀)
      ∙ ap (λ (k : List ℕ). take 1 x₀ ++ k) (sym (append_assoc (joined (tab p f)) (f p) (drop e x₀)))
      ∙ (λ j. take 1 x₀ ++ (g j ++ drop (q' j) x₀))

  pub all_placed : (x : List ℕ) (p e : ℕ) → p ≡ places → 1 + m * places ≡ e → x ≡ placed p → x ≡ take 1 x₀ ++ (joined (tab places f) ++ drop e x₀)
  all_placed x p e q r i = i ∙ ap placed q ∙ ap (λ (k : ℕ). take 1 x₀ ++ (joined (tab places f) ++ drop k x₀)) r

-- nothing lies beyond the image's last record
pub image-full : (f : Form) (x y z : List ℕ) → length x ≡ image_length f → z ≡ take 1 x ++ (y ++ drop (image_length f) x) → z ≡ take 1 x ++ y
image-full f x y z n e = e ∙ ap (λ (k : List ℕ). take 1 x ++ (y ++ k)) (drop_of_length-le x {i = image_length f} (omega arith)) ∙ ap (λ (k : List ℕ). take 1 x ++ k) (append-nil y)

-- ---- zeros

-- a part of a row of zeros
zeros-part : (a n r : ℕ) → take n (drop a (replicate (a + (n + r)) 0)) ≡ replicate {A = ℕ} n 0
zeros-part a n r =
    ap (λ (l : List ℕ). take n (drop a l)) (sym (replicate-append-replicate a (n + r) 0))
    ∙ ap (take n) (drop_at (replicate a 0) (replicate (n + r) 0) a (length-replicate a 0))
    ∙ ap (take n) (sym (replicate-append-replicate n r 0)) ∙ take_at (replicate n 0) (replicate r 0) n (length-replicate n 0)

-- the piece to come is zero, in a row of cells that was zero behind its first
pub zeros-come : (m n : ℕ) (x₀ x : List ℕ) (p at e : ℕ) → m * p + m ≤ n → at ≡ 1 + m * p → e ≡ at + m → drop 1 x₀ ≡ replicate n 0 → drop (1 + m * p) x ≡ drop (1 + m * p) x₀
    → take (e - at) (drop at x) ≡ replicate m 0
zeros-come m n x₀ x p at e l here q z d =
    let before : ℕ = m * p in
    let behind : ℕ = n - m - before in
    let k : e - at ≡ m = omega arith in
    let whole : n ≡ before + (m + behind) = omega arith in
    ap (λ (a : ℕ). take (e - a) (drop a x)) here ∙ ap (λ (a : ℕ). take a (drop (1 + before) x)) (ap (λ (a : ℕ). e - a) (sym here) ∙ k)
    ∙ ap (take m) (d ∙ sym (drop-drop before 1 x₀) ∙ ap (drop before) z)
    ∙ ap (λ (a : ℕ). take m (drop before (replicate a 0))) whole ∙ zeros-part before m behind
