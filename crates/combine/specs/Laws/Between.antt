-- The part of a row between two places, as a part of a slice is lent: read, and replaced. Assumes nothing.
use Rattle.std.specs.Prelude.{ℕ, ◌+◌, ◌-◌, ◌≡◌, List, ◌++◌, length, take, drop}
use Rattle.std.proofs.Common.{sym, ap, ◌∙◌, append_assoc, arith, take_all, drop-drop}
use Rattle.std.proofs.Math.Seq.{paste}
use borrow.Rule.Slice.PartMut.{put_mid}
use Rattle.combine.specs.Lists.{part}

pub part-between : (t : List ℕ) (a n : ℕ) → take (a + n - a) (drop a t) ≡ part t a n
unfolding part
part-between t a n =
    let e : a + n - a ≡ n = omega arith in
    ap (λ (m : ℕ). take m (drop a t)) e

-- replaced by the first of another row
pub put-between : (t s : List ℕ) (a n : ℕ) {ys : List ℕ} → ys ≡ take n s → put_mid a (a + n - a) t ys ≡ paste t a s n
put-between t s a n e =
    let m : a + n - a ≡ n = omega arith in
    (λ j. take a t ++ (e j ++ drop (m j) (drop a t)))
    ∙ ap (λ (r : List ℕ). take a t ++ (take n s ++ r)) (drop-drop n a t)
    ∙ sym (append_assoc (take a t) (take n s) (drop (a + n) t))

-- and by all of it
pub put-all-between : (t s : List ℕ) (a n : ℕ) {ys : List ℕ} → ys ≡ s → length s ≡ n → put_mid a (a + n - a) t ys ≡ paste t a s n
put-all-between t s a n e l = put-between t s a n (e ∙ sym (take_all n s (omega arith)))
