-- Laws of door/specs/Runs.antt: the rest is the last so many elements of the list. Assumes nothing.
use Rattle.std.specs.Prelude.{ℕ, ◌-◌, ◌≤◌, ◌≡◌, List, length, drop}
use Rattle.std.proofs.Common.{sym, ap, ◌∙◌, ⊎_elim, arith, length-drop, drop_of_length-le}
use Rattle.combine.specs.Laws.Numbers.{le-or-lt}
use Rattle.combine.specs.Run.{Ran}
use Rattle.cells.specs.Outcomes.{Lent}
use Rattle.cells.specs.Runs.{Written, written, written_by}
use Rattle.door.specs.Runs.{Unwritten, unwritten, unwritten_by}

-- as the export gives it
pub unwritten-here : (l : List ℕ) (n : ℕ) (x : Lent) (w : Written) → written l n x ≡ w → unwritten (length l) n x ≡ unwritten_by w
unfolding written
unwritten-here l n x w e = ap unwritten_by e

last_of : (k : ℕ) (l : List ℕ) → drop (length l - length (drop k l)) l ≡ drop k l
last_of k l = ⊎_elim
    (λ (h : k ≤ length l). let e : length l - length (drop k l) ≡ k = omega (arith, length-drop k l) in ap (λ (n : ℕ). drop n l) e)
    (λ h.
    let e : length l - length (drop k l) ≡ length l = omega (arith, length-drop k l) in
    ap (λ (n : ℕ). drop n l) e ∙ drop_of_length-le l {i = length l} (omega arith) ∙ sym (drop_of_length-le l {i = k} (omega arith)))
    (le-or-lt k (length l))

pub rest_is_last : (p : ℕ) (l : List ℕ) (r : Ran Lent) (k n : ℕ) (x : Lent) → unwritten k n x ≡ unwritten_by (written_by p l r) → drop (length l - k) l ≡ (written_by p l r).rest
unfolding unwritten written
rest_is_last p l r k n x e = ap (λ (u : Unwritten). drop (length l - u.many) l) e ∙ last_of r.many l
