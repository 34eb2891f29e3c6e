-- The turns of the loops over pairs. Assumes nothing.
use Prim.Native.Nat.{ℕ, suc, ◌+◌, ◌-◌, ◌*◌, ◌≤◌, ◌<◌}
use native.Mathlib.Omega.{arith}
use native.Mathlib.Decide.{ℕ_discrete}
use mathlib.Core.Path.{◌≡◌, refl, sym, ap, ◌∙◌, subst}
use mathlib.Core.Bool.{Bool, cond}
use mathlib.Core.List.{List, [], ◌∷◌, ◌++◌}
use lib.Dec.{eqb}
use lib.ListN.{length, get_or, drop, set, length-set, length-drop, length-append, get_or-append}
use Rattle.std.proofs.Common.{get_or-append-add}
use Rattle.placing.specs.Sizes.{segment_cells}
use lib.Seq.{drop-cons, get_or-set_same, get_or-set_other}
use borrow.Author.Tests.{eq-eqb, ne_eqb}
use Rattle.placing.specs.Placing.{segment}
use Rattle.store.specs.Store.{copied}
use Rattle.segments.specs.Moves.{exchange, moved_cells}

-- ---- copies

-- each segment of the plan lies in a store of n cells
abbrev pub InStore : ℕ → List ℕ → Type 0
InStore n plan = (k : ℕ) → k < length plan → get_or plan k 0 * segment_cells + segment_cells ≤ n

module _ (n : ℕ) (pair rest plan : List ℕ) (e : plan ≡ pair ++ rest) (h : InStore n plan) where
  long : length plan ≡ length pair + length rest
  long = ap length e ∙ length-append pair rest

  pub in-pair : InStore n pair
  in-pair k l = omega (arith, h k (omega (arith, long)), ap (λ (x : List ℕ). get_or x k 0) e ∙ get_or-append pair rest 0 k l)

  pub in-rest : InStore n rest
  in-rest k l = omega (arith, h (length pair + k) (omega (arith, long)), ap (λ (x : List ℕ). get_or x (length pair + k) 0) e ∙ get_or-append-add pair rest k 0)

pub cells-short : (s l : List ℕ) → length l < 2 → moved_cells s l ≡ s
cells-short s [] h = refl
cells-short s (a ∷ []) h = refl
cells-short s (a ∷ b ∷ l) h = absurd (let z : ⊥ = omega arith in z)

-- the pair in front is carried out
pub copy-turn : (s pair rest : List ℕ) → length pair ≡ 2 → moved_cells (copied s (segment (get_or pair 0 0)) (segment (get_or pair 1 0))) rest ≡ moved_cells s (pair ++ rest)
copy-turn s [] rest e = absurd (let z : ⊥ = omega arith in z)
copy-turn s (a ∷ []) rest e = absurd (let z : ⊥ = omega arith in z)
copy-turn s (a ∷ b ∷ []) rest e = refl
copy-turn s (a ∷ b ∷ c ∷ l) rest e = absurd (let z : ⊥ = omega arith in z)

-- ---- numbers that change places

exchange-short : (l : List ℕ) (g : ℕ) → length l ≤ 1 → exchange l g ≡ g
exchange-short [] g h = refl
exchange-short (a ∷ []) g h = refl
exchange-short (a ∷ b ∷ l) g h = absurd (let z : ⊥ = omega arith in z)

pub exchange-start : (plan : List ℕ) (j g : ℕ) → length plan ≤ 2 * j + 1 → exchange (drop (2 * j) plan) g ≡ g
exchange-start plan j g h = exchange-short (drop (2 * j) plan) g (let e = length-drop (2 * j) plan in omega arith)

abbrev pub Maps : List ℕ → List ℕ → Type 0
Maps numbers plan = (g : ℕ) → g < 1024 → get_or numbers g 0 ≡ exchange plan g

pub exchange-turn : (plan numbers : List ℕ) (j : ℕ) → length numbers ≡ 1024 → 2 * j + 2 ≤ length plan → get_or plan (2 * j) 0 < 1024 → get_or plan (2 * j + 1) 0 < 1024
    → Maps numbers (drop (2 * (j + 1)) plan) → Maps (set (set numbers (get_or plan (2 * j + 1) 0) (get_or plan (2 * j) 0)) (get_or plan (2 * j) 0) (get_or plan (2 * j + 1) 0)) (drop (2 * j) plan)
exchange-turn plan numbers j size l la lb h g lg =
    let a : ℕ = get_or plan (2 * j) 0 in
    let b : ℕ = get_or plan (2 * j + 1) 0 in
    let e : drop (2 * j) plan ≡ get_or plan (2 * j) 0 ∷ get_or plan (2 * j + 1) 0 ∷ drop (2 * (j + 1)) plan =
    drop-cons plan (2 * j) 0 (omega arith)
    ∙ ap (λ (r : List ℕ). get_or plan (2 * j) 0 ∷ r) (drop-cons plan (suc (2 * j)) 0 (omega arith))
    ∙ (λ i. get_or plan (2 * j) 0 ∷ get_or plan (one i) 0 ∷ drop (two i) plan) in
    at (ℕ_discrete g a) (ℕ_discrete g b) ∙ ap (λ (r : List ℕ). exchange r g) (sym e)
  where
    one : suc (2 * j) ≡ 2 * j + 1
    one = omega arith

    two : suc (suc (2 * j)) ≡ 2 * (j + 1)
    two = omega arith

    at : Dec (g ≡ get_or plan (2 * j) 0) → Dec (g ≡ get_or plan (2 * j + 1) 0)
        → get_or (set (set numbers (get_or plan (2 * j + 1) 0) (get_or plan (2 * j) 0)) (get_or plan (2 * j) 0) (get_or plan (2 * j + 1) 0)) g 0
        ≡ exchange (get_or plan (2 * j) 0 ∷ get_or plan (2 * j + 1) 0 ∷ drop (2 * (j + 1)) plan) g
    at (yes p) q =
        ap (λ (k : ℕ). get_or (set (set numbers (get_or plan (2 * j + 1) 0) (get_or plan (2 * j) 0)) (get_or plan (2 * j) 0) (get_or plan (2 * j + 1) 0)) k 0) p
        ∙ get_or-set_same (set numbers (get_or plan (2 * j + 1) 0) (get_or plan (2 * j) 0)) (get_or plan (2 * j) 0) (get_or plan (2 * j + 1) 0) 0
        (let s = length-set numbers (get_or plan (2 * j + 1) 0) (get_or plan (2 * j) 0) in omega arith)
        ∙ sym (ap (λ (x : Bool). cond x (get_or plan (2 * j + 1) 0) (cond (eqb g (get_or plan (2 * j + 1) 0)) (get_or plan (2 * j) 0) (exchange (drop (2 * (j + 1)) plan) g))) (eq-eqb g (get_or plan (2 * j) 0) p))
    at (no d) (yes p) =
        get_or-set_other (set numbers (get_or plan (2 * j + 1) 0) (get_or plan (2 * j) 0)) (get_or plan (2 * j) 0) g (get_or plan (2 * j + 1) 0) 0 d
        ∙ ap (λ (k : ℕ). get_or (set numbers (get_or plan (2 * j + 1) 0) (get_or plan (2 * j) 0)) k 0) p
        ∙ get_or-set_same numbers (get_or plan (2 * j + 1) 0) (get_or plan (2 * j) 0) 0 (omega arith)
        ∙ sym ((λ i. cond (ne_eqb g (get_or plan (2 * j) 0) d i) (get_or plan (2 * j + 1) 0) (cond (eq-eqb g (get_or plan (2 * j + 1) 0) p i) (get_or plan (2 * j) 0) (exchange (drop (2 * (j + 1)) plan) g))))
    at (no d) (no k) =
        get_or-set_other (set numbers (get_or plan (2 * j + 1) 0) (get_or plan (2 * j) 0)) (get_or plan (2 * j) 0) g (get_or plan (2 * j + 1) 0) 0 d
        ∙ get_or-set_other numbers (get_or plan (2 * j + 1) 0) g (get_or plan (2 * j) 0) 0 k
        ∙ h g lg
        ∙ sym ((λ i. cond (ne_eqb g (get_or plan (2 * j) 0) d i) (get_or plan (2 * j + 1) 0) (cond (ne_eqb g (get_or plan (2 * j + 1) 0) k i) (get_or plan (2 * j) 0) (exchange (drop (2 * (j + 1)) plan) g))))

-- as the loop has it, which counts down
pub exchange-down : (plan numbers : List ℕ) (p : ℕ) → 0 < p → length numbers ≡ 1024 → 2 * p ≤ length plan → ((k : ℕ) → k < length plan → get_or plan k 0 < 1024)
    → Maps numbers (drop (2 * p) plan)
    → Maps (set (set numbers (get_or plan (2 * (p - 1) + 1) 0) (get_or plan (2 * (p - 1)) 0)) (get_or plan (2 * (p - 1)) 0) (get_or plan (2 * (p - 1) + 1) 0)) (drop (2 * (p - 1)) plan)
exchange-down plan numbers p l size fits low h =
    let e : p ≡ p - 1 + 1 = omega arith in
    exchange-turn plan numbers (p - 1) size (omega arith) (low (2 * (p - 1)) (omega arith)) (low (2 * (p - 1) + 1) (omega arith))
    (subst (λ (k : ℕ). Maps numbers (drop (2 * k) plan)) e h)
