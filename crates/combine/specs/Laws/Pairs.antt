-- Pairs in one list: the first numbers of the pairs, the second ones, and two lists paired. Assumes nothing.
use Rattle.std.specs.Prelude.{ℕ, zero, suc, ◌+◌, ◌*◌, ◌≤◌, ◌<◌, ◌≡◌, refl, Bool, true, false, not, ◌&&◌, ◌||◌, List, [], ◌∷◌, T, eqb, length, get_or}
use Rattle.std.proofs.Common.{arith, le_of_suc-le-suc, not-suc-le-zero, ap, ◌∙◌, T_not}
use Rattle.std.proofs.Math.Dec.{not_T}
use Rattle.combine.specs.Lists.{is_in, paired}
use Rattle.combine.specs.Laws.Tests.{and_first, and_second, and_intro, or_split, or-first, or-second, eqb-eq}

-- the numbers at even places, and at odd ones; there is none besides where the length is even
abbrev pub froms : List ℕ → List ℕ
froms [] = []
froms (a ∷ []) = []
froms (a ∷ b ∷ l) = a ∷ froms l

abbrev pub tos : List ℕ → List ℕ
tos [] = []
tos (a ∷ []) = []
tos (a ∷ b ∷ l) = b ∷ tos l

abbrev pub even : List ℕ → Bool
even [] = true
even (a ∷ []) = false
even (a ∷ b ∷ l) = even l

-- every number passes
abbrev pub all : (ℕ → Bool) → List ℕ → Bool
all f [] = true
all f (x ∷ xs) = f x && all f xs

-- no number occurs twice
abbrev pub none_twice : List ℕ → Bool
none_twice [] = true
none_twice (x ∷ xs) = not (is_in x xs) && none_twice xs

-- ---- two lists paired

pub even-paired : (xs ys : List ℕ) → T (even (paired xs ys))
even-paired [] ys = tt
even-paired (x ∷ xs) [] = tt
even-paired (x ∷ xs) (y ∷ ys) = even-paired xs ys

pub froms-paired : (xs ys : List ℕ) → length xs ≤ length ys → froms (paired xs ys) ≡ xs
froms-paired [] ys h = refl
froms-paired (x ∷ xs) [] h = absurd (not-suc-le-zero h)
froms-paired (x ∷ xs) (y ∷ ys) h = ap (λ (l : List ℕ). x ∷ l) (froms-paired xs ys (le_of_suc-le-suc h))

pub tos-paired : (xs ys : List ℕ) → length ys ≤ length xs → tos (paired xs ys) ≡ ys
tos-paired [] [] h = refl
tos-paired [] (y ∷ ys) h = absurd (not-suc-le-zero h)
tos-paired (x ∷ xs) [] h = refl
tos-paired (x ∷ xs) (y ∷ ys) h = ap (λ (l : List ℕ). y ∷ l) (tos-paired xs ys (le_of_suc-le-suc h))

in-paired : {X : Type 0} (g : ℕ) (xs ys : List ℕ) → T (is_in g (paired xs ys)) → (T (is_in g xs) → X) → (T (is_in g ys) → X) → X
in-paired g [] ys t a b = absurd t
in-paired g (x ∷ xs) [] t a b = absurd t
in-paired g (x ∷ xs) (y ∷ ys) t a b = or_split (eqb g x) (eqb g y || is_in g (paired xs ys)) t
    (λ r. a (or-first (eqb g x) (is_in g xs) r))
    (λ q. or_split (eqb g y) (is_in g (paired xs ys)) q
    (λ r. b (or-first (eqb g y) (is_in g ys) r))
    (λ r. in-paired g xs ys r (λ i. a (or-second (eqb g x) (is_in g xs) i)) (λ i. b (or-second (eqb g y) (is_in g ys) i))))

pub paired-once : (xs ys : List ℕ) → T (none_twice xs) → T (none_twice ys) → ((g : ℕ) → T (is_in g xs) → T (is_in g ys) → ⊥) → T (none_twice (paired xs ys))
paired-once [] ys a b d = tt
paired-once (x ∷ xs) [] a b d = tt
paired-once (x ∷ xs) (y ∷ ys) a b d =
    let inx : T (is_in x (x ∷ xs)) = or-first (eqb x x) (is_in x xs) (rw (eqb-eq x x refl) tt) in
    let iny : T (is_in y (y ∷ ys)) = or-first (eqb y y) (is_in y ys) (rw (eqb-eq y y refl) tt) in
    and_intro (not (is_in x (y ∷ paired xs ys))) (none_twice (y ∷ paired xs ys))
    (not_T (is_in x (y ∷ paired xs ys)) (λ t. or_split (eqb x y) (is_in x (paired xs ys)) t
    (λ r. d x inx (or-first (eqb x y) (is_in x ys) r))
    (λ r. in-paired x xs ys r (λ i. T_not (is_in x xs) (and_first (not (is_in x xs)) (none_twice xs) a) i) (λ i. d x inx (or-second (eqb x y) (is_in x ys) i)))))
    (and_intro (not (is_in y (paired xs ys))) (none_twice (paired xs ys))
    (not_T (is_in y (paired xs ys)) (λ r. in-paired y xs ys r (λ i. d y (or-second (eqb y x) (is_in y xs) i) iny) (λ i. T_not (is_in y ys) (and_first (not (is_in y ys)) (none_twice ys) b) i)))
    (paired-once xs ys (and_second (not (is_in x xs)) (none_twice xs) a) (and_second (not (is_in y ys)) (none_twice ys) b)
    (λ g i j. d g (or-second (eqb g x) (is_in g xs) i) (or-second (eqb g y) (is_in g ys) j))))

-- the pair at place j
pub paired-from : (xs ys : List ℕ) (j : ℕ) → j < length xs → j < length ys → get_or (paired xs ys) (2 * j) 0 ≡ get_or xs j 0
paired-from [] ys j h k = absurd (not-suc-le-zero h)
paired-from (x ∷ xs) [] j h k = absurd (not-suc-le-zero k)
paired-from (x ∷ xs) (y ∷ ys) zero h k = refl
paired-from (x ∷ xs) (y ∷ ys) (suc j) h k =
    ap (λ (i : ℕ). get_or (x ∷ y ∷ paired xs ys) i 0) {x = 2 * suc j} {y = suc (suc (2 * j))} (omega arith) ∙ paired-from xs ys j (le_of_suc-le-suc h) (le_of_suc-le-suc k)

pub paired-to : (xs ys : List ℕ) (j : ℕ) → j < length xs → j < length ys → get_or (paired xs ys) (2 * j + 1) 0 ≡ get_or ys j 0
paired-to [] ys j h k = absurd (not-suc-le-zero h)
paired-to (x ∷ xs) [] j h k = absurd (not-suc-le-zero k)
paired-to (x ∷ xs) (y ∷ ys) zero h k = refl
paired-to (x ∷ xs) (y ∷ ys) (suc j) h k =
    ap (λ (i : ℕ). get_or (x ∷ y ∷ paired xs ys) i 0) {x = 2 * suc j + 1} {y = suc (suc (2 * j + 1))} (omega arith) ∙ paired-to xs ys j (le_of_suc-le-suc h) (le_of_suc-le-suc k)

pub length-paired : (xs ys : List ℕ) → length xs ≤ length ys → length (paired xs ys) ≡ 2 * length xs
length-paired [] ys h = refl
length-paired (x ∷ xs) [] h = absurd (not-suc-le-zero h)
length-paired (x ∷ xs) (y ∷ ys) h = let e = length-paired xs ys (le_of_suc-le-suc h) in omega arith

-- a pair that is there has a number of each list
pub paired-within : (xs ys : List ℕ) (k : ℕ) → 2 * k + 1 < length (paired xs ys) → (k < length xs) × (k < length ys)
paired-within [] ys k h = absurd (not-suc-le-zero h)
paired-within (x ∷ xs) [] k h = absurd (not-suc-le-zero h)
paired-within (x ∷ xs) (y ∷ ys) zero h = (omega arith, omega arith)
paired-within (x ∷ xs) (y ∷ ys) (suc k) h = let w = paired-within xs ys k (omega arith) in (omega (arith, w.0), omega (arith, w.1))
