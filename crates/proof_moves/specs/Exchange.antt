-- Moves read as an exchange of numbers: with no number twice it is its own inverse, a from becomes a to, and a to a from. Assumes nothing.
use Rattle.std.specs.Prelude.{ℕ, zero, suc, ◌<◌, ◌≡◌, refl, ◌≢◌, ◌⊎◌, Bool, true, false, not, ◌||◌, cond, List, [], ◌∷◌, T, eqb, ltb, length, get_or}
use Rattle.std.proofs.Math.Decide.{ℕ_discrete}
use Rattle.std.proofs.Common.{le_of_suc-le-suc, not-suc-le-zero, sym, ◌∙◌, subst, inl, inr, ⊎_elim, eqb→eq, T_not, ltb→lt}
use Rattle.std.proofs.Math.Dec.{eqb_refl}
use Rattle.combine.specs.Lists.{is_in}
use Rattle.combine.specs.Laws.Tests.{false_of, and_first, and_second, and_intro, or_split, or-first, or-second, nor-first, nor-second, eqb-ne, eqb-eq}
use Rattle.combine.specs.Laws.Pairs.{froms, tos, even, all, none_twice}
use Rattle.segments.specs.Moves.{exchange}

-- ---- the law: with no number twice it goes back

-- a number that changes becomes one of the list
pub goes_in : (l : List ℕ) (g : ℕ) → (exchange l g ≡ g) ⊎ T (is_in (exchange l g) l)
goes_in [] g = inl refl
goes_in (a ∷ []) g = inl refl
goes_in (a ∷ b ∷ l) g = go (eqb g a) (eqb g b) (goes_in l g)
  where
    go : (p q : Bool) → (exchange l g ≡ g) ⊎ T (is_in (exchange l g) l)
        → (cond p b (cond q a (exchange l g)) ≡ g) ⊎ T (is_in (cond p b (cond q a (exchange l g))) (a ∷ b ∷ l))
    go true q ih = inr (or-second (eqb b a) _ (or-first (eqb b b) _ (eqb_refl b)))
    go false true ih = inr (or-first (eqb a a) _ (eqb_refl a))
    go false false ih = ⊎_elim (λ e. inl e) (λ t. inr (or-second (eqb (exchange l g) a) _ (or-second (eqb (exchange l g) b) _ t))) ih

-- a number that is not of the list stays away from it
stays_out : (l : List ℕ) (g x : ℕ) → g ≢ x → T (not (is_in x l)) → exchange l g ≢ x
stays_out l g x d n e = ⊎_elim (λ q. d (sym q ∙ e)) (λ t. T_not (is_in x l) n (subst (λ (k : ℕ). T (is_in k l)) e t)) (goes_in l g)

pub exchange-back : (l : List ℕ) → T (none_twice l) → (g : ℕ) → exchange l (exchange l g) ≡ g
exchange-back [] t g = refl
exchange-back (a ∷ []) t g = refl
exchange-back (a ∷ b ∷ l) t g = go (ℕ_discrete g a) (ℕ_discrete g b) (exchange-back l (and_second (not (is_in b l)) (none_twice l) tl) g)
  where
    tl : T (none_twice (b ∷ l))
    tl = and_second (not (is_in a (b ∷ l))) (none_twice (b ∷ l)) t

    out_a : T (not (is_in a (b ∷ l)))
    out_a = and_first (not (is_in a (b ∷ l))) (none_twice (b ∷ l)) t

    ab : b ≢ a
    ab e = T_not (eqb a b) (nor-first (eqb a b) (is_in a l) out_a) (subst (λ (k : ℕ). T (eqb a k)) (sym e) (eqb_refl a))

    go : Dec (g ≡ a) → Dec (g ≡ b) → exchange l (exchange l g) ≡ g → exchange (a ∷ b ∷ l) (exchange (a ∷ b ∷ l) g) ≡ g
    go (yes e) q ih = rw (eqb-eq g a e, eqb-ne b a ab, eqb-eq b b refl) (sym e)
    go (no d) (yes e) ih = rw (eqb-ne g a d, eqb-eq g b e, eqb-eq a a refl) (sym e)
    go (no d) (no f) ih =
        let na = stays_out l g a d (nor-second (eqb a b) (is_in a l) out_a) in
        let nb = stays_out l g b f (and_first (not (is_in b l)) (none_twice l) tl) in
        rw (eqb-ne g a d, eqb-ne g b f, eqb-ne (exchange l g) a na, eqb-ne (exchange l g) b nb) ih

-- ---- tests of all numbers of a list

pub all_in : (f : ℕ → Bool) (l : List ℕ) (g : ℕ) → T (all f l) → T (is_in g l) → T (f g)
all_in f [] g a t = absurd t
all_in f (x ∷ xs) g a t = or_split (eqb g x) (is_in g xs) t
    (λ e. subst (λ (k : ℕ). T (f k)) (sym (eqb→eq g x e)) (and_first (f x) (all f xs) a))
    (λ e. all_in f xs g (and_second (f x) (all f xs) a) e)

pub all-by : (f : ℕ → Bool) (l : List ℕ) → ((g : ℕ) → T (is_in g l) → T (f g)) → T (all f l)
all-by f [] h = tt
all-by f (x ∷ xs) h = and_intro (f x) (all f xs) (h x (or-first (eqb x x) (is_in x xs) (eqb_refl x))) (all-by f xs (λ g t. h g (or-second (eqb g x) (is_in g xs) t)))

pub all-less : (f k : ℕ → Bool) (l : List ℕ) → ((g : ℕ) → T (f g) → T (k g)) → T (all f l) → T (all k l)
all-less f k [] h a = tt
all-less f k (x ∷ xs) h a = and_intro (k x) (all k xs) (h x (and_first (f x) (all f xs) a)) (all-less f k xs h (and_second (f x) (all f xs) a))

-- ---- from and to are numbers of the list, and there are no others but a last one alone

pub not-to : (l : List ℕ) (g : ℕ) → T (not (is_in g l)) → T (not (is_in g (tos l)))
not-to [] g n = tt
not-to (a ∷ []) g n = tt
not-to (a ∷ b ∷ l) g n =
    let r = nor-second (eqb g a) (eqb g b || is_in g l) n in
    let s = not-to l g (nor-second (eqb g b) (is_in g l) r) in
    rw (false_of (eqb g b) (nor-first (eqb g b) (is_in g l) r)) s

-- a number of the list that changes is a from or a to
pub exchange-out : (l : List ℕ) (g : ℕ) → T (not (is_in g (froms l))) → T (not (is_in g (tos l))) → exchange l g ≡ g
exchange-out [] g m n = refl
exchange-out (a ∷ []) g m n = refl
exchange-out (a ∷ b ∷ l) g m n =
    rw (false_of (eqb g a) (nor-first (eqb g a) (is_in g (froms l)) m), false_of (eqb g b) (nor-first (eqb g b) (is_in g (tos l)) n))
    (exchange-out l g (nor-second (eqb g a) (is_in g (froms l)) m) (nor-second (eqb g b) (is_in g (tos l)) n))

pub not-from : (l : List ℕ) (g : ℕ) → T (not (is_in g l)) → T (not (is_in g (froms l)))
not-from [] g n = tt
not-from (a ∷ []) g n = tt
not-from (a ∷ b ∷ l) g n =
    let s = not-from l g (nor-second (eqb g b) (is_in g l) (nor-second (eqb g a) (eqb g b || is_in g l) n)) in
    rw (false_of (eqb g a) (nor-first (eqb g a) (eqb g b || is_in g l) n)) s

-- a number that is neither of the first two is exchanged by the rest
past : (a b : ℕ) (l : List ℕ) (g : ℕ) → g ≢ a → g ≢ b → exchange (a ∷ b ∷ l) g ≡ exchange l g
past a b l g d k = rw (eqb-ne g a d, eqb-ne g b k) refl

-- a from becomes a to, and a to a from
pub from_goes : (l : List ℕ) (g : ℕ) → T (none_twice l) → T (is_in g (froms l)) → T (is_in (exchange l g) (tos l))
from_goes [] g o t = absurd t
from_goes (a ∷ []) g o t = absurd t
from_goes (a ∷ b ∷ l) g o t = go (ℕ_discrete g a) (ℕ_discrete g b) (from_goes l g)
  where
    outs : T (none_twice (b ∷ l))
    outs = and_second (not (is_in a (b ∷ l))) (none_twice (b ∷ l)) o

    in_rest : g ≢ a → T (is_in g (froms l))
    in_rest d = or_split (eqb g a) (is_in g (froms l)) t (λ e. absurd (d (eqb→eq g a e))) (λ r. r)

    go : Dec (g ≡ a) → Dec (g ≡ b) → (T (none_twice l) → T (is_in g (froms l)) → T (is_in (exchange l g) (tos l))) → T (is_in (exchange (a ∷ b ∷ l) g) (b ∷ tos l))
    go (yes e) q ih = rw (eqb-eq g a e) (rw (eqb-eq b b refl) tt)
    go (no d) (yes e) ih = absurd (T_not (is_in g (froms l)) (not-from l g (subst (λ (k : ℕ). T (not (is_in k l))) (sym e) (and_first (not (is_in b l)) (none_twice l) outs))) (in_rest d))
    go (no d) (no k) ih = subst (λ (n : ℕ). T (is_in n (b ∷ tos l))) (sym (past a b l g d k))
        (or-second (eqb (exchange l g) b) (is_in (exchange l g) (tos l)) (ih (and_second (not (is_in b l)) (none_twice l) outs) (in_rest d)))

pub to-goes : (l : List ℕ) (g : ℕ) → T (none_twice l) → T (is_in g (tos l)) → T (is_in (exchange l g) (froms l))
to-goes [] g o t = absurd t
to-goes (a ∷ []) g o t = absurd t
to-goes (a ∷ b ∷ l) g o t = go (ℕ_discrete g a) (ℕ_discrete g b) (to-goes l g)
  where
    outs : T (none_twice (b ∷ l))
    outs = and_second (not (is_in a (b ∷ l))) (none_twice (b ∷ l)) o

    out_a : T (not (is_in a (b ∷ l)))
    out_a = and_first (not (is_in a (b ∷ l))) (none_twice (b ∷ l)) o

    go : Dec (g ≡ a) → Dec (g ≡ b) → (T (none_twice l) → T (is_in g (tos l)) → T (is_in (exchange l g) (froms l))) → T (is_in (exchange (a ∷ b ∷ l) g) (a ∷ froms l))
    go (yes e) q ih = absurd (or_split (eqb g b) (is_in g (tos l)) t
        (λ r. T_not (eqb a b) (nor-first (eqb a b) (is_in a l) out_a) (subst (λ (k : ℕ). T (eqb k b)) e r))
        (λ r. T_not (is_in g (tos l)) (not-to l g (subst (λ (k : ℕ). T (not (is_in k l))) (sym e) (nor-second (eqb a b) (is_in a l) out_a))) r))
    go (no d) (yes e) ih = rw (eqb-ne g a d, eqb-eq g b e) (rw (eqb-eq a a refl) tt)
    go (no d) (no k) ih = subst (λ (n : ℕ). T (is_in n (a ∷ froms l))) (sym (past a b l g d k))
        (or-second (eqb (exchange l g) a) (is_in (exchange l g) (froms l))
        (ih (and_second (not (is_in b l)) (none_twice l) outs) (or_split (eqb g b) (is_in g (tos l)) t (λ e. absurd (k (eqb→eq g b e))) (λ r. r))))

-- where the length is even, there are no others
pub all-inside : (n : ℕ) (l : List ℕ) → T (even l) → T (all (λ g. ltb g n) (froms l)) → T (all (λ g. ltb g n) (tos l)) → (k : ℕ) → k < length l → get_or l k 0 < n
all-inside n [] e a b k h = absurd (not-suc-le-zero h)
all-inside n (x ∷ []) e a b k h = absurd e
all-inside n (x ∷ y ∷ l) e a b zero h = ltb→lt x n (and_first (ltb x n) (all (λ g. ltb g n) (froms l)) a)
all-inside n (x ∷ y ∷ l) e a b (suc zero) h = ltb→lt y n (and_first (ltb y n) (all (λ g. ltb g n) (tos l)) b)
all-inside n (x ∷ y ∷ l) e a b (suc (suc k)) h =
    all-inside n l e (and_second (ltb x n) (all (λ g. ltb g n) (froms l)) a) (and_second (ltb y n) (all (λ g. ltb g n) (tos l)) b) k (le_of_suc-le-suc (le_of_suc-le-suc h))
