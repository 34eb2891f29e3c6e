-- Laws of combine/specs/Run.antt. Assumes nothing.
use Prim.Native.Nat.{ℕ, suc, ◌+◌, ◌<◌}
use Rattle.std.specs.Prelude.{◌≡◌, false, get_or}
use Rattle.std.proofs.Math.Path.{refl, ap}
use Rattle.std.proofs.Common.{sym, ◌∙◌, subst, zero-add}
use mathlib.Core.List.{List, [], ◌∷◌, ◌++◌, map, append_assoc}
use native.Mathlib.Omega.{arith}
use Rattle.std.proofs.Math.ListN.{length, length-append}
use Rattle.combine.specs.Lists.{tab}
use Rattle.combine.specs.Verdict.{Said, refused, done, is_done}
use Rattle.combine.specs.Outcome.{Outcome, outcome_of}
use Rattle.combine.specs.Laws.Below.{not-both}
use Rattle.combine.specs.Laws.Verdict.{Refuses}
use Rattle.combine.specs.Run.{Ran, ran, onwards, run_over, admitted}

module _ {S : Type 0} where
  -- calls that are done and tell l, and then the run r
  unfoldable pub behind : List ℕ → Ran S → Ran S
  behind l r = ran (length l + r.many) r.stop (l ++ r.told) r.after

  pub behind-none : (r : Ran S) → r ≡ behind [] r
  unfolding behind
  behind-none r = λ i. ran (sym (zero-add r.many) i) r.stop r.told r.after

  pub behind-both : (l m : List ℕ) (r : Ran S) → behind l (behind m r) ≡ behind (l ++ m) r
  unfolding behind
  behind-both l m r =
      let n : length l + (length m + r.many) ≡ length (l ++ m) + r.many = omega (arith, length-append l m) in
      λ i. ran (n i) r.stop (sym (append_assoc l m r.told) i) r.after

  module _ {A : Type 0} (call : A → S → Outcome S) where
    -- ---- the first call

    pub run_none : (x : S) → run_over call [] x ≡ ran 0 0 [] x
    unfolding run_over
    run_none x = refl

    pub run-stops : (a : A) (rest : List A) (n : ℕ) (x y : S) → call a x ≡ outcome_of (refused n) y → run_over call (a ∷ rest) x ≡ ran 0 n [] y
    unfolding run_over
    run-stops a rest n x y e = ap (λ (o : Outcome S). onwards o.answer o.after (run_over call rest o.after)) e

    pub run-first : (a : A) (rest : List A) (v : ℕ) (x y : S) → call a x ≡ outcome_of (done v) y → run_over call (a ∷ rest) x ≡ behind (v ∷ []) (run_over call rest y)
    unfolding run_over behind
    run-first a rest v x y e =
        let n : suc (run_over call rest y).many ≡ 1 + (run_over call rest y).many = omega arith in
        ap (λ (o : Outcome S). onwards o.answer o.after (run_over call rest o.after)) e
        ∙ (λ i. ran (n i) (run_over call rest y).stop (v ∷ (run_over call rest y).told) (run_over call rest y).after)

    -- ---- what every call keeps, a run keeps

    module _ (P : S → Type 0) (keeps : (a : A) (x : S) → P x → P (call a x).after) where
      pub run-keeps : (l : List A) (x : S) → P x → P (run_over call l x).after
      unfolding run_over
      run-keeps [] x p = p
      run-keeps (a ∷ l) x p = go (call a x).answer (run-keeps l (call a x).after (keeps a x p))
        where
          go : (s : Said) → P (run_over call l (call a x).after).after → P (onwards s (call a x).after (run_over call l (call a x).after)).after
          go (refused n) q = keeps a x p
          go (done v) q = q

    -- ---- what is so of every number by which a call refuses, and of 0, is so of the number that stops a run

    module _ (P : ℕ → Type 0) (none : P 0) (refuses : (a : A) (x : S) → Refuses P (call a x).answer) where
      pub run-stopped : (l : List A) (x : S) → P (run_over call l x).stop
      unfolding run_over
      run-stopped [] x = none
      run-stopped (a ∷ l) x = go (call a x).answer (refuses a x) (run-stopped l (call a x).after)
        where
          go : (s : Said) → Refuses P s → P (run_over call l (call a x).after).stop → P (onwards s (call a x).after (run_over call l (call a x).after)).stop
          go (refused n) p q = p
          go (done v) p q = q

    -- ---- calls that are all done, each from the state that the one before left: at j is the state before the call j

    module _ (P : S → Type 0) (keeps : (a : A) (v : ℕ) (x y : S) → P x → call a x ≡ outcome_of (done v) y → P y) (d : A) (rest : List A) where
      pub run_along : (l : List A) (at : ℕ → S) (tell : ℕ → ℕ) → P (at 0)
          → ((j : ℕ) → j < length l → P (at j) → call (get_or l j d) (at j) ≡ outcome_of (done (tell j)) (at (suc j)))
          → P (at (length l)) × (run_over call (l ++ rest) (at 0) ≡ behind (tab (length l) tell) (run_over call rest (at (length l))))
      unfolding tab
      run_along [] at tell p f = (p, behind-none (run_over call rest (at 0)))
      run_along (a ∷ l) at tell p f =
          let one = f 0 (omega arith) p in
          let later = run_along l (λ j. at (suc j)) (λ j. tell (suc j)) (keeps a (tell 0) (at 0) (at 1) p one) (λ j h q. f (suc j) (omega (arith, h)) q) in
          (later.0, run-first a (l ++ rest) (tell 0) (at 0) (at 1) one ∙ ap (behind (tell 0 ∷ [])) later.1 ∙ behind-both (tell 0 ∷ []) (tab (length l) (λ j. tell (suc j))) (run_over call rest (at (suc (length l)))))

  -- ---- a run of which nothing is done leaves all as it stood, where every refused call does

  module _ {A : Type 0} (call : A → S → Outcome S) (keeps : (a : A) (x : S) → is_done (call a x).answer ≡ false → (call a x).after ≡ x) where
    pub run-refused : (l : List A) (x : S) → (run_over call l x).many ≡ 0 → (run_over call l x).after ≡ x
    unfolding run_over
    run-refused [] x e = refl
    run-refused (a ∷ l) x e = go (call a x).answer refl e
      where
        go : (s : Said) → (call a x).answer ≡ s → (onwards s (call a x).after (run_over call l (call a x).after)).many ≡ 0
            → (onwards s (call a x).after (run_over call l (call a x).after)).after ≡ x
        go (refused n) q z = keeps a x (ap is_done q)
        go (done v) q z = absurd (omega arith)

  -- ---- what is refused before the first call

  pub admitted-keeps : (P : S → Type 0) (x : S) (v : Said) (r : Ran S) → P x → P r.after → P (admitted x v r).after
  admitted-keeps P x (refused n) r p q = p
  admitted-keeps P x (done k) r p q = q

  pub admitted-stopped : (P : ℕ → Type 0) (x : S) (v : Said) (r : Ran S) → Refuses P v → P r.stop → P (admitted x v r).stop
  admitted-stopped P x (refused n) r p q = p
  admitted-stopped P x (done k) r p q = q

-- ---- the same calls by other names

pub run-map : {A B S : Type 0} (f : A → B) (call : B → S → Outcome S) (l : List A) (x : S) → run_over call (map f l) x ≡ run_over (λ a y. call (f a) y) l x
unfolding run_over
run-map f call [] x = refl
run-map f call (a ∷ l) x =
    ap (λ (r : Ran _). onwards (call (f a) x).answer (call (f a) x).after r) (run-map f call l (call (f a) x).after)

-- ---- the same calls on two kinds of state, which R relates

module _ {S M : Type 0} (R : S → M → Type 0) where
  pub record Related (r : Ran S) (q : Ran M) : Type 0 where
    pub many : r.many ≡ q.many
    pub stop : r.stop ≡ q.stop
    pub told : r.told ≡ q.told
    pub after : R r.after q.after

  -- P and Q are so of the numbers that stop them
  module _ (P Q : ℕ → Type 0) where
    pub admitted-related : (x : S) (y : M) (v : Said) (r : Ran S) (q : Ran M) → R x y → P (admitted x v r).stop → Q (admitted y v q).stop
        → (P r.stop → Q q.stop → Related r q) → Related (admitted x v r) (admitted y v q)
    admitted-related x y (refused n) r q k s t h = record { many = refl; stop = refl; told = refl; after = k }
    admitted-related x y (done k) r q e s t h = h s t

  -- one call is answered alike, and keeps R, unless it is refused by a number of which P, or Q on the other side, is not so
  module _ {A : Type 0} (f : A → S → Outcome S) (g : A → M → Outcome M) (P Q : ℕ → Type 0)
      (one : (a : A) (x : S) (y : M) → R x y → Refuses P (f a x).answer → Refuses Q (g a y).answer → ((f a x).answer ≡ (g a y).answer) × R (f a x).after (g a y).after) where
    pub run-related : (l : List A) (x : S) (y : M) → R x y → P (run_over f l x).stop → Q (run_over g l y).stop → Related (run_over f l x) (run_over g l y)
    unfolding run_over
    run-related [] x y r p q = record { many = refl; stop = refl; told = refl; after = r }
    run-related (a ∷ l) x y r p q = go (f a x).answer refl (g a y).answer refl p q (λ k p q. run-related l (f a x).after (g a y).after k p q)
      where
        here : Ran S
        here = run_over f l (f a x).after

        there : Ran M
        there = run_over g l (g a y).after

        go : (s : Said) → (f a x).answer ≡ s → (t : Said) → (g a y).answer ≡ t → P (onwards s (f a x).after here).stop → Q (onwards t (g a y).after there).stop
            → (R (f a x).after (g a y).after → P here.stop → Q there.stop → Related here there) → Related (onwards s (f a x).after here) (onwards t (g a y).after there)
        go (refused m) es (refused n) et p q later =
            let o = one a x y r (subst (Refuses P) (sym es) p) (subst (Refuses Q) (sym et) q) in
            let e : ◌≡◌ {A = Said} (refused m) (refused n) = sym es ∙ o.0 ∙ et in
            let same : m ≡ n = cc in
            record { many = refl; stop = same; told = refl; after = o.1 }
        go (refused m) es (done v) et p q later =
            let o = one a x y r (subst (Refuses P) (sym es) p) (subst (Refuses Q) (sym et) tt) in
            absurd (not-both (ap is_done (sym es ∙ o.0 ∙ et)) refl)
        go (done u) es (refused n) et p q later =
            let o = one a x y r (subst (Refuses P) (sym es) tt) (subst (Refuses Q) (sym et) q) in
            absurd (not-both refl (ap is_done (sym es ∙ o.0 ∙ et)))
        go (done u) es (done v) et p q later =
            let o = one a x y r (subst (Refuses P) (sym es) tt) (subst (Refuses Q) (sym et) tt) in
            let e : ◌≡◌ {A = Said} (done u) (done v) = sym es ∙ o.0 ∙ et in
            let same : u ≡ v = cc in
            let k = later o.1 p q in
            record { many = ap suc k.many; stop = k.stop; told = λ i. same i ∷ k.told i; after = k.after }

-- ---- view x is what x is seen as

module _ {S M : Type 0} (view : S → M) where
  pub record Agree (o : Outcome S) (q : Outcome M) : Type 0 where
    pub answer : o.answer ≡ q.answer
    pub after : view o.after ≡ q.after

  abbrev pub Alike : Ran S → Ran M → Type 0
  Alike = Related (λ x m. view x ≡ m)

  pub admitted-alike : (x : S) (v : Said) (r : Ran S) (q : Ran M) → Alike r q → Alike (admitted x v r) (admitted (view x) v q)
  admitted-alike x v r q a = admitted-related (λ x m. view x ≡ m) (λ n. Unit {0}) (λ n. Unit {0}) x (view x) v r q refl tt tt (λ s t. a)

  module _ {A : Type 0} (f : A → S → Outcome S) (g : A → M → Outcome M) (P : S → Type 0) (keeps : (a : A) (x : S) → P x → P (f a x).after)
      (agree : (a : A) (x : S) → P x → Agree (f a x) (g a (view x))) where
    pub run-alike : (l : List A) (x : S) → P x → Alike (run_over f l x) (run_over g l (view x))
    run-alike l x p =
        let k = run-related Seen f g (λ n. Unit {0}) (λ n. Unit {0}) one l x (view x) (p, refl) tt tt in
        record { many = k.many; stop = k.stop; told = k.told; after = k.after.1 }
      where
        Seen : S → M → Type 0
        Seen x m = P x × (view x ≡ m)

        one : (a : A) (x : S) (m : M) → Seen x m → Refuses (λ n. Unit {0}) (f a x).answer → Refuses (λ n. Unit {0}) (g a m).answer
            → ((f a x).answer ≡ (g a m).answer) × Seen (f a x).after (g a m).after
        one a x m s t u =
            let e = agree a x s.0 in
            (e.answer ∙ ap (λ (n : M). (g a n).answer) s.1, (keeps a x s.0, e.after ∙ ap (λ (n : M). (g a n).after) s.1))
