-- Two histories that have in common the calls which pass a test: a relation between the cells, which every other call keeps on its side, and
-- which makes the same be heard of the common ones. Demand 3 strikes calls from one history; document 02's P11 has other calls in both. Assumes
-- nothing.
use Rattle.std.specs.Prelude.{ℕ, ◌≡◌, refl, Bool, true, false, cond, List, [], ◌∷◌, ◌++◌}
use Rattle.std.proofs.Common.{arith, ap₂, subst}
use Rattle.rules.specs.Calls.{Call}
use Rattle.cells.specs.Outcomes.{Lent}
use Rattle.model.specs.Step.{Report}
use Rattle.demands.specs.History.{after_call, told_of, final, those, Each}
use Rattle.demands.specs.Hearing.{Fate, fate_in, hear, heard_of}

-- ---- the calls, without the cells

module _ (f : Call → Bool) where
  -- both are over; the next call is of one history alone; it is of both
  pub data Weave : List Call → List Call → Type 0 where
    over : Weave [] []
    one_left : (c : Call) (cs ds : List Call) → f c ≡ false → Weave cs ds → Weave (c ∷ cs) ds
    one_right : (d : Call) (cs ds : List Call) → f d ≡ false → Weave cs ds → Weave cs (d ∷ ds)
    in_both : (c : Call) (cs ds : List Call) → f c ≡ true → Weave cs ds → Weave (c ∷ cs) (c ∷ ds)

  no_more : (ds : List Call) → [] ≡ those f ds → Weave [] ds
  no_more [] e = over
  no_more (d ∷ ds) e = go (no_more ds) (f d) refl e
    where
      go : ([] ≡ those f ds → Weave [] ds) → (b : Bool) → f d ≡ b → [] ≡ cond b (d ∷ those f ds) (those f ds) → Weave [] (d ∷ ds)
      go later true o e = let z : ◌≡◌ {A = ℕ} 0 1 = cc in absurd (omega arith)
      go later false o e = one_right d [] ds o (later e)

  -- the next common call is c
  module _ (c : Call) (cs : List Call) (common : f c ≡ true) (later : (ds : List Call) → those f cs ≡ those f ds → Weave cs ds) where
    till-met : (ds : List Call) → c ∷ those f cs ≡ those f ds → Weave (c ∷ cs) ds
    till-met [] e = let z : ◌≡◌ {A = ℕ} 0 1 = cc in absurd (omega arith)
    till-met (d ∷ ds) e = go (till-met ds) (f d) refl e
      where
        go : (c ∷ those f cs ≡ those f ds → Weave (c ∷ cs) ds) → (b : Bool) → f d ≡ b → c ∷ those f cs ≡ cond b (d ∷ those f ds) (those f ds) → Weave (c ∷ cs) (d ∷ ds)
        go further false o e = one_right d (c ∷ cs) ds o (further e)
        go further true o e =
            let same : c ≡ d = cc in
            let rest : those f cs ≡ those f ds = cc in
            subst (λ (k : Call). Weave (c ∷ cs) (k ∷ ds)) same (in_both c cs ds common (later ds rest))

  weave : (cs ds : List Call) → those f cs ≡ those f ds → Weave cs ds
  weave [] ds e = no_more ds e
  weave (c ∷ cs) ds e = go (weave cs) (f c) refl e
    where
      go : ((es : List Call) → those f cs ≡ those f es → Weave cs es) → (b : Bool) → f c ≡ b → cond b (c ∷ those f cs) (those f cs) ≡ those f ds → Weave (c ∷ cs) ds
      go later true o e = till-met c cs o later ds e
      go later false o e = one_left c cs ds o (later ds e)

-- ---- over cells: P and Q are the premises of the two histories, g says what is heard of a common call

pub record Unwinds (f : Call → Bool) (g : Call → Fate) (P Q : Call → Lent → Type 0) (R : Lent → Lent → Type 0) : Type 0 where
  pub left : (c : Call) (x y : Lent) → f c ≡ false → P c x → R x y → R (after_call c x) y
  pub right : (c : Call) (x y : Lent) → f c ≡ false → Q c y → R x y → R x (after_call c y)
  pub both : (c : Call) (x y : Lent) → f c ≡ true → P c x → Q c y → R x y → R (after_call c x) (after_call c y)
  pub told : (c : Call) (x y : Lent) → f c ≡ true → P c x → Q c y → R x y → hear (g c) (told_of c x) ≡ hear (g c) (told_of c y)

module _ (f : Call → Bool) (g : Call → Fate) (P Q : Call → Lent → Type 0) (R : Lent → Lent → Type 0) (w : Unwinds f g P Q R) where
  pub record Alike (cs ds : List Call) (x y : Lent) : Type 0 where
    pub told : heard_of (fate_in f g) cs x ≡ heard_of (fate_in f g) ds y
    pub after : R (final cs x) (final ds y)

  along : (cs ds : List Call) (x y : Lent) → Weave f cs ds → Each P cs x → Each Q ds y → R x y → Alike cs ds x y
  along cs ds x y over p q r = record { told = refl; after = r }
  along cs ds x y (one_left c cs' ds' o v) p q r =
      let a = along cs' ds (after_call c x) y v p.1 q (w.left c x y o p.0 r) in
      record { told = rw o a.told; after = a.after }
  along cs ds x y (one_right d cs' ds' o v) p q r =
      let a = along cs ds' x (after_call d y) v p q.1 (w.right d x y o q.0 r) in
      record { told = rw o a.told; after = a.after }
  along cs ds x y (in_both c cs' ds' o v) p q r =
      let a = along cs' ds' (after_call c x) (after_call c y) v p.1 q.1 (w.both c x y o p.0 q.0 r) in
      record { told = rw o (ap₂ {C = List Report} (λ k l. k ++ l) (w.told c x y o p.0 q.0 r) a.told); after = a.after }

  pub woven : (cs ds : List Call) (x y : Lent) → those f cs ≡ those f ds → Each P cs x → Each Q ds y → R x y → Alike cs ds x y
  woven cs ds x y e = along cs ds x y (weave f cs ds e)
