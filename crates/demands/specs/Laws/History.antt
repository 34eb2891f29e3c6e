-- Laws of demands/specs/History.antt. Assumes nothing.
use Rattle.std.specs.Prelude.{◌≡◌, refl, Bool, true, false, cond, List, [], ◌∷◌, T}
use Rattle.std.proofs.Common.{ap}
use Rattle.rules.specs.Calls.{Call}
use Rattle.cells.specs.Outcomes.{Lent}
use Rattle.demands.specs.History.{after_call, those, Each}

-- ---- the calls that pass, in a history of their own

module _ (f : Call → Bool) where
  pub those-those : (cs : List Call) → those f (those f cs) ≡ those f cs
  those-those [] = refl
  those-those (c ∷ cs) = go (f c) refl (those-those cs)
    where
      go : (b : Bool) → f c ≡ b → those f (those f cs) ≡ those f cs → those f (cond b (c ∷ those f cs) (those f cs)) ≡ cond b (c ∷ those f cs) (those f cs)
      go true o q = rw o (ap (λ (l : List Call). c ∷ l) q)
      go false o q = q

  pub each-passes : (cs : List Call) (x : Lent) → Each (λ c y. T (f c)) (those f cs) x
  each-passes [] x = tt
  each-passes (c ∷ cs) x = go (f c) refl (each-passes cs)
    where
      go : (b : Bool) → f c ≡ b → ((y : Lent) → Each (λ c y. T (f c)) (those f cs) y) → Each (λ c y. T (f c)) (cond b (c ∷ those f cs) (those f cs)) x
      go true o q = (rw o tt, q (after_call c x))
      go false o q = q x

-- ---- what every call meets

pub each_of : (P : Call → Lent → Type 0) → ((c : Call) (x : Lent) → P c x) → (cs : List Call) (x : Lent) → Each P cs x
each_of P h [] x = tt
each_of P h (c ∷ cs) x = (h c x, each_of P h cs (after_call c x))

pub each_both : (P Q R : Call → Lent → Type 0) → ((c : Call) (x : Lent) → P c x → Q c x → R c x) → (cs : List Call) (x : Lent) → Each P cs x → Each Q cs x → Each R cs x
each_both P Q R h [] x p q = tt
each_both P Q R h (c ∷ cs) x p q = (h c x p.0 q.0, each_both P Q R h cs (after_call c x) p.1 q.1)
