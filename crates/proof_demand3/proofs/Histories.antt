-- The calls between the opening and its abandonment, and the calls after, beside the same without the opening. Assumes nothing.
use Rattle.std.specs.Prelude.{ℕ, ◌≡◌, refl, Bool, true, false, not, ◌&&◌, cond, List, [], ◌∷◌, map, T, ltb, eqb}
use Rattle.std.proofs.Common.{sym, ap, ◌∙◌, subst, eqb→eq, nltb→le}
use Rattle.combine.specs.Laws.Below.{not-both}
use Rattle.combine.specs.Laws.Tests.{and_first, and_second, true_of, false_of, not-not}
use Rattle.combine.specs.Verdict.{is_done}
use Rattle.placing.specs.Sizes.{entry_of}
use Rattle.rules.specs.Calls.{Request, Run, Call, starts, asks, arranges, on, runs}
use Rattle.cells.specs.Outcomes.{Lent}
use Rattle.proof_calls_sound.specs.Keeps.{keeps-sound}
use Rattle.demands.specs.History.{outcome_on, after_call, view_on, final, those, told_all}
use Rattle.demands.specs.Hearing.{Fate, left_fate, later_fate, fate_in, heard, heard_of, answered_as}
use Rattle.demands.specs.Demands.{Sound}
use Rattle.demands.specs.Abandoning.{is_on, ending, quiet, Quiet, is_load, NoLoad, is_elsewhere, between_fate, strike}
use Rattle.demands.specs.Laws.History.{those-those, each-passes, each_of}
use Rattle.demands.specs.Laws.Woven.{Unwinds, woven}
use Rattle.proof_demand3.proofs.Steps.{goes-on}
use Rattle.proof_demand3.proofs.Beside.{Beside, another-beside, another-told, own-beside, own-run-beside, later-told, later-seen}

-- ---- the fates of calls that pass, in a history of their own

module _ (f : Call → Bool) where
  fates-of-those : (g : Call → Fate) (cs : List Call) → map (fate_in f g) (those f cs) ≡ map g (those f cs)
  fates-of-those g [] = refl
  fates-of-those g (c ∷ cs) = go (f c) refl (fates-of-those g cs)
    where
      go : (b : Bool) → f c ≡ b → map (fate_in f g) (those f cs) ≡ map g (those f cs)
          → map (fate_in f g) (cond b (c ∷ those f cs) (those f cs)) ≡ map g (cond b (c ∷ those f cs) (those f cs))
      go true o q = rw o (ap (λ (l : List Fate). g c ∷ l) q)
      go false o q = q

-- ---- a call by the entry

own_at : (u e v d : ℕ) (x y : Lent) (r : Request) → Beside (entry_of u e) x y → u ≡ v → e ≡ d → T (not (ending r && is_done (outcome_on (on v d r) x).answer))
    → Beside (entry_of u e) (after_call (on v d r) x) y
own_at u e v d x y r b p q t =
    subst (λ (w : ℕ). T (not (ending r && is_done (outcome_on (on w d r) x).answer)) → Beside (entry_of u e) (after_call (on w d r) x) y) p
    (subst (λ (w : ℕ). T (not (ending r && is_done (outcome_on (on u w r) x).answer)) → Beside (entry_of u e) (after_call (on u w r) x) y) q
    (own-beside u e x y b r)) t

own-run-at : (u e v d : ℕ) (x y : Lent) (r : Run) → Beside (entry_of u e) x y → u ≡ v → e ≡ d → Beside (entry_of u e) (after_call (runs v d r) x) y
own-run-at u e v d x y r b p q =
    subst (λ (w : ℕ). Beside (entry_of u e) (after_call (runs w d r) x) y) p (subst (λ (w : ℕ). Beside (entry_of u e) (after_call (runs u w r) x) y) q (own-run-beside u e x y b r))

own-call : (u e : ℕ) (x y : Lent) (c : Call) → Beside (entry_of u e) x y → is_on u e c ≡ true → T (quiet u e c (answered_as c x)) → Beside (entry_of u e) (after_call c x) y
own-call u e x y (starts c) b o q = absurd (not-both o refl)
own-call u e x y (asks c) b o q = absurd (not-both o refl)
own-call u e x y (arranges c) b o q = absurd (not-both o refl)
own-call u e x y (on v d r) b o q =
    let t : T (eqb u v && eqb e d) = rw o tt in
    let going : T (not (((eqb u v && eqb e d) && ending r) && is_done (outcome_on (on v d r) x).answer)) = goes-on u e (on v d r) (outcome_on (on v d r) x).answer q in
    own_at u e v d x y r b (eqb→eq u v (and_first (eqb u v) (eqb e d) t)) (eqb→eq e d (and_second (eqb u v) (eqb e d) t)) (rw o at going)
own-call u e x y (runs v d r) b o q =
    let t : T (eqb u v && eqb e d) = rw o tt in
    own-run-at u e v d x y r b (eqb→eq u v (and_first (eqb u v) (eqb e d) t)) (eqb→eq e d (and_second (eqb u v) (eqb e d) t))

-- ---- between the opening and its abandonment

module _ (u e : ℕ) (entry : T (not (ltb 3 e))) where
  between : Unwinds (is_elsewhere u e) left_fate (λ c x. T (quiet u e c (answered_as c x))) (λ c y. T (is_elsewhere u e c)) (Beside (entry_of u e))
  between = record {
    left = λ c x y o q b. own-call u e x y c b (true_of (is_on u e c) (not-not (is_on u e c) (rw o tt))) q;
    right = λ c x y o q b. absurd (subst (λ (t : Bool). T t) o q);
    both = λ c x y o q t b. another-beside u e x y b c (nltb→le 3 e entry) (false_of (is_on u e c) (rw o tt)) q;
    told = λ c x y o q t b. another-told u e x y b c (nltb→le 3 e entry) (false_of (is_on u e c) (rw o tt)) q;
  }

  -- the calls that are left, beside all
  pub record BetweenAlike (cs : List Call) (x y : Lent) : Type 0 where
    pub told : heard_of (between_fate u e) cs x ≡ heard_of left_fate (strike u e cs) y
    pub after : Beside (entry_of u e) (final cs x) (final (strike u e cs) y)

  pub between-alike : (cs : List Call) (x y : Lent) → Beside (entry_of u e) x y → Quiet u e cs x → BetweenAlike cs x y
  between-alike cs x y b q =
      let a = woven _ _ _ _ _ between cs (strike u e cs) x y (sym (those-those (is_elsewhere u e) cs)) q (each-passes (is_elsewhere u e) cs y) b in
      record { told = a.told ∙ ap (λ (l : List Fate). heard l (told_all (strike u e cs) y)) (fates-of-those (is_elsewhere u e) left_fate cs); after = a.after }

-- ---- after the abandonment users know the same

pub record KnownSame (x y : Lent) : Type 0 where
  pub here : Sound x
  pub there : Sound y
  pub seen : view_on x ≡ view_on y

later : Unwinds (λ c. true) later_fate (λ c x. T (not (is_load c && is_done (outcome_on c x).answer))) (λ c y. Unit {0}) KnownSame
later = record {
  left = λ c x y o n k. absurd (not-both refl o);
  right = λ c x y o n k. absurd (not-both refl o);
  both = λ c x y o n t k. record {
    here = keeps-sound c x k.here;
    there = keeps-sound c y k.there;
    seen = later-seen x y k.here k.there k.seen c n;
  };
  told = λ c x y o n t k. later-told x y k.here k.there k.seen c n;
}

pub record LaterAlike (cs : List Call) (x y : Lent) : Type 0 where
  pub told : heard_of later_fate cs x ≡ heard_of later_fate cs y
  pub after : KnownSame (final cs x) (final cs y)

pub later-alike : (cs : List Call) (x y : Lent) → KnownSame x y → NoLoad cs x → LaterAlike cs x y
later-alike cs x y k n =
    let a = woven _ _ _ _ _ later cs cs x y refl n (each_of (λ c y. Unit {0}) (λ c y. tt) cs y) k in
    record { told = a.told; after = a.after }
