-- What is known of a write that is not refused: t are the tables' cells, o an opening, p a pointer. Assumes nothing.
use Prim.Native.Nat.{ℕ, ◌≤◌, ◌<◌}
use mathlib.Core.Path.{◌≡◌, ap, subst}
use mathlib.Core.Logic.{◌≢◌, ⊎_elim}
use mathlib.Core.Bool.{Bool, false, not, ◌&&◌, cond}
use mathlib.Core.List.{List}
use native.Mathlib.Omega.{arith}
use lib.Dec.{T, leb, eqb, nleb→lt}
use borrow.Author.Tests.{eq-eqb, ne_eqb, eqb-true}
use Rattle.combine.specs.Verdict.{done}
use Rattle.combine.specs.Laws.Numbers.{eq-or-ne}
use Rattle.combine.specs.Laws.Tests.{true_of, false_of, not-not}
use Rattle.numbers.specs.Numbers.{is_foreign}
use Rattle.placing.specs.declared.Segment.{Segment}
use Rattle.placing.specs.Sizes.{greatest_end}
use Rattle.rules.specs.Headings.{value}
use Rattle.rules.specs.Effects.{Deed, first_leaves, stores, Use}
use Rattle.rules.specs.Access.{write_rule}
use Rattle.tables.specs.declared.Opening.{Opening}
use Rattle.tables.specs.Fields.{value_of}
use Rattle.tables.specs.Handles.{handle_in}
use Rattle.tables.specs.Laws.Pointers.{value_in}
use Rattle.proof_requests_sound.specs.Verdicts.{Has, has, has_done}
use Rattle.gate_laws.specs.Known.{Known}
use Rattle.write_plan.specs.Plans.{write_verdict, Puts}
use Rattle.run_puts.specs.Puts.{limit_of, Points}
use Rattle.run_puts.specs.Laws.Limits.{limit-end, limit-other}
use Rattle.call_write_run.proofs.Own.{Own}

-- behind 19, 5, 7, 23 and 10; and through 0 the first element leaves
pub record Judged (o : Opening) (p : ℕ) (wide : Bool) (d : Deed) : Type 0 where
  pub kind : is_foreign false o.species ≡ false
  pub fits : wide ≡ false
  pub works : o.permit ≡ 1
  pub below : value_of o p < limit_of o p
  pub deed : p ≡ 0 → d ≡ first_leaves

module _ (t : List ℕ) (o : Opening) (p : ℕ) where
  limited : T (not (not (eqb p 1) && leb (value (handle_in o) 1) (value (handle_in o) p))) → T (not (eqb p 1 && leb greatest_end (value (handle_in o) p))) → value_of o p < limit_of o p
  limited h7 h10 = ⊎_elim
      (λ (e : p ≡ 1).
      let l : T (not (leb greatest_end (value (handle_in o) p))) = subst (λ (b : Bool). T (not (b && leb greatest_end (value (handle_in o) p)))) (eq-eqb p 1 e) h10 in
      omega (arith, nleb→lt greatest_end (value (handle_in o) p) l, value_in o p, limit-end o p e))
      (λ d.
      let l : T (not (leb (value (handle_in o) 1) (value (handle_in o) p))) = subst (λ (b : Bool). T (not (not b && leb (value (handle_in o) 1) (value (handle_in o) p)))) (ne_eqb p 1 d) h7 in
      omega (arith, nleb→lt (value (handle_in o) 1) (value (handle_in o) p) l, value_in o p, value_in o 1, limit-other o p d)) (eq-or-ne p 1)

  rule-judged : (wide : Bool) (n : ℕ) (takes : ℕ → Bool) (room : Bool) → Has (λ (u : Use). Judged o p wide u.deed) (write_rule p false wide n takes room (handle_in o))
  unfolding write_rule
  rule-judged wide n takes room =
      has _ _ _ _ (λ h19. has _ _ _ _ (λ h4. has _ _ _ _ (λ h5. has _ _ _ _ (λ h6. has _ _ _ _ (λ h7. has _ _ _ _ (λ h23. has _ _ _ _ (λ h10. has _ _ _ _ (λ h8. has _ _ _ _ (λ h9.
      record {
        kind = false_of (is_foreign false o.species) h19;
        fits = false_of wide h23;
        works = eqb-true o.permit 1 (true_of (eqb o.permit 1) (not-not (eqb o.permit 1) h5));
        below = limited h7 h10;
        deed = λ z. ap (λ (b : Bool). cond b first_leaves (stores (value (handle_in o) p) n)) (eq-eqb p 0 z);
      })))))))))

  pub write-judged : (wide : Bool) (n : ℕ) (u : Use) → write_verdict t o p false wide n ≡ done u → Judged o p wide u.deed
  unfolding write_verdict
  write-judged wide n u e = has_done (λ (x : Use). Judged o p wide x.deed) (write_verdict t o p false wide n) u (rule-judged wide n _ _) e

  -- ---- a plan that puts

  module _ (w : Known t o) (wide : Bool) (g : Segment) (f : Puts t o p (write_verdict t o p false wide) g) where
    judged : Judged o p wide (stores (value_of o p) 0)
    judged = write-judged wide 0 _ (f.into.told 0)

    pub puts-fits : wide ≡ false
    puts-fits = judged.fits

    not_first : p ≢ 0
    not_first z = let q = judged.deed z in let n : ◌≡◌ {A = ℕ} 0 1 = cc in omega arith

    pub puts-own : Own t o p g
    puts-own =
        record {
          known = f.into.seats.known;
          kind = judged.kind;
          inner = not_first;
          works = judged.works;
          low = f.into.seats.low;
          below = judged.below;
          held = f.held;
          there = f.there;
          alone = f.alone;
        }

    limit-fits : limit_of o p ≤ greatest_end
    limit-fits = let l = w.file.last in ⊎_elim (λ (e : p ≡ 1). omega (arith, limit-end o p e)) (λ d. omega (arith, limit-other o p d)) (eq-or-ne p 1)

    pub puts-points : Points o p
    puts-points =
        let a = w.file.first in
        let b = f.into.seats.low in
        record { species = w.file.species; known = f.into.seats.known; some = omega arith; below = judged.below; fits = limit-fits }
