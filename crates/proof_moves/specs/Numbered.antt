-- After the moves of a tidying a segment is listed exactly if its number is below H; and no arrangement copies fewer. Assumes nothing.
use Rattle.std.specs.Prelude.{ℕ, ◌*◌, ◌≤◌, ◌<◌, ◌≡◌, refl, ◌&&◌, List, T, eqb, leb}
use native.Mathlib.Omega.{arith}
use Rattle.std.proofs.Math.Path.{sym, ap}
use Rattle.std.proofs.Common.{◌∙◌, subst, T_not, ltb→lt}
use Rattle.std.proofs.Math.Logic.{⊎_elim}
use Rattle.std.proofs.Math.Bool.{not}
use borrow.Author.Tests.{lt-ltb, le-ltb}
use Rattle.std.proofs.Math.Dec.{ltb, not_T, leb→le, nleb→lt}
use Rattle.combine.specs.Below.{count_below, picked}
use Rattle.combine.specs.Lists.{is_in}
use Rattle.combine.specs.Laws.Numbers.{le-or-lt}
use Rattle.combine.specs.Laws.Below.{count-cong}
use Rattle.combine.specs.Laws.Counts.{count-mono}
use Rattle.combine.specs.Laws.Pairs.{froms, tos}
use Rattle.combine.specs.Laws.Picked.{picked-passes, picks}
use Rattle.combine.specs.Laws.Tests.{by-test, true_of, false_of, and_first, and_second, and_intro, eqb-ne, eqb-eq}
use Rattle.placing.specs.Sizes.{segment_cells}
use Rattle.segments.specs.Free.{SegmentHouse, is_free}
use Rattle.segments.specs.Moves.{exchange, is_listed, listed_count, is_high, tidy_moves, tidy_count}
use Rattle.proof_moves.specs.Exchange.{exchange-out, from_goes, to-goes}
use Rattle.proof_moves.specs.Moves.{is_vacant, moves-exchange}
use Rattle.proof_moves.specs.Renumbered.{renumbered}
use Rattle.proof_moves.specs.Moved.{free-renumbered}
use Rattle.proof_moves.specs.Tidying.{is_gap, listed-few, tidy-froms, tidy-tos, never_both, listed_below, vacant-below, unlisted-vacant, tidy-moves}

module _ (h : SegmentHouse) where
  abbrev n : ℕ
  n = h.segments

  abbrev H : ℕ
  H = listed_count h

  -- ---- where each goes

  high_goes : (g : ℕ) → T (is_high h g) → T (is_gap h (exchange (tidy_moves h) g))
  high_goes g t =
      let l : g < n = listed_below h g (and_first (is_listed h g) (leb H g) t) in
      let i : T (is_in g (froms (tidy_moves h))) = subst (λ (k : List ℕ). T (is_in g k)) (sym (tidy-froms h)) (picks n (is_high h) g l t) in
      let e = exchange (tidy_moves h) g in
      (picked-passes n (is_gap h) e (subst (λ (k : List ℕ). T (is_in e k)) (tidy-tos h) (from_goes (tidy_moves h) g (tidy-moves h).once i))).1

  gap-goes : (g : ℕ) → T (is_gap h g) → T (is_high h (exchange (tidy_moves h) g))
  gap-goes g t =
      let l : g < n = vacant-below h g (and_first (is_vacant h g) (ltb g H) t) in
      let i : T (is_in g (tos (tidy_moves h))) = subst (λ (k : List ℕ). T (is_in g k)) (sym (tidy-tos h)) (picks n (is_gap h) g l t) in
      let e = exchange (tidy_moves h) g in
      (picked-passes n (is_high h) e (subst (λ (k : List ℕ). T (is_in e k)) (tidy-froms h) (to-goes (tidy_moves h) g (tidy-moves h).once i))).1

  others-stay : (g : ℕ) → T (not (is_high h g)) → T (not (is_gap h g)) → exchange (tidy_moves h) g ≡ g
  others-stay g a b = exchange-out (tidy_moves h) g
      (subst (λ (k : List ℕ). T (not (is_in g k))) (sym (tidy-froms h)) (not_T (is_in g (picked n (is_high h))) (λ t. T_not (is_high h g) a (picked-passes n (is_high h) g t).1)))
      (subst (λ (k : List ℕ). T (not (is_in g k))) (sym (tidy-tos h)) (not_T (is_in g (picked n (is_gap h))) (λ t. T_not (is_gap h g) b (picked-passes n (is_gap h) g t).1)))

  -- a listed one is not a gap
  listed-no-gap : (g : ℕ) → T (is_listed h g) → T (not (is_gap h g))
  listed-no-gap g t = not_T (is_gap h g) (λ r. never_both h g t (and_first (is_vacant h g) (ltb g H) r))

  low-stays : (g : ℕ) → T (is_listed h g) → g < listed_count h → exchange (tidy_moves h) g ≡ g
  low-stays g t l = others-stay g
      (not_T (is_high h g) (λ r. let q = leb→le H g (and_second (is_listed h g) (leb H g) r) in omega arith)) (listed-no-gap g t)

  -- ---- "the H listed ones are numbered 0 to H-1"

  pub tidy-reaches : (g : ℕ) → T (is_listed h g) → exchange (tidy_moves h) g < listed_count h
  tidy-reaches g t = by-test (leb H g)
      (λ r. ltb→lt (exchange (tidy_moves h) g) H (and_second (is_vacant h (exchange (tidy_moves h) g)) (ltb (exchange (tidy_moves h) g) H) (high_goes g (and_intro (is_listed h g) (leb H g) t r))))
      (λ r. let l : g < H = nleb→lt H g r in subst (λ (k : ℕ). k < H) (sym (low-stays g t l)) l)

  numbered : (g : ℕ) → g < h.segments → is_listed h (exchange (tidy_moves h) g) ≡ ltb g (listed_count h)
  numbered g lg = by-test (is_listed h g)
      (λ t. by-test (leb H g)
      (λ r. let l : H ≤ g = leb→le H g r in
      rw (le-ltb g H l)
      (false_of (is_listed h (exchange (tidy_moves h) g)) (not_T (is_listed h (exchange (tidy_moves h) g)) (λ q.
      never_both h (exchange (tidy_moves h) g) q (and_first (is_vacant h (exchange (tidy_moves h) g)) (ltb (exchange (tidy_moves h) g) H) (high_goes g (and_intro (is_listed h g) (leb H g) t r)))))))
      (λ r. let l : g < H = nleb→lt H g r in rw (lt-ltb g H l, low-stays g t l) (true_of (is_listed h g) t)))
      (λ t. by-test (ltb g H)
      (λ r. rw (true_of (ltb g H) r)
      (true_of (is_listed h (exchange (tidy_moves h) g)) (and_first (is_listed h (exchange (tidy_moves h) g)) (leb H (exchange (tidy_moves h) g)) (gap-goes g (and_intro (is_vacant h g) (ltb g H) (unlisted-vacant h g lg t) r)))))
      (λ r.
      let e = others-stay g (not_T (is_high h g) (λ q. T_not (is_listed h g) t (and_first (is_listed h g) (leb H g) q))) (not_T (is_gap h g) (λ q. T_not (ltb g H) r (and_second (is_vacant h g) (ltb g H) q))) in
      rw (false_of (ltb g H) r, e) (false_of (is_listed h g) t)))

  pub tidy-numbers : (g : ℕ) → is_listed (renumbered (exchange (tidy_moves h)) h) g ≡ ltb g (listed_count h)
  unfolding is_listed
  tidy-numbers g = ⊎_elim
      (λ (l : h.segments ≤ g). rw (le-ltb g n l) (sym (le-ltb g H (omega (arith, listed-few h)))))
      (λ (l : g < h.segments).
      let f = exchange (tidy_moves h) in
      let w = moves-exchange h (tidy_moves h) (tidy-moves h) in
      let a : ltb g n ≡ ltb (f g) n = lt-ltb g n l ∙ sym (lt-ltb (f g) n (w.range g l)) in
      let b : is_free (renumbered f h) g ≡ is_free h (f g) = free-renumbered n f w h g in
      rw (a, b) (numbered g l))
      (le-or-lt n g)

  -- ---- "and no arrangement into 0 to H-1 copies fewer": an arrangement copies the segments whose numbers change

  pub tidy-exact : segment_cells * count_below h.segments (λ g. is_listed h g && not (eqb (exchange (tidy_moves h) g) g)) ≡ tidy_count h
  unfolding tidy_count
  tidy-exact = ap (λ (k : ℕ). segment_cells * k) (count-cong (λ g. is_listed h g && not (eqb (exchange (tidy_moves h) g) g)) (is_high h) n (λ g l. each g))
    where
      each : (g : ℕ) → (is_listed h g && not (eqb (exchange (tidy_moves h) g) g)) ≡ is_high h g
      each g = by-test (is_listed h g)
          (λ t. by-test (leb (listed_count h) g)
          (λ r. let q = leb→le (listed_count h) g r in
          let d = tidy-reaches g t in
          rw (true_of (is_listed h g) t, true_of (leb (listed_count h) g) r, eqb-ne (exchange (tidy_moves h) g) g (λ e. omega arith)) refl)
          (λ r. rw (true_of (is_listed h g) t, false_of (leb (listed_count h) g) r, eqb-eq (exchange (tidy_moves h) g) g (low-stays g t (nleb→lt (listed_count h) g r))) refl))
          (λ t. rw (false_of (is_listed h g) t) refl)

  pub tidy-least : (f : ℕ → ℕ) → ((g : ℕ) → T (is_listed h g) → f g < listed_count h) → tidy_count h ≤ segment_cells * count_below h.segments (λ g. is_listed h g && not (eqb (f g) g))
  unfolding tidy_count
  tidy-least f into = omega (
    arith,
    count-mono n (is_high h) (λ g. is_listed h g && not (eqb (f g) g)) (λ g l t.
        let a = and_first (is_listed h g) (leb H g) t in
        let b = leb→le H g (and_second (is_listed h g) (leb H g) t) in
        let c = into g a in
        and_intro (is_listed h g) (not (eqb (f g) g)) a (rw (eqb-ne (f g) g (λ e. omega arith)) tt)),
  )
