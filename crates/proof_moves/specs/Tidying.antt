-- "move segments so that the H listed ones are numbered 0 to H-1": as many go as can be taken, and the moves can be carried out. Assumes nothing.
use Rattle.std.specs.Prelude.{ℕ, ◌+◌, ◌*◌, ◌≤◌, ◌<◌, ◌≡◌, Bool, not, ◌&&◌, T, leb, get_or}
use Rattle.std.proofs.Common.{arith, ◌∙◌, subst, ⊎_elim}
use Rattle.std.proofs.Math.Path.{refl, sym, ap}
use Rattle.std.proofs.Math.Bool
use Rattle.std.proofs.Math.Bool.{and_comm}
use mathlib.Core.List.{List}
use borrow.Author.Tests.{lt-ltb, le-ltb, le-leb, lt-leb}
use Rattle.std.proofs.Math.Dec.{ltb, T_not, ltb→lt}
use Rattle.std.proofs.Math.ListN.{length}
use Rattle.combine.specs.Below.{count_below, picked}
use Rattle.combine.specs.Lists.{paired}
use Rattle.combine.specs.Laws.Numbers.{le-or-lt}
use Rattle.combine.specs.Laws.Below.{count-le, count-cong}
use Rattle.combine.specs.Laws.Counts.{count-split, count-few}
use Rattle.combine.specs.Laws.Pairs.{froms, tos, even, all, none_twice, even-paired, froms-paired, tos-paired, paired-once}
use Rattle.combine.specs.Laws.Picked.{length-picked, picked-passes, picked-once, picked-cong, picked-below}
use Rattle.combine.specs.Laws.Tests.{not-not, and_first, and_second}
use Rattle.placing.specs.Sizes.{segment_cells}
use Rattle.segments.specs.Free.{SegmentHouse, is_free}
use Rattle.segments.specs.Moves.{is_listed, listed_count, is_high, tidy_moves, tidy_count}
use Rattle.proof_moves.specs.Exchange.{all-by, all-inside}
use Rattle.proof_moves.specs.Moves.{is_vacant, Moves, froms-inside, tos-inside}

-- "the free ones below H"
abbrev pub is_gap : SegmentHouse → ℕ → Bool
is_gap h g = is_vacant h g && ltb g (listed_count h)

-- ---- as many go as there are gaps

not-less : (a b : ℕ) → not (ltb a b) ≡ leb b a
not-less a b = ⊎_elim (λ p. rw (le-ltb a b p, le-leb b a p) refl) (λ p. rw (lt-ltb a b p, lt-leb b a p) refl) (le-or-lt b a)

module _ (h : SegmentHouse) where
  abbrev n : ℕ
  n = h.segments

  abbrev H : ℕ
  H = listed_count h

  pub listed-few : listed_count h ≤ h.segments
  unfolding listed_count
  listed-few = count-le (is_listed h) n

  counted : count_below h.segments (is_listed h) ≡ listed_count h
  unfolding listed_count
  counted = refl

  gap-unlisted : (g : ℕ) → g < h.segments → (ltb g (listed_count h) && not (is_listed h g)) ≡ is_gap h g
  unfolding is_listed is_vacant
  gap-unlisted g l = rw (lt-ltb g n l) (ap (λ (b : Bool). ltb g H && b) (Bool.not-not (is_free h g)) ∙ and_comm (ltb g H) (is_free h g))

  pub as_many : count_below h.segments (is_high h) ≡ count_below h.segments (is_gap h)
  as_many =
      let low : ℕ → Bool = λ g. ltb g H in
      let a : count_below n (λ g. is_listed h g && low g) + count_below n (λ g. is_listed h g && not (low g)) ≡ count_below n (is_listed h) = count-split n (is_listed h) low in
      let b : count_below n (λ g. low g && is_listed h g) + count_below n (λ g. low g && not (is_listed h g)) ≡ count_below n low = count-split n low (is_listed h) in
      let c : count_below n low ≡ H = count-few n H listed-few in
      let d : count_below n (λ g. is_listed h g && low g) ≡ count_below n (λ g. low g && is_listed h g) =
      count-cong (λ g. is_listed h g && low g) (λ g. low g && is_listed h g) n (λ g l. and_comm (is_listed h g) (low g)) in
      let e : count_below n (λ g. is_listed h g && not (low g)) ≡ count_below n (is_high h) =
      count-cong (λ g. is_listed h g && not (low g)) (is_high h) n (λ g l. ap (λ (x : Bool). is_listed h g && x) (not-less g H)) in
      let k : count_below n (λ g. low g && not (is_listed h g)) ≡ count_below n (is_gap h) = count-cong (λ g. low g && not (is_listed h g)) (is_gap h) n gap-unlisted in
      omega (arith, a, b, c, d, e, k, counted)

  equal-lengths : length (picked h.segments (is_high h)) ≡ length (picked h.segments (is_gap h))
  equal-lengths = length-picked n (is_high h) ∙ as_many ∙ sym (length-picked n (is_gap h))

  pub tidy-pairs : tidy_moves h ≡ paired (picked h.segments (is_high h)) (picked h.segments (is_gap h))
  unfolding tidy_moves is_vacant
  tidy-pairs =
      ap (paired (picked n (is_high h)))
      (sym (picked-below n H (is_free h) listed-few)
      ∙ picked-cong (λ g. is_free h g && ltb g H) (is_gap h) n (λ g l. sym (ap (λ (b : Bool). (b && is_free h g) && ltb g H) (lt-ltb g n l))))

  pub tidy-froms : froms (tidy_moves h) ≡ picked h.segments (is_high h)
  tidy-froms = ap froms tidy-pairs ∙ froms-paired (picked n (is_high h)) (picked n (is_gap h)) (omega (arith, equal-lengths))

  pub tidy-tos : tos (tidy_moves h) ≡ picked h.segments (is_gap h)
  tidy-tos = ap tos tidy-pairs ∙ tos-paired (picked n (is_high h)) (picked n (is_gap h)) (omega (arith, equal-lengths))

  -- so many segments are copied
  pub tidy-copies : segment_cells * length (froms (tidy_moves h)) ≡ tidy_count h
  unfolding tidy_count
  tidy-copies = ap (λ (l : List ℕ). segment_cells * length l) tidy-froms ∙ ap (λ (k : ℕ). segment_cells * k) (length-picked n (is_high h))

  -- ---- they can be carried out

  pub never_both : (g : ℕ) → T (is_listed h g) → T (is_vacant h g) → ⊥
  unfolding is_listed is_vacant
  never_both g a b = T_not (is_free h g) (and_second (ltb g n) (not (is_free h g)) a) (and_second (ltb g n) (is_free h g) b)

  pub listed_below : (g : ℕ) → T (is_listed h g) → g < h.segments
  unfolding is_listed
  listed_below g t = ltb→lt g n (and_first (ltb g n) (not (is_free h g)) t)

  pub vacant-below : (g : ℕ) → T (is_vacant h g) → g < h.segments
  unfolding is_vacant
  vacant-below g t = ltb→lt g n (and_first (ltb g n) (is_free h g) t)

  pub unlisted-vacant : (g : ℕ) → g < h.segments → T (not (is_listed h g)) → T (is_vacant h g)
  unfolding is_listed is_vacant
  unlisted-vacant g l t = let e = lt-ltb g n l in rw e (not-not (is_free h g) (rw e at t))

  tidy-even : T (even (tidy_moves h))
  tidy-even = subst (λ (l : List ℕ). T (even l)) (sym tidy-pairs) (even-paired (picked n (is_high h)) (picked n (is_gap h)))

  tidy-once : T (none_twice (tidy_moves h))
  tidy-once = subst (λ (l : List ℕ). T (none_twice l)) (sym tidy-pairs)
      (paired-once (picked n (is_high h)) (picked n (is_gap h)) (picked-once n (is_high h)) (picked-once n (is_gap h)) (λ g a b.
      never_both g (and_first (is_listed h g) (leb H g) (picked-passes n (is_high h) g a).1) (and_first (is_vacant h g) (ltb g H) (picked-passes n (is_gap h) g b).1)))

  pub tidy-moves : Moves h (tidy_moves h)
  tidy-moves =
      record {
        listed = subst (λ (l : List ℕ). T (all (is_listed h) l)) (sym tidy-froms) (all-by (is_listed h) (picked n (is_high h)) (λ g t. and_first (is_listed h g) (leb H g) (picked-passes n (is_high h) g t).1));
        free = subst (λ (l : List ℕ). T (all (is_vacant h) l)) (sym tidy-tos) (all-by (is_vacant h) (picked n (is_gap h)) (λ g t. and_first (is_vacant h g) (ltb g H) (picked-passes n (is_gap h) g t).1));
        once = tidy-once;
      }

  pub tidy-inside : (k : ℕ) → k < length (tidy_moves h) → get_or (tidy_moves h) k 0 < h.segments
  tidy-inside = all-inside h.segments (tidy_moves h) tidy-even (froms-inside h (tidy_moves h) tidy-moves) (tos-inside h (tidy_moves h) tidy-moves)
