-- Moves that can be carried out in a house of records and openings: they are an exchange of its numbers, and carry the cells of what is listed.
-- Assumes nothing.
use Rattle.std.specs.Prelude.{ℕ, ◌+◌, ◌*◌, ◌≤◌, ◌<◌, ◌≡◌, Bool, not, ◌&&◌, List, T, length, get_or}
use Rattle.std.proofs.Common.{sym, subst, ltb→lt}
use Rattle.std.proofs.Math.Dec.{T_not, not_T, ltb}
use Rattle.combine.specs.Lists.{is_in}
use Rattle.combine.specs.Laws.Pairs.{froms, tos, all, none_twice}
use Rattle.combine.specs.Laws.Tests.{by-test, and_first, and_second}
use Rattle.placing.specs.Sizes.{segment_cells}
use Rattle.segments.specs.Free.{SegmentHouse, is_free}
use Rattle.segments.specs.Moves.{exchange, moved_cells, is_listed}
use Rattle.proof_moves.specs.Exchange.{exchange-back, all_in, all-less, exchange-out, from_goes, to-goes}
use Rattle.proof_moves.specs.Carried.{moved-cells}

-- free, of the segments that there are
unfoldable pub is_vacant : SegmentHouse → ℕ → Bool
is_vacant h g = ltb g h.segments && is_free h g

-- moves that can be carried out: every from is listed, every to is free, no number occurs twice
pub record Moves (h : SegmentHouse) (l : List ℕ) : Type 0 where
  pub listed : T (all (is_listed h) (froms l))
  pub free : T (all (is_vacant h) (tos l))
  pub once : T (none_twice l)

-- two numbers at most change places: what goes to g was where g goes
pub record Exchange (n : ℕ) (f : ℕ → ℕ) : Type 0 where
  pub back : (g : ℕ) → f (f g) ≡ g
  pub range : (g : ℕ) → g < n → f g < n

-- the cells of each listed segment are in the one that it goes to
abbrev pub Carries : (ℕ → ℕ) → SegmentHouse → List ℕ → List ℕ → Type 0
Carries f h s s' = (g : ℕ) → T (not (is_free h g)) → (c : ℕ) → c < segment_cells → get_or s' (f g * segment_cells + c) 0 ≡ get_or s (g * segment_cells + c) 0

-- ---- moves of a house

module _ (h : SegmentHouse) (l : List ℕ) (m : Moves h l) where
  pub froms-inside : T (all (λ g. ltb g h.segments) (froms l))
  unfolding is_listed
  froms-inside = all-less (is_listed h) (λ g. ltb g h.segments) (froms l) (λ g t. and_first (ltb g h.segments) (not (is_free h g)) t) m.listed

  pub tos-inside : T (all (λ g. ltb g h.segments) (tos l))
  unfolding is_vacant
  tos-inside = all-less (is_vacant h) (λ g. ltb g h.segments) (tos l) (λ g t. and_first (ltb g h.segments) (is_free h g) t) m.free

  -- a listed segment is no to
  pub listed-no-to : (g : ℕ) → T (not (is_free h g)) → T (not (is_in g (tos l)))
  unfolding is_vacant
  listed-no-to g n = not_T (is_in g (tos l)) (λ t. T_not (is_free h g) n (and_second (ltb g h.segments) (is_free h g) (all_in (is_vacant h) (tos l) g m.free t)))

  stays-below : (g : ℕ) → g < h.segments → exchange l g < h.segments
  stays-below g lg = by-test (is_in g (froms l))
      (λ t. ltb→lt (exchange l g) h.segments (all_in (λ k. ltb k h.segments) (tos l) (exchange l g) tos-inside (from_goes l g m.once t)))
      (λ t. by-test (is_in g (tos l))
      (λ r. ltb→lt (exchange l g) h.segments (all_in (λ k. ltb k h.segments) (froms l) (exchange l g) froms-inside (to-goes l g m.once r)))
      (λ r. subst (λ (k : ℕ). k < h.segments) (sym (exchange-out l g t r)) lg))

  pub moves-exchange : Exchange h.segments (exchange l)
  moves-exchange = record { back = exchange-back l m.once; range = stays-below }

  pub moves-carry : (s : List ℕ) → segment_cells * h.segments ≤ length s → Carries (exchange l) h s (moved_cells s l)
  moves-carry s fits g n c lc = moved-cells h.segments s l fits froms-inside tos-inside m.once g (listed-no-to g n) c lc
