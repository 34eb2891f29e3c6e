-- Where document 01's words hold, each segment is listed at most once, by counting. Assumes nothing.
use Rattle.std.specs.Prelude.{ℕ, ◌≤◌, ◌<◌, ◌≡◌, refl, Bool, true, false, not, cond, List, T, get_or}
use Rattle.std.proofs.Common.{arith, sym, ap, ◌∙◌, subst, ⊎_elim, T_not}
use Rattle.std.proofs.Math.Option.{Option, none, some}
use Rattle.std.proofs.Math.Dec.{not_T}
use Rattle.combine.specs.Laws.Numbers.{le-or-lt}
use Rattle.combine.specs.Lists.{total, is_in}
use Rattle.segments.specs.Free.{SegmentRecord, SegmentOpening, SegmentHouse, record_segments, place_segments}
use Rattle.segments.specs.Laws.Sound.{times, times_in_record, times_in_opening, mentions}
use Rattle.combine.specs.Laws.Tests.{by-test, true_of, false_of}
use Rattle.proof_requests_sound.specs.Counts.{times_none}
use Rattle.combine.specs.Laws.Each.{total-zero, total-one}
use Rattle.proof_cells_agree.specs.Lists.{times-one}
use Rattle.proof_cells_agree.specs.Wording.{Lists, lists-where, Apart}

times-where : (g : ℕ) (l : List ℕ) → 1 ≤ times g l → (k : ℕ) × Lists l k g
times-where g l h = by-test (is_in g l) (λ t. lists-where g l t) (λ t. absurd (omega (arith, times_none g l t)))

module _ (h : SegmentHouse) (a : Apart h) (g : ℕ) where
  abbrev counts : Option SegmentOpening → ℕ
  counts x = times_in_opening h.records g x

  record-one : (x : Option SegmentRecord) (p : ℕ) → get_or h.records p none ≡ x → times_in_record g x ≤ 1
  record-one none p e = omega arith
  record-one (some r) p e = times-one g r.content (λ j k jl kl ej ek. (a.records g p p j k r r e e (jl, ej) (kl, ek)).1)

  records-apart : (x y : Option SegmentRecord) (p q : ℕ) → get_or h.records p none ≡ x → get_or h.records q none ≡ y
      → 1 ≤ times_in_record g x → 1 ≤ times_in_record g y → p ≡ q
  records-apart none y p q e f m n = absurd (omega arith)
  records-apart (some r) none p q e f m n = absurd (omega arith)
  records-apart (some r) (some r') p q e f m n =
      let v = times-where g r.content m in
      let w = times-where g r'.content n in
      (a.records g p q v.0 w.0 r r' e f v.1 w.1).0

  -- an opening that counts lists it, and no record does
  own-where : (x : SegmentOpening) (i : ℕ) → get_or h.openings i none ≡ some x → 1 ≤ counts (some x)
      → ((k : ℕ) × Lists x.content k g) × ((p : ℕ) → T (not (is_in g (record_segments (get_or h.records p none)))))
  own-where x i e m = by-test shared
      (λ y. absurd (let m' = rw (true_of shared y) at m in omega arith))
      (λ n. let w = times-where g x.content (rw (false_of shared n) at m) in (w, λ p. away n w p (get_or h.records p none) refl))
    where
      shared : Bool
      shared = is_in g (place_segments h.records x.handle.place)

      away : T (not shared) → ((k : ℕ) × Lists x.content k g) → (p : ℕ) (y : Option SegmentRecord) → get_or h.records p none ≡ y → T (not (is_in g (record_segments y)))
      away n w p none q = tt
      away n w p (some r) q = not_T (is_in g r.content) (λ m.
          let v = lists-where g r.content m in
          let ep = (a.mixed g p i v.0 w.0 r x q e v.1 w.1).0 in
          let same-list : place_segments h.records x.handle.place ≡ r.content = ap (place_segments h.records) ep ∙ ap record_segments q in
          T_not shared n (subst (λ (l : List ℕ). T (is_in g l)) (sym same-list) m))

  opening-one : (x : Option SegmentOpening) (i : ℕ) → get_or h.openings i none ≡ x → counts x ≤ 1
  opening-one none i e = omega arith
  opening-one (some x) i e = ⊎_elim
      (λ m. omega arith)
      (λ m. let w = own-where x i e m in less (is_in g (place_segments h.records x.handle.place))
      (times-one g x.content (λ j k jl kl ej ek. (a.openings g i i j k x x e e (jl, ej) (kl, ek) w.1).1)))
      (le-or-lt (counts (some x)) 0)
    where
      less : (b : Bool) → times g x.content ≤ 1 → cond b 0 (times g x.content) ≤ 1
      less true m = omega arith
      less false m = m

  openings-apart : (x y : Option SegmentOpening) (i l : ℕ) → get_or h.openings i none ≡ x → get_or h.openings l none ≡ y → 1 ≤ counts x → 1 ≤ counts y → i ≡ l
  openings-apart none y i l e f m n = absurd (omega arith)
  openings-apart (some x) none i l e f m n = absurd (omega arith)
  openings-apart (some x) (some y) i l e f m n =
      let v = own-where x i e m in
      let w = own-where y l f n in
      (a.openings g i l v.0.0 w.0.0 x y e f v.0.1 w.0.1 v.1).0

  no-record : (y : Option SegmentOpening) (i : ℕ) → get_or h.openings i none ≡ y → 1 ≤ counts y → (p : ℕ) → times_in_record g (get_or h.records p none) ≡ 0
  no-record none i e m p = absurd (omega arith)
  no-record (some x) i e m p = times_none g (record_segments (get_or h.records p none)) ((own-where x i e m).1 p)

  pub counted : mentions h g ≤ 1
  counted =
      let of_records = total-one (times_in_record g) h.records none (λ p l. record-one (get_or h.records p none) p refl)
      (λ p q k l. records-apart (get_or h.records p none) (get_or h.records q none) p q refl refl) in
      let of_openings = total-one counts h.openings none (λ i l. opening-one (get_or h.openings i none) i refl)
      (λ i j k l. openings-apart (get_or h.openings i none) (get_or h.openings j none) i j refl refl) in
      ⊎_elim (λ m. omega arith) (λ m. omega (arith, total-zero counts h.openings none (λ i l. no-opening m i))) (le-or-lt (total (times_in_record g) h.records) 0)
    where
      no-opening : 0 < total (times_in_record g) h.records → (i : ℕ) → counts (get_or h.openings i none) ≡ 0
      no-opening m i = ⊎_elim
          (λ n. omega arith)
          (λ n. absurd (omega (arith, total-zero (times_in_record g) h.records none (λ p l. no-record (get_or h.openings i none) i refl n p))))
          (le-or-lt (counts (get_or h.openings i none)) 0)
