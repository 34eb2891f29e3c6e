-- Tables whose records have other numbers, with nothing open: what they say, and that they are what is written for it. Assumes nothing.
use Prim.Native.Nat.{ℕ, zero, suc, ◌≤◌, ◌<◌}
use Rattle.std.proofs.Common.{arith, not-suc-le-zero, eq-or-lt_of_le, le_of_suc-le-suc, ◌∙◌, subst, ⊎_elim}
use Rattle.std.specs.Prelude.{◌≡◌, ◌⊎◌, false, not, T, length}
use Rattle.std.proofs.Math.Path.{refl, sym, ap}
use Rattle.std.proofs.Math.Option.{Option, none, some}
use mathlib.Core.List.{List, map}
use Rattle.std.proofs.lemmas.List.{length-map}
use Rattle.combine.specs.Lists.{tab}
use Rattle.combine.specs.Laws.Lists.{tab-cong}
use Rattle.combine.specs.Laws.Searches.{map-tab}
use Rattle.combine.specs.Laws.Sums.{not-any}
use Rattle.placing.specs.Sizes.{places, entries, tables_length}
use Rattle.rules.specs.Headings.{is_some}
use Rattle.rules.specs.House.{house, has_open}
use Rattle.segments.specs.Free.{SegmentRecord, SegmentOpening}
use Rattle.segments.specs.Moves.{renumbered_record}
use Rattle.segments.specs.Laws.Sound.{SoundPlace}
use Rattle.tables.specs.declared.Record.{Record}
use Rattle.tables.specs.declared.Opening.{Opening}
use Rattle.tables.specs.Layout.{segments_in, record_at, opening_at}
use Rattle.tables.specs.Laws.Again.{ShapedRecord}
use Rattle.tables.specs.Laws.Put.{length-put-record, record-put, record-other, opening-kept, segments-kept}
use Rattle.cells.specs.Says.{decoded_record, decoded_opening, house_of, as_record, as_opening}
use Rattle.cells.specs.Moved.{renumbered_at, renumbered_first}
use Rattle.cells.specs.Laws.Written.{FitsPlace, shaped-place, said-place}
use Rattle.proof_cells_agree.specs.There.{opening-at}
use Rattle.proof_cells_agree.specs.Canonical.{Canonical}
use Rattle.proof_moves.specs.Renumbered.{renumbered_opening, renumbered}

-- ---- tables of which the first k records have other numbers

fits-renumbered : (f : ℕ → ℕ) (y : Option SegmentRecord) → FitsPlace y → FitsPlace (renumbered_record f y)
fits-renumbered f none w = tt
fits-renumbered f (some r) w =
    let e = length-map r.content f in
    record { name12 = w.name12; each = e ∙ w.each; few = omega (arith, e, w.few) }

pub place-fits : (n : ℕ) (y : Option SegmentRecord) → SoundPlace n y → FitsPlace y
place-fits n none s = tt
place-fits n (some r) s = record { name12 = s.twelve; each = s.file.each; few = omega (arith, s.file.each, s.file.few) }

pub record Renumbered (f : ℕ → ℕ) (k : ℕ) (t u : List ℕ) : Type 0 where
  pub long : length u ≡ tables_length
  pub number : segments_in u ≡ segments_in t
  pub below : (q : ℕ) → q < k → record_at u q ≡ as_record (renumbered_record f (decoded_record (record_at t q)))
  pub above : (q : ℕ) → k ≤ q → q < places → record_at u q ≡ record_at t q
  pub openings : (i : ℕ) → i < entries → opening_at u i ≡ opening_at t i

module _ (f : ℕ → ℕ) (t : List ℕ) (long : length t ≡ tables_length) (fits : (p : ℕ) → p < places → FitsPlace (decoded_record (record_at t p))) where
  one_more : (k : ℕ) (u : List ℕ) → k < places → Renumbered f k t u → Renumbered f (suc k) t (renumbered_at f k u)
  one_more k u lk w =
      let y = renumbered_record f (decoded_record (record_at u k)) in
      let same : record_at u k ≡ record_at t k = w.above k (omega arith) lk in
      let fit : FitsPlace y = fits-renumbered f (decoded_record (record_at u k)) (subst (λ (r : Record). FitsPlace (decoded_record r)) (sym same) (fits k lk)) in
      let s = shaped-place y fit in
      record {
        long = length-put-record u w.long k (as_record y) lk s ∙ w.long;
        number = segments-kept u w.long k (as_record y) lk s ∙ w.number;
        below = λ q lq. at q lq s (eq-or-lt_of_le (le_of_suc-le-suc lq));
        above = λ q a b. record-other u w.long k (as_record y) lk s q b (λ e. omega arith) ∙ w.above q (omega arith) b;
        openings = λ i li. opening-kept u w.long k (as_record y) lk s i li ∙ w.openings i li;
      }
    where
      at : (q : ℕ) → q < suc k → ShapedRecord (as_record (renumbered_record f (decoded_record (record_at u k)))) → ((q ≡ k) ⊎ (q < k))
          → record_at (renumbered_at f k u) q ≡ as_record (renumbered_record f (decoded_record (record_at t q)))
      at q lq s c = ⊎_elim
          (λ (e : q ≡ k).
          ap (record_at (renumbered_at f k u)) e ∙ record-put u w.long k (as_record (renumbered_record f (decoded_record (record_at u k)))) lk s
          ∙ ap (λ (r : Record). as_record (renumbered_record f (decoded_record r))) (w.above k (omega arith) lk ∙ ap (record_at t) (sym e)))
          (λ (l : q < k).
          record-other u w.long k (as_record (renumbered_record f (decoded_record (record_at u k)))) lk s q (omega arith) (λ e. omega arith) ∙ w.below q l)
          c

  pub renumbered-first : (k : ℕ) → k ≤ places → Renumbered f k t (renumbered_first f k t)
  unfolding renumbered_first
  renumbered-first zero h = record { long = long; number = refl; below = λ q l. absurd (not-suc-le-zero l); above = λ q a b. refl; openings = λ i l. refl }
  renumbered-first (suc k) h = one_more k (renumbered_first f k t) h (renumbered-first k (omega arith))

-- ---- what the tables say afterwards

nobody : (x : Option SegmentOpening) → T (not (is_some x)) → (f : ℕ → ℕ) → renumbered_opening f x ≡ x
nobody none t f = refl
nobody (some x) t f = absurd t

module _ (f : ℕ → ℕ) (t u : List ℕ) (w : Renumbered f places t u) (fits : (p : ℕ) → p < places → FitsPlace (decoded_record (record_at t p))) (still : has_open (house_of t) ≡ false) where
  quiet : (i : ℕ) → i < entries → T (not (is_some (decoded_opening (opening_at t i))))
  quiet i l = subst (λ (x : Option SegmentOpening). T (not (is_some x))) (opening-at t i l) (not-any is_some (house_of t).openings i none tt (rw still tt))

  pub renumbered-says : house_of u ≡ renumbered f (house_of t)
  unfolding house_of
  renumbered-says = λ i. house (w.number i) (records i) (openings i)
    where
      records : tab 64 (λ p. decoded_record (record_at u p)) ≡ map (renumbered_record f) (tab 64 (λ p. decoded_record (record_at t p)))
      records =
          tab-cong 64 (λ p. renumbered_record f (decoded_record (record_at t p))) (λ p. decoded_record (record_at u p))
          (λ p l. ap decoded_record (w.below p l) ∙ said-place (renumbered_record f (decoded_record (record_at t p))) (fits-renumbered f (decoded_record (record_at t p)) (fits p l)))
          ∙ sym (map-tab (renumbered_record f) 64 (λ p. decoded_record (record_at t p)))

      openings : tab 32 (λ i. decoded_opening (opening_at u i)) ≡ map (renumbered_opening f) (tab 32 (λ i. decoded_opening (opening_at t i)))
      openings =
          tab-cong 32 (λ i. renumbered_opening f (decoded_opening (opening_at t i))) (λ i. decoded_opening (opening_at u i))
          (λ i l. ap decoded_opening (w.openings i l) ∙ sym (nobody (decoded_opening (opening_at t i)) (quiet i l) f))
          ∙ sym (map-tab (renumbered_opening f) 32 (λ i. decoded_opening (opening_at t i)))

  pub renumbered-canonical : Canonical t → Canonical u
  renumbered-canonical c =
      record {
        records = λ p l.
            let y = renumbered_record f (decoded_record (record_at t p)) in
            subst (λ (r : Record). as_record (decoded_record r) ≡ r) (sym (w.below p l)) (ap as_record (said-place y (fits-renumbered f (decoded_record (record_at t p)) (fits p l))));
        openings = λ i l. subst (λ (o : Opening). as_opening (decoded_opening o) ≡ o) (sym (w.openings i l)) (c.openings i l);
      }
