-- What a search through the lists rests on: each list of tables whose records and openings are sound is in range. Assumes nothing.
use Rattle.std.specs.Prelude.{ℕ, ◌+◌, ◌-◌, ◌≤◌, ◌<◌, ◌≡◌, ◌≢◌, List, get_or}
use Rattle.std.proofs.Common.{sym, subst, ◌∙◌, ⊎_elim, arith}
use Rattle.combine.specs.Laws.Numbers.{le-or-lt, eq-or-ne}
use Rattle.placing.specs.Sizes.{places, entries, most_held, lists}
use Rattle.tables.specs.Layout.{record_base, opening_base, segments_in, record_at, opening_at}
use Rattle.tables.specs.Lists.{held_in, listed, family_of}
use Rattle.tables.specs.Laws.Sound.{Ranged}
use Rattle.tables.specs.Laws.RecordFacts.{SoundRecord, record-holds, record-not-unused}
use Rattle.tables.specs.Laws.OpeningFacts.{SoundOpening, opening-holds, opening-not-closed, closed-place}
use Rattle.sound_lists.specs.FieldCells.{used-cell, opened-cell}
use Rattle.sound_lists.specs.ListCells as list

pub record ListFacts (t : List ℕ) (i : ℕ) : Type 0 where
  -- "A file holds at most 32 segments."
  pub held : held_in t i ≤ most_held
  -- "all places and segment numbers are in range"
  pub number : (k : ℕ) → k < held_in t i → listed t i k < segments_in t
  pub family : family_of t i < lists

-- a list that holds nothing
none-held : (t : List ℕ) (i : ℕ) → held_in t i ≡ 0 → family_of t i < lists → ListFacts t i
none-held t i z f =
    record { held = omega arith; number = λ k l. absurd (let y : ⊥ = omega arith in y); family = f }

module _ (t : List ℕ) (ok : Ranged t) where
  -- a record and an opening that are not unused, by their first cells
  pub record-at : (p : ℕ) → p < places → get_or t (record_base p) 0 ≢ 0 → SoundRecord (segments_in t) (record_at t p)
  record-at p lp d = record-not-unused t (segments_in t) ok.1 p lp (λ z. d (sym (used-cell t p) ∙ z))

  pub opening-at : (j : ℕ) → j < entries → get_or t (opening_base j) 0 ≢ 0 → SoundOpening t j (opening_at t j)
  opening-at j lj d = opening-not-closed t ok.2 j lj (λ z. d (sym (opened-cell t j) ∙ z))

  record-list : (p : ℕ) → p < places → get_or t (record_base p) 0 ≢ 0 → ListFacts t p
  record-list p lp d =
      let f = record-at p lp d in
      let h = list.record-held t p lp ∙ record-holds f in
      record {
        held = omega (arith, f.extent.held);
        number = λ k l. let m = f.list.in_range k (omega arith) in omega (arith, list.record-number t p lp k);
        family = omega (arith, list.record-family t p lp);
      }

  opening-list : (j : ℕ) → j < entries → get_or t (opening_base j) 0 ≢ 0 → ListFacts t (64 + j)
  opening-list j lj d =
      let f = opening-at j lj d in
      let h = list.opening-held t j ∙ opening-holds f in
      record {
        held = omega (arith, f.extent.held);
        number = λ k l. let m = f.list.in_range k (omega arith) in omega (arith, list.opening-number t j k);
        family =
            ⊎_elim (λ z. omega (arith, list.opening-family-none t j z)) (λ n. omega (arith, list.opening-family-some t j n, f.place)) (eq-or-ne (opening_at t j).place 0);
      }

  record-facts-at : (p : ℕ) → p < places → ListFacts t p
  record-facts-at p lp =
      ⊎_elim (λ z. none-held t p (list.record-held-unused t p lp z) (omega (arith, list.record-family t p lp))) (record-list p lp) (eq-or-ne (get_or t (record_base p) 0) 0)

  opening-facts-at : (j : ℕ) → j < entries → ListFacts t (64 + j)
  opening-facts-at j lj = ⊎_elim closed (opening-list j lj) (eq-or-ne (get_or t (opening_base j) 0) 0)
    where
      closed : get_or t (opening_base j) 0 ≡ 0 → ListFacts t (64 + j)
      closed z =
          none-held t (64 + j) (list.opening-held-closed t j z) (omega (arith, list.opening-family-none t j (closed-place t ok.2 j lj (opened-cell t j ∙ z))))

  pub list-facts : (i : ℕ) → i < lists → ListFacts t i
  list-facts i li =
      ⊎_elim
      (λ h. let e : 64 + (i - 64) ≡ i = omega arith in subst (λ (x : ℕ). ListFacts t x) e (opening-facts-at (i - 64) (omega arith)))
      (record-facts-at i)
      (le-or-lt 64 i)
