-- The lists of tables that are closed down: the records' stay, and there are no others. Assumes nothing.
use Rattle.std.specs.Prelude.{ℕ, ◌+◌, ◌-◌, ◌≤◌, ◌<◌, ◌≡◌, List, length}
use Rattle.std.proofs.Math.Path.{refl}
use Rattle.std.proofs.Common.{sym, ap, ◌∙◌, ⊎_elim, arith, lt-ltb, le-ltb}
use Rattle.combine.specs.Laws.Numbers.{le-or-lt}
use Rattle.placing.specs.Placing.{stretch_of}
use Rattle.placing.specs.Sizes.{tables_length, lists}
use Rattle.tables.specs.declared.Record.{Record}
use Rattle.tables.specs.Layout.{record_at, closed_opening}
use Rattle.tables.specs.Fields.{held_by_record, held_by_opening, number_at}
use Rattle.tables.specs.Lists.{held_in, listed, stretch_in, family_of}
use Rattle.tables.specs.Laws.Lists.{Distinct}
use Rattle.proof_images.specs.Closed.{closed, record-kept, opening-cleared}

module _ (t : List ℕ) (long : length t ≡ tables_length) where
  module _ (i : ℕ) (li : i < 64) where
    same : record_at (closed t) i ≡ record_at t i
    same = record-kept t long i li

    held_kept : held_in (closed t) i ≡ held_in t i
    unfolding held_in
    held_kept = rw (lt-ltb i 64 li) (ap held_by_record same)

    listed_kept : (k : ℕ) → listed (closed t) i k ≡ listed t i k
    unfolding listed
    listed_kept k = rw (lt-ltb i 64 li) (ap (λ (r : Record). number_at r.segments k) same)

    stretch-kept : (k : ℕ) → stretch_in (closed t) i k ≡ stretch_in t i k
    unfolding stretch_in
    stretch-kept k = rw (lt-ltb i 64 li) (ap (λ (r : Record). stretch_of r.species r.begin.0 + k) same)

    family-kept : family_of (closed t) i ≡ family_of t i
    unfolding family_of
    family-kept = rw (lt-ltb i 64 li) refl

  none-held : (i : ℕ) → 64 ≤ i → i < lists → held_in (closed t) i ≡ 0
  unfolding held_in held_by_opening closed_opening
  none-held i li l = rw (le-ltb i 64 li) (ap held_by_opening (opening-cleared t long (i - 64) (omega arith)))

  -- a list that holds a segment is a record's
  of-record : (i k : ℕ) → i < lists → k < held_in (closed t) i → i < 64
  of-record i k l h = ⊎_elim (λ p. absurd (let z : ⊥ = omega (arith, none-held i p l) in z)) (λ q. q) (le-or-lt 64 i)

  pub closed-distinct : Distinct t lists → Distinct (closed t) lists
  closed-distinct d i k j l a b c e q =
      let x = of-record i k a b in
      let y = of-record j l c e in
      let f = d i k j l a (omega (arith, held_kept i x)) c (omega (arith, held_kept j y)) (sym (listed_kept i x k) ∙ q ∙ listed_kept j y l) in
      (family-kept i x ∙ f.0 ∙ sym (family-kept j y), stretch-kept i x k ∙ f.1 ∙ sym (stretch-kept j y l))
