-- "No two records of one owner have one name; no two public records have one name.": the test of the cells t gives the two rules.
-- Assumes nothing.
use Rattle.std.specs.Prelude.{ℕ, ◌≤◌, ◌<◌, ◌≡◌, refl, ◌≢◌, ◌⊎◌, Bool, ◌&&◌, ◌||◌, List, map, T, eqb, get_or}
use Rattle.std.proofs.Common.{arith, sym, ◌∙◌, subst, inl, inr, ⊎_elim, eqb→eq, eq-eqb}
use Rattle.std.proofs.Math.Bool.{true, not}
use Rattle.std.proofs.Math.Option.{none}
use Rattle.std.proofs.lemmas.Bool.{not-true}
use Rattle.combine.specs.Laws.Numbers.{less-or-more}
use Rattle.combine.specs.Below.{all_below}
use Rattle.combine.specs.Laws.Below.{all-at, not-both, both, or_left, or_right}
use Rattle.combine.specs.Laws.Rows.{each_of}
use Rattle.combine.specs.Lists.{same}
use Rattle.combine.specs.Laws.Same.{same_true, true_same}
use Rattle.placing.specs.Sizes.{places}
use Rattle.rules.specs.Headings.{Heading, head_of, passes}
use Rattle.rules.specs.Rules.{is_own, is_public}
use Rattle.segments.specs.Free.{SegmentRecord}
use Rattle.segments.specs.Laws.Sound.{Single}
use Rattle.tables.specs.declared.Record.{Record}
use Rattle.tables.specs.Layout.{record_at}
use Rattle.tables.specs.Fields.{is_used}
use Rattle.tables.specs.Handles.{heading_of}
use Rattle.tables.specs.Records.{clash, no_clashb, recordsb}
use Rattle.cells.specs.Says.{house_of}
use Rattle.combine.specs.Laws.Tests.{true_of, and_first, and_second}
use Rattle.proof_cells_agree.specs.Lists.{passing-at}
use Rattle.proof_cells_agree.specs.Rows.{enough, ◌also◌, row}
use Rattle.proof_cells_agree.specs.There.{record-there}
use Rattle.proof_cells_agree.specs.Records.{private-bit, record-ok}

-- of one owner, or both public
abbrev Rivals : Record → Record → Type 0
Rivals r q = (r.owner ≡ q.owner) ⊎ ((r.private ≡ 0) × (q.private ≡ 0))

clash-of : (r q : Record) → is_used q ≡ true → r.name ≡ q.name → Rivals r q → clash r q ≡ true
unfolding clash
clash-of r q u e w = row _ (u also true_same r.name q.name e also rivals w also enough)
  where
    rivals : Rivals r q → (eqb r.owner q.owner || (eqb r.private 0 && eqb q.private 0)) ≡ true
    rivals (inl o) = or_left (eqb r.owner q.owner) _ (eq-eqb r.owner q.owner o)
    rivals (inr p) = or_right (eqb r.owner q.owner) _ (both (eq-eqb r.private 0 p.0) (eq-eqb q.private 0 p.1))

-- a place whose heading passes a test
record Passing (t : List ℕ) (f : Heading → Bool) (p : ℕ) : Type 0 where
  below : p < places
  used : is_used (record_at t p) ≡ true
  passed : T (f (heading_of (record_at t p)))

passing : (t : List ℕ) (f : Heading → Bool) (p : ℕ) → T (passes f (get_or (map head_of (house_of t).records) p none)) → Passing t f p
passing t f p h =
    let w = passing-at f (λ (r : SegmentRecord). r.head) head_of refl (λ r. refl) (house_of t).records p h in
    let there = record-there t p w.0 w.1 in
    record { below = there.below; used = there.used; passed = subst (λ (r : SegmentRecord). T (f r.head)) (sym there.same) w.2 }

module _ (t : List ℕ) (n : ℕ) (ok : recordsb t n ≡ true) where
  alone-ok : (p : ℕ) → p < places → no_clashb t p ≡ true
  unfolding recordsb
  alone-ok p l = all-at _ places (each_of _ ok).1.0 p l

  -- q stands before p
  earlier : (p q : ℕ) → p < places → q < p → is_used (record_at t p) ≡ true → clash (record_at t p) (record_at t q) ≡ true → ⊥
  unfolding no_clashb
  earlier p q l before u c =
      let a : all_below p (λ q. not (clash (record_at t p) (record_at t q))) ≡ true = rw u at (alone-ok p l) in
      not-both c (not-true (clash (record_at t p) (record_at t q)) (all-at _ p a q before))

  -- two places whose headings pass f, where f wants the name m
  one_name : (f : Heading → Bool) (m : List ℕ) (p q : ℕ) → Passing t f p → Passing t f q → ((r : Record) → T (f (heading_of r)) → T (same r.name m))
      → Rivals (record_at t p) (record_at t q) → p ≢ q → ⊥
  one_name f m p q a b named w d =
      let r = record_at t p in
      let r' = record_at t q in
      ⊎_elim
      (λ before. earlier q p b.below before b.used (clash-of r' r a.used (name_of r' b.passed ∙ sym (name_of r a.passed)) (turned w)))
      (λ before. earlier p q a.below before a.used (clash-of r r' b.used (name_of r a.passed ∙ sym (name_of r' b.passed)) w))
      (less-or-more p q d)
    where
      name_of : (r : Record) → T (f (heading_of r)) → r.name ≡ m
      name_of r k = same_true r.name m (true_of (same r.name m) (named r k))

      turned : Rivals (record_at t p) (record_at t q) → Rivals (record_at t q) (record_at t p)
      turned (inl o) = inl (sym o)
      turned (inr v) = inr (v.1, v.0)

  pub own-names : (u : ℕ) (m : List ℕ) → Single (passes (is_own u m)) (map head_of (house_of t).records)
  own-names u m p q d hp hq =
      let a = passing t (is_own u m) p hp in
      let b = passing t (is_own u m) q hq in
      one_name (is_own u m) m p q a b (λ r k. and_second (eqb r.owner u) (same r.name m) k)
      (inl (owned (record_at t p) a.passed ∙ sym (owned (record_at t q) b.passed))) d
    where
      owned : (r : Record) → T (is_own u m (heading_of r)) → r.owner ≡ u
      owned r k = eqb→eq r.owner u (and_first (eqb r.owner u) (same r.name m) k)

  pub public-names : (m : List ℕ) → Single (passes (is_public m)) (map head_of (house_of t).records)
  public-names m p q d hp hq =
      let a = passing t (is_public m) p hp in
      let b = passing t (is_public m) q hq in
      one_name (is_public m) m p q a b (λ r k. and_second (not (eqb r.private 1)) (same r.name m) k) (inr (is-public p a, is-public q b)) d
    where
      zero_of : (v : ℕ) → v ≤ 1 → T (not (eqb v 1)) → v ≡ 0
      zero_of v h k = let d : v ≢ 1 = (λ e. absurd (rw (eq-eqb v 1 e) at k)) in omega (arith, d)

      is-public : (p : ℕ) → Passing t (is_public m) p → (record_at t p).private ≡ 0
      is-public p a =
          let r = record_at t p in
          zero_of r.private (private-bit n r (record-ok t n ok p a.below) a.used) (and_first (not (eqb r.private 1)) (same r.name m) a.passed)
