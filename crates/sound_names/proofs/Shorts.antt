-- What the short keys say: a record clashes with none that they tell it from. Assumes nothing.
use Prim.Native.Nat.{ℕ, ◌+◌, ◌<◌}
use mathlib.Core.Path.{◌≡◌, sym, ap, ◌∙◌}
use mathlib.Core.Logic.{⊎_elim}
use mathlib.Core.Bool.{true, false, not, ◌&&◌, ◌||◌}
use mathlib.Core.List.{List}
use native.Mathlib.Omega.{arith}
use native.Mathlib.Decide.{ℕ_discrete}
use lib.Dec.{eqb, leb}
use lib.ListN.{get_or}
use borrow.Author.Tests.{eq-eqb, ne_eqb, eqb-true, eqb-false, not-true}
use Rattle.combine.specs.Below.{all_below}
use Rattle.combine.specs.Laws.Below.{all-at, all-make, bad-left, bad-right, left-of, right_of, split-bool}
use Rattle.combine.specs.Laws.Rows.{one-bad}
use Rattle.tables.specs.declared.Record.{Record}
use Rattle.tables.specs.Layout.{record_at}
use Rattle.tables.specs.Fields.{is_used}
use Rattle.tables.specs.Records.{clash}
use Rattle.sound_keys.specs.Keys.{key_of, short_of, public_of, newb, apartb}
use Rattle.sound_names.specs.Keys.{Keyed}
use Rattle.sound_clashes.proofs.Names.{keys-differ}

abbrev owned_key : Record → ℕ
owned_key r = short_of (key_of r 0) (key_of r 6) r.owner

abbrev public_key : Record → ℕ
public_key r = public_of (key_of r 0) (key_of r 6) r.private

module _ (r q : Record) (ur : is_used r ≡ true) (uq : is_used q ≡ true) (d : owned_key r ≡ owned_key q → ⊥) (dp : r.private ≡ 0 → public_key r ≡ public_key q → ⊥) where
  -- records of one name: the owners differ, and one of the two is private
  not-kin : key_of r 0 ≡ key_of q 0 → key_of r 6 ≡ key_of q 6 → (eqb r.owner q.owner || (eqb r.private 0 && eqb q.private 0)) ≡ false
  not-kin e f = rw (ne_eqb r.owner q.owner (λ o. d (λ i. short_of (e i) (f i) (o i)))) (⊎_elim one-private (λ n. bad-left _ _ n) (split-bool (eqb r.private 0)))
    where
      one-private : eqb r.private 0 ≡ true → (eqb r.private 0 && eqb q.private 0) ≡ false
      one-private y =
          let n : r.private ≡ 0 = eqb-true r.private 0 y in
          bad-right (eqb r.private 0) (eqb q.private 0) (ne_eqb q.private 0 (λ z. dp n (λ i. public_of (e i) (f i) ((n ∙ sym z) i))))

  other-owner : (eqb r.owner q.owner || (eqb r.private 0 && eqb q.private 0)) ≡ false → false ≡ clash r q
  unfolding clash
  other-owner n = one-bad _ 2 n

  shorts-differ : false ≡ clash r q
  shorts-differ = go (ℕ_discrete (key_of r 0) (key_of q 0)) (ℕ_discrete (key_of r 6) (key_of q 6))
    where
      go : Dec (key_of r 0 ≡ key_of q 0) → Dec (key_of r 6 ≡ key_of q 6) → false ≡ clash r q
      go (yes e) (yes f) = other-owner (not-kin e f)
      go (yes e) (no n) = keys-differ r q ur 6 n
      go (no n) x = keys-differ r q ur 0 n

unused-apart : (r q : Record) → is_used q ≡ false → false ≡ clash r q
unfolding clash
unused-apart r q n = one-bad _ 0 n

-- the key at place p is no key before it
new-at : (l : List ℕ) (p : ℕ) → newb l p ≡ true → (q : ℕ) → q < p → get_or l p 0 ≡ get_or l q 0 → ⊥
unfolding newb
new-at l p e q b = eqb-false (get_or l p 0) (get_or l q 0) (not-true _ (all-at _ p e q b))

both-new : (owned public : List ℕ) (v p : ℕ) → apartb owned public v p ≡ true → (newb owned p ≡ true) × (v ≡ 0 → newb public p ≡ true)
unfolding apartb
both-new owned public v p e =
    let f = right_of (leb 16 p) _ e in
    (left-of _ _ f, λ z. sym (rw (eq-eqb v 0 z)) ∙ right_of (newb owned p) _ f)

-- the short keys tell the record at place p from all before it
pub none-clashes : (t high low owned public : List ℕ) (v p : ℕ) → Keyed t high low owned public (p + 1) → is_used (record_at t p) ≡ true → v ≡ (record_at t p).private → apartb owned public v p ≡ true → all_below p (λ q. not (clash (record_at t p) (record_at t q))) ≡ true
none-clashes t high low owned public v p k u ev e = all-make _ p (λ q l. ap not (sym (⊎_elim (used-before q l) (unused-apart (record_at t p) (record_at t q)) (split-bool (is_used (record_at t q))))))
  where
    new : (newb owned p ≡ true) × (v ≡ 0 → newb public p ≡ true)
    new = both-new owned public v p e

    used-before : (q : ℕ) → q < p → is_used (record_at t q) ≡ true → false ≡ clash (record_at t p) (record_at t q)
    used-before q l uq =
        shorts-differ (record_at t p) (record_at t q) u uq
        (λ s. new-at owned p new.0 q l (k.owned-short p (omega arith) u ∙ s ∙ sym (k.owned-short q (omega arith) uq)))
        (λ z s. new-at public p (new.1 (ev ∙ z)) q l (k.public-short p (omega arith) u ∙ s ∙ sym (k.public-short q (omega arith) uq)))
