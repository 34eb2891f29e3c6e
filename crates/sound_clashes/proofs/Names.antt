-- What the keys of two records say of a clash. Assumes nothing.
use Prim.Native.Nat.{ℕ, ◌+◌, ◌-◌, ◌≤◌, ◌<◌}
use mathlib.Core.Path.{◌≡◌, sym, ap, ◌∙◌}
use mathlib.Core.Logic.{⊎_elim}
use mathlib.Core.Bool.{Bool, true, false}
use mathlib.Core.List.{List}
use native.Mathlib.Omega.{arith}
use lib.ListN.{length, get_or}
use lib.Seq.{ext_get_or}
use borrow.Author.Tests.{eq-eqb, ne_eqb, eqb-true}
use Rattle.combine.specs.Laws.Numbers.{le-or-lt}
use Rattle.combine.specs.Laws.Below.{split-bool}
use Rattle.combine.specs.Laws.Rows.{one-bad, all-last}
use Rattle.combine.specs.Lists.{same}
use Rattle.combine.specs.Laws.Same.{same_true, true_same}
use Rattle.tables.specs.declared.Record.{Record}
use Rattle.tables.specs.Fields.{is_used}
use Rattle.tables.specs.Records.{clash}
use Rattle.sound_keys.specs.Keys.{digits, key_of}
use Rattle.sound_keys.proofs.Digits.{digits-positive, digits_same}
use Rattle.sound_clashes.specs.Halves.{kinb, Spelled}

key-used : (r : Record) (at : ℕ) → r.used ≡ 1 → key_of r at ≡ digits r.name at 6
unfolding key_of
key-used r at e = rw (ne_eqb r.used 0 (λ z. omega arith))

pub key-unused : (r : Record) (at : ℕ) → r.used ≡ 0 → key_of r at ≡ 0
unfolding key_of
key-unused r at e = rw (eq-eqb r.used 0 e)

module _ (r q : Record) (ur : is_used r ≡ true) where
  used : r.used ≡ 1
  used = eqb-true r.used 1 ur

  other_name : (at : ℕ) → (key_of r at ≡ key_of q at → ⊥) → is_used q ≡ true → same r.name q.name ≡ false
  other_name at d u =
      ⊎_elim
      (λ s. absurd (d (key-used r at used ∙ ap (λ (l : List ℕ). digits l at 6) (same_true r.name q.name s) ∙ sym (key-used q at (eqb-true q.used 1 u)))))
      (λ s. s)
      (split-bool (same r.name q.name))

  -- keys that differ: the other record is unused, or has another name
  pub keys-differ : (at : ℕ) → (key_of r at ≡ key_of q at → ⊥) → false ≡ clash r q
  unfolding clash
  keys-differ at d = ⊎_elim (λ u. one-bad _ 1 (other_name at d u)) (λ u. one-bad _ 0 u) (split-bool (is_used q))

  module _ (sr : Spelled r) (sq : Spelled q) (lr : length r.name ≡ 12) (lq : length q.name ≡ 12) where
    other-used : key_of r 0 ≡ key_of q 0 → q.used ≡ 1
    other-used e =
        ⊎_elim
        (λ z. absurd (omega (arith, e, key-used r 0 used, key-unused q 0 (omega arith), digits-positive r.name 0 6)))
        (λ p. omega (arith, sq.flag))
        (le-or-lt q.used 0)

    symbols-same : (at : ℕ) → at ≤ 6 → q.used ≡ 1 → key_of r at ≡ key_of q at → (k : ℕ) → k < 6 → get_or r.name (at + k) 0 ≡ get_or q.name (at + k) 0
    symbols-same at h u e =
        digits_same r.name q.name at 6 (λ k l. sr.symbols (at + k) (omega arith)) (λ k l. sq.symbols (at + k) (omega arith)) (sym (key-used r at used) ∙ e ∙ key-used q at u)

    names_same : q.used ≡ 1 → key_of r 0 ≡ key_of q 0 → key_of r 6 ≡ key_of q 6 → r.name ≡ q.name
    names_same u e f = ext_get_or 0 r.name q.name (lr ∙ sym lq) (λ k l. at_each k (omega arith))
      where
        at_each : (k : ℕ) → k < 12 → get_or r.name k 0 ≡ get_or q.name k 0
        at_each k l =
            ⊎_elim
            (λ h.
            let c : 6 + (k - 6) ≡ k = omega arith in
            ap (λ (j : ℕ). get_or r.name j 0) (sym c) ∙ symbols-same 6 (omega arith) u f (k - 6) (omega arith) ∙ ap (λ (j : ℕ). get_or q.name j 0) c)
            (λ h.
            let c : 0 + k ≡ k = omega arith in
            ap (λ (j : ℕ). get_or r.name j 0) (sym c) ∙ symbols-same 0 (omega arith) u e k h ∙ ap (λ (j : ℕ). get_or q.name j 0) c)
            (le-or-lt 6 k)

    -- keys that are the same: it comes to owners and publicity
    pub keys-same : (b : Bool) → key_of r 0 ≡ key_of q 0 → key_of r 6 ≡ key_of q 6 → b ≡ kinb r q → b ≡ clash r q
    unfolding clash kinb
    keys-same b e f k =
        let u : q.used ≡ 1 = other-used e in
        all-last _ b (eq-eqb q.used 1 u, (true_same r.name q.name (names_same u e f), k))
