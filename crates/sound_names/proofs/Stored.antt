-- The keys of the places up to p, where those of place p are stored, or p is passed over. Assumes nothing.
use Prim.Native.Nat.{ℕ, ◌+◌, ◌≤◌, ◌<◌}
use mathlib.Core.Path.{◌≡◌, refl, sym, ◌∙◌, subst}
use mathlib.Core.Bool.{true}
use mathlib.Core.List.{List}
use native.Mathlib.Omega.{arith}
use lib.ListN.{length, get_or, set, replicate, length-set, get_or-replicate}
use lib.Seq.{get_or-set_same, get_or-set_other}
use borrow.Author.Count.{below_none, below_more}
use borrow.Author.Tests.{eqb-true}
use Rattle.placing.specs.Sizes.{places, tables_length}
use Rattle.tables.specs.Layout.{record_at}
use Rattle.tables.specs.Fields.{is_used}
use Rattle.sound_keys.specs.Keys.{key_of, short_of, public_of}
use Rattle.sound_clashes.specs.Halves.{Spelled, Halved}
use Rattle.sound_clashes.proofs.Names.{key-unused}
use Rattle.sound_names.specs.Keys.{Keyed}

-- from place n on no key is stored
pub record Rest (high low : List ℕ) (n : ℕ) : Type 0 where
  pub high-rest : (q : ℕ) → n ≤ q → q < places → get_or high q 0 ≡ 0
  pub low-rest : (q : ℕ) → n ≤ q → q < places → get_or low q 0 ≡ 0

pub rest_all : Rest (replicate 64 0) (replicate 64 0) 0
rest_all = record { high-rest = λ q b c. get_or-replicate 64 q 0 0 c; low-rest = λ q b c. get_or-replicate 64 q 0 0 c }

pub rest-skip : (high low : List ℕ) (p : ℕ) → Rest high low p → Rest high low (p + 1)
rest-skip high low p r = record { high-rest = λ q b c. r.high-rest q (omega arith) c; low-rest = λ q b c. r.low-rest q (omega arith) c }

pub rest_put : (high low : List ℕ) (p a b : ℕ) → Rest high low p → Rest (set high p a) (set low p b) (p + 1)
rest_put high low p a b r =
    record {
      high-rest = λ q g c. get_or-set_other high p q a 0 (λ z. omega arith) ∙ r.high-rest q (omega arith) c;
      low-rest = λ q g c. get_or-set_other low p q b 0 (λ z. omega arith) ∙ r.low-rest q (omega arith) c;
    }

-- what holds of the numbers before place p, and of the one that is put there
put-number : (P : ℕ → ℕ → Type 0) (l : List ℕ) (p v : ℕ) → p < length l → ((q : ℕ) → q < p → P q (get_or l q 0)) → P p v → (q : ℕ) → q < p + 1 → P q (get_or (set l p v) q 0)
put-number P l p v lp h e =
    below_more (λ q. P q (get_or (set l p v) q 0)) p (λ q s. subst (P q) (sym (get_or-set_other l p q v 0 (λ z. omega arith))) (h q s)) (subst (P p) (sym (get_or-set_same l p v 0 lp)) e)

-- before the first place there is nothing to know
pub keys_none : (t : List ℕ) → length t ≡ tables_length → ((q : ℕ) → q < places → Spelled (record_at t q)) → Keyed t (replicate 64 0) (replicate 64 0) (replicate 64 0) (replicate 64 0) 0
keys_none t long spelled =
    record {
      halves =
          record {
            long = long;
            spelled = spelled;
            within = omega arith;
            high-long = refl;
            low-long = refl;
            highs = below_none _;
            lows = below_none _;
          };
      owned_long = refl;
      public-long = refl;
      owned-short = below_none _;
      public-short = below_none _;
    }

module _ (t : List ℕ) where
  abbrev High : ℕ → ℕ → Type 0
  High q x = x ≡ key_of (record_at t q) 0

  abbrev Low : ℕ → ℕ → Type 0
  Low q x = x ≡ key_of (record_at t q) 6

  abbrev Owned : ℕ → ℕ → Type 0
  Owned q x = is_used (record_at t q) ≡ true → x ≡ short_of (key_of (record_at t q) 0) (key_of (record_at t q) 6) (record_at t q).owner

  abbrev Public : ℕ → ℕ → Type 0
  Public q x = is_used (record_at t q) ≡ true → x ≡ public_of (key_of (record_at t q) 0) (key_of (record_at t q) 6) (record_at t q).private

  module _ (high low owned public : List ℕ) (p : ℕ) (k : Keyed t high low owned public p) (l : p < places) where
    module _ (a b : ℕ) (ea : a ≡ key_of (record_at t p) 0) (eb : b ≡ key_of (record_at t p) 6) where
      halves-put : Halved t (set high p a) (set low p b) (p + 1)
      halves-put =
          let h = k.halves in
          record {
            long = h.long;
            spelled = h.spelled;
            within = omega arith;
            high-long = length-set high p a ∙ h.high-long;
            low-long = length-set low p b ∙ h.low-long;
            highs = put-number High high p a (omega (arith, h.high-long)) h.highs ea;
            lows = put-number Low low p b (omega (arith, h.low-long)) h.lows eb;
          }

      pub keys-put : (o v c d : ℕ) → o ≡ (record_at t p).owner → v ≡ (record_at t p).private → c ≡ short_of a b o → d ≡ public_of a b v → Keyed t (set high p a) (set low p b) (set owned p c) (set public p d) (p + 1)
      keys-put o v c d eo ev ec ed =
          record {
            halves = halves-put;
            owned_long = length-set owned p c ∙ k.owned_long;
            public-long = length-set public p d ∙ k.public-long;
            owned-short = put-number Owned owned p c (omega (arith, k.owned_long)) k.owned-short (λ u. ec ∙ (λ i. short_of (ea i) (eb i) (eo i)));
            public-short = put-number Public public p d (omega (arith, k.public-long)) k.public-short (λ u. ed ∙ (λ i. public_of (ea i) (eb i) (ev i)));
          }

    -- an unused record has keys 0, and no short keys
    pub keys-skip : Rest high low p → (record_at t p).used ≡ 0 → Keyed t high low owned public (p + 1)
    keys-skip r e =
        let h = k.halves in
        let unused : is_used (record_at t p) ≡ true → ⊥ = (λ u. omega (arith, e, eqb-true (record_at t p).used 1 u)) in
        record {
          halves =
              record {
                long = h.long;
                spelled = h.spelled;
                within = omega arith;
                high-long = h.high-long;
                low-long = h.low-long;
                highs = below_more (λ q. High q (get_or high q 0)) p h.highs (r.high-rest p (omega arith) l ∙ sym (key-unused (record_at t p) 0 e));
                lows = below_more (λ q. Low q (get_or low q 0)) p h.lows (r.low-rest p (omega arith) l ∙ sym (key-unused (record_at t p) 6 e));
              };
          owned_long = k.owned_long;
          public-long = k.public-long;
          owned-short = below_more (λ q. Owned q (get_or owned q 0)) p k.owned-short (λ u. absurd (unused u));
          public-short = below_more (λ q. Public q (get_or public q 0)) p k.public-short (λ u. absurd (unused u));
        }
