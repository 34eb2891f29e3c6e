-- What a sound record says, fact by fact. Assumes nothing.
use Rattle.std.specs.Prelude.{ℕ, ◌≤◌, ◌<◌, ◌≡◌, true, false, List, eqb}
use Rattle.std.proofs.Common.{ap, arith}
use borrow.Author.Tests.{leb-true, eqb-true, ne_eqb, not-true}
use Rattle.combine.specs.Laws.Below.{all-at}
use Rattle.combine.specs.Laws.Rows.{each_of}
use Rattle.placing.specs.Sizes.{greatest_user, places}
use Rattle.placing.specs.Placing.{held_of}
use Rattle.names.specs.Names.{nameb}
use Rattle.tables.specs.declared.Record.{Record}
use Rattle.tables.specs.Layout.{record_at}
use Rattle.tables.specs.Fields.{is_used, held_by_record}
use Rattle.tables.specs.Records.{usedb, recordb, clash, no_clashb, recordsb}
use Rattle.tables.specs.Laws.ExtentFacts.{SoundExtent, SoundList, extentb-facts, listb-facts}

-- a record in use, beside a store of n segments
pub record SoundRecord (n : ℕ) (r : Record) : Type 0 where
  -- "used 1"
  pub used : r.used ≡ 1
  -- "names not empty, symbols 0 to 35 and then only 63"
  pub name : nameb r.name ≡ true
  -- "Users 0 to 7."
  pub owner : r.owner ≤ greatest_user
  -- "private 1": one bit
  pub private : r.private ≤ 1
  -- "species 0 to 5; 1 <= begin <= end; at most 32 segments held"
  pub extent : SoundExtent r.species r.begin.0 r.end.0
  -- "segment numbers in range"; "Unused list places are zero"
  pub list : SoundList n (held_of r.species r.begin.0 r.end.0) r.segments

pub usedb-facts : (n : ℕ) (r : Record) → usedb n r ≡ true → SoundRecord n r
unfolding usedb
usedb-facts n r ok =
    let f = each_of _ ok in
    record {
      used = eqb-true r.used 1 f.0;
      name = f.1.0;
      owner = leb-true r.owner greatest_user f.1.1.0;
      private = leb-true r.private 1 f.1.1.1.0;
      extent = extentb-facts r.species r.begin.0 r.end.0 f.1.1.1.1.0;
      list = listb-facts n (held_of r.species r.begin.0 r.end.0) r.segments f.1.1.1.1.1.0;
    }

-- "A file holds one segment for each stretch with at least one of its positions": the number that the list has
pub record-holds : {n : ℕ} {r : Record} → SoundRecord n r → held_by_record r ≡ held_of r.species r.begin.0 r.end.0
unfolding held_by_record
record-holds {r = r} f =
    let e : eqb r.used 0 ≡ false = ap (λ (k : ℕ). eqb k 0) f.used in
    rw e

-- ---- in sound records

module _ (t : List ℕ) (n : ℕ) (ok : recordsb t n ≡ true) where
  -- a record whose use is not 0
  pub record-not-unused : (p : ℕ) → p < places → ((record_at t p).used ≡ 0 → ⊥) → SoundRecord n (record_at t p)
  unfolding recordsb recordb
  record-not-unused p lp d =
      usedb-facts n (record_at t p) (rw (ne_eqb (record_at t p).used 0 d) at (all-at _ places (each_of _ ok).0 p lp))

  pub record-facts : (p : ℕ) → p < places → is_used (record_at t p) ≡ true → SoundRecord n (record_at t p)
  record-facts p lp u =
      let e : (record_at t p).used ≡ 1 = eqb-true (record_at t p).used 1 u in
      record-not-unused p lp (λ z. omega arith)

  -- "No two records of one owner have one name; no two public records have one name."
  pub no-clash-before : (p q : ℕ) → p < places → q < p → is_used (record_at t p) ≡ true → clash (record_at t p) (record_at t q) ≡ false
  unfolding recordsb no_clashb
  no-clash-before p q lp lq u = not-true _ (all-at _ p (rw u at (all-at _ places (each_of _ ok).1.0 p lp)) q lq)
