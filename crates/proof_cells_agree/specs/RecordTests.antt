-- Records in the cells t that say what is sound pass the tests. Assumes nothing.
use Rattle.std.specs.Prelude.{ℕ, ◌≤◌, ◌<◌, ◌≡◌, ◌≢◌, Bool, false, ◌&&◌, List, map, T, get_or}
use native.Mathlib.Omega.{arith}
use Rattle.std.proofs.Math.Path.{refl, sym, subst}
use Rattle.std.proofs.Common.{ap, ◌∙◌, eqb→eq, le-leb, eq-eqb}
use Rattle.std.proofs.Math.Logic.{⊎_elim}
use Rattle.std.proofs.Math.Bool.{true, not}
use Rattle.std.proofs.Math.Option.{Option, none, some}
use Rattle.std.proofs.Math.Dec.{eqb}
use Rattle.std.proofs.Math.ListN.{get_or-map}
use Rattle.combine.specs.Below.{all_below}
use Rattle.combine.specs.Laws.Below.{all-make, split-bool}
use Rattle.combine.specs.Rows.{all_of}
use Rattle.combine.specs.Laws.Rows.{each_of}
use Rattle.combine.specs.Lists.{same}
use Rattle.combine.specs.Laws.Same.{same_true, true_same}
use Rattle.placing.specs.Sizes.{greatest_user, places}
use Rattle.rules.specs.Headings.{head_of, passes}
use Rattle.rules.specs.Rules.{is_own, is_public}
use Rattle.segments.specs.Free.{SegmentRecord}
use Rattle.segments.specs.Laws.Sound.{SoundPlace, SoundHouse}
use Rattle.tables.specs.declared.Record.{Record}
use Rattle.tables.specs.Layout.{segments_in, record_at, unused_record}
use Rattle.tables.specs.Fields.{is_used}
use Rattle.tables.specs.Handles.{bit, heading_of}
use Rattle.tables.specs.Records.{usedb, unusedb, recordb, clash, no_clashb, recordsb}
use Rattle.cells.specs.Says.{decoded_record, house_of, as_record}
use Rattle.combine.specs.Laws.Tests.{or_split, and_first, and_second, and_intro}
use Rattle.proof_cells_agree.specs.Rows.{enough, ◌also◌, row}
use Rattle.proof_cells_agree.specs.There.{says-used, record-at}
use Rattle.proof_cells_agree.specs.Files.{extent-test, list-test}
use Rattle.proof_cells_agree.specs.Canonical.{Canonical}

pub bit-small : (b : Bool) → bit b ≤ 1
bit-small true = omega arith
bit-small false = omega arith

-- ---- one record; n is the number of segments

-- "an unused record is all zero"
unused-tests : (n : ℕ) → recordb n unused_record ≡ true
unfolding recordb unusedb unused_record all_below all_of
unused-tests n = refl

place-tests : (n : ℕ) (y : Option SegmentRecord) → SoundPlace n y → recordb n (as_record y) ≡ true
unfolding recordb usedb as_record
place-tests n none f = unused-tests n
place-tests n (some r) f =
    let h = r.head in
    let file = f.file in
    row _
    (refl
    also f.name
    also le-leb h.owner greatest_user f.owned
    also le-leb (bit h.private) 1 (bit-small h.private)
    also extent-test n h.species h.begin h.end r.content file
    also list-test n h.species h.begin h.end r.content file
    also enough)

module _ (t : List ℕ) (canonical : Canonical t) (s : SoundHouse (house_of t)) where
  record-tests : (p : ℕ) → p < places → recordb (segments_in t) (record_at t p) ≡ true
  unfolding house_of
  record-tests p l =
      subst (λ (r : Record). recordb (segments_in t) r ≡ true) (canonical.records p l)
      (place-tests (segments_in t) (decoded_record (record_at t p)) (subst (SoundPlace (segments_in t)) (record-at t p l) (s.records p)))

  -- ---- "No two records of one owner have one name; no two public records have one name."

  heading-there : (p : ℕ) → p < places → is_used (record_at t p) ≡ true → get_or (map head_of (house_of t).records) p none ≡ some (heading_of (record_at t p))
  heading-there p l u = get_or-map head_of (house_of t).records p none ∙ ap head_of (record-at t p l ∙ says-used (record_at t p) u)

  own-there : (p u : ℕ) (m : List ℕ) → p < places → is_used (record_at t p) ≡ true → (record_at t p).owner ≡ u → (record_at t p).name ≡ m
      → T (passes (is_own u m) (get_or (map head_of (house_of t).records) p none))
  own-there p u m l used eu em =
      let r = record_at t p in
      rw (heading-there p l used) (and_intro (eqb r.owner u) (same r.name m) (rw (eq-eqb r.owner u eu) tt) (rw (true_same r.name m em) tt))

  public-there : (p : ℕ) (m : List ℕ) → p < places → is_used (record_at t p) ≡ true → (record_at t p).private ≡ 0 → (record_at t p).name ≡ m
      → T (passes (is_public m) (get_or (map head_of (house_of t).records) p none))
  public-there p m l used e em =
      let r = record_at t p in
      let z : eqb r.private 1 ≡ false = ap (λ (k : ℕ). eqb k 1) e in
      rw (heading-there p l used) (and_intro (not (eqb r.private 1)) (same r.name m) (rw z tt) (rw (true_same r.name m em) tt))

  no-clash : (p q : ℕ) → p < places → q < p → is_used (record_at t p) ≡ true → clash (record_at t p) (record_at t q) ≡ true → ⊥
  unfolding clash
  no-clash p q l before used c =
      let f = each_of _ c in
      let r = record_at t p in
      let r' = record_at t q in
      let d : p ≢ q = (λ e. omega arith) in
      let lq : q < places = omega arith in
      let name : r'.name ≡ r.name = sym (same_true r.name r'.name f.1.0) in
      or_split (eqb r.owner r'.owner) (eqb r.private 0 && eqb r'.private 0) (rw f.1.1.0 tt)
      (λ o. s.own r.owner r.name p q d (own-there p r.owner r.name l used refl refl)
      (own-there q r.owner r.name lq f.0 (sym (eqb→eq r.owner r'.owner o)) name))
      (λ o. s.public r.name p q d
      (public-there p r.name l used (eqb→eq r.private 0 (and_first (eqb r.private 0) (eqb r'.private 0) o)) refl)
      (public-there q r.name lq f.0 (eqb→eq r'.private 0 (and_second (eqb r.private 0) (eqb r'.private 0) o)) name))

  alone-tests : (p : ℕ) → p < places → no_clashb t p ≡ true
  unfolding no_clashb
  alone-tests p l = ⊎_elim (λ u. rw u (all-make _ p (λ q before. no q before u))) (λ u. rw u) (split-bool (is_used (record_at t p)))
    where
      no : (q : ℕ) → q < p → is_used (record_at t p) ≡ true → not (clash (record_at t p) (record_at t q)) ≡ true
      no q before u = ⊎_elim (λ c. absurd (no-clash p q l before u c)) (λ c. rw c) (split-bool (clash (record_at t p) (record_at t q)))

  pub records-tests : recordsb t (segments_in t) ≡ true
  unfolding recordsb
  records-tests = row _ (all-make _ places record-tests also all-make _ places alone-tests also enough)
