-- Sound tables that are closed down are sound. Assumes nothing.
use Rattle.std.specs.Prelude.{ℕ, ◌<◌, ◌≡◌, List, [], ◌∷◌, eqb, length}
use Rattle.std.proofs.Common.{sym, ◌∙◌, arith, eq-eqb, eqb-true}
use Rattle.std.proofs.Math.Path.{ap}
use Rattle.std.proofs.Math.Bool.{true, not, cond}
use Rattle.combine.specs.Below.{all_below}
use Rattle.combine.specs.Laws.Below.{all-make, all-cong}
use Rattle.combine.specs.Rows.{all_of}
use Rattle.combine.specs.Laws.Rows.{each_of, all-good}
use Rattle.placing.specs.Sizes.{places, entries, tables_length, lists}
use Rattle.tables.specs.declared.Opening.{Opening}
use Rattle.tables.specs.Layout.{segments_in, record_at, closed_opening}
use Rattle.tables.specs.Fields.{is_used, value_of}
use Rattle.tables.specs.Records.{recordb, clash, no_clashb, recordsb}
use Rattle.tables.specs.Openings.{closedb, openb, openingb, openingsb}
use Rattle.tables.specs.Laws.Lists.{distinct_of}
use Rattle.tables.specs.Sound.{numberb, soundb}
use Rattle.sound_lists.specs.DistinctBy.{distinct-by}
use Rattle.proof_images.specs.Closed.{closed, length-closed, segments-kept, record-kept, opening-cleared}
use Rattle.proof_images.specs.Lists.{closed-distinct}

module _ (t : List ℕ) (long : length t ≡ tables_length) where
  alone-kept : (p : ℕ) → p < places → no_clashb (closed t) p ≡ no_clashb t p
  unfolding no_clashb
  alone-kept p lp =
      let r = record-kept t long p lp in
      λ i. cond (is_used (r i))
      (all-cong (λ q. not (clash (record_at (closed t) p) (record_at (closed t) q))) (λ q. not (clash (record_at t p) (record_at t q))) p
      (λ q lq j. not (clash (r j) (record-kept t long q (omega arith) j))) i) true

  records-kept : (n : ℕ) → recordsb (closed t) n ≡ recordsb t n
  unfolding recordsb
  records-kept n =
      λ i. all_of
      (all-cong (λ p. recordb n (record_at (closed t) p)) (λ p. recordb n (record_at t p)) places (λ p lp. ap (recordb n) (record-kept t long p lp)) i
      ∷ all-cong (no_clashb (closed t)) (no_clashb t) places alone-kept i
      ∷ [])

  nothing-open : openingsb (closed t) ≡ true
  unfolding openingsb openingb closedb closed_opening value_of all_of all_below
  nothing-open = all-make (openingb (closed t)) entries (λ i li. ap (λ (o : Opening). cond (eqb o.opened 0) (closedb o) (openb (closed t) i o)) (opening-cleared t long i li))

pub closed-sound : (cells : ℕ) (t : List ℕ) → soundb cells t ≡ true → soundb cells (closed t) ≡ true
unfolding soundb
closed-sound cells t ok =
    let f = each_of _ ok in
    let long : length t ≡ tables_length = eqb-true (length t) tables_length f.0 in
    let n : segments_in (closed t) ≡ segments_in t = segments-kept t long in
    sym (all-good _ (
      eq-eqb (length (closed t)) tables_length (length-closed t long),
      (
        ap (recordsb (closed t)) n ∙ records-kept t long (segments_in t) ∙ f.1.0,
        (
          nothing-open t long,
          (
            distinct-by (closed t) lists (closed-distinct t long (distinct_of t lists f.1.1.1.0)),
            (ap (λ (k : ℕ). numberb k cells) n ∙ f.1.1.1.1.0, tt),
          ),
        ),
      ),
    ))
