-- The chain of refusals of an opening by name, by the cases that the code goes through. Assumes nothing.
use Rattle.std.specs.Prelude.{Ok, Err}
use Prim.Native.Nat.{ℕ, ◌+◌, ◌*◌, ◌≤◌, ◌<◌}
use mathlib.Core.Path.{◌≡◌, refl, sym, ap, subst, ◌∙◌}
use mathlib.Core.Bool.{Bool, true, false, not, ◌&&◌}
use mathlib.Core.Option.{Option, none, some}
use mathlib.Core.List.{List}
use native.Mathlib.Omega.{arith}
use lib.Dec.{eqb, ltb}
use lib.ListN.{get_or, get_or-eq_default}
use borrow.Author.Tests.{not-true, not-false}
use Rattle.combine.specs.Laws.Below.{bad-left}
use Rattle.combine.specs.First.{first_below}
use Rattle.combine.specs.Laws.Parts.{get_d_part}
use Rattle.combine.specs.Laws.Verdict.{refused-here, went_on}
use Rattle.answers.specs.declared.Refusal.TheVariants.{Empty, Unknown, NoWork, NotNow}
use Rattle.placing.specs.Sizes.{entries, places}
use Rattle.names.specs.Names.{is_scratch}
use Rattle.rules.specs.Headings.{Heading}
use Rattle.rules.specs.Rules.{look_up, busy, open_record, open_old}
use Rattle.tables.specs.Layout.{record_of, record_at, opening_at}
use Rattle.tables.specs.Fields.{is_used}
use Rattle.tables.specs.Handles.{heading_of}
use Rattle.catalogue_laws.specs.Places.{headings, headings-long, heading-at, looked-up-used}
use Rattle.catalogue_laws.specs.Entries.{keeps_off, others_in, busy-first}
use Rattle.open_choice.specs.Chosen.{chosen}

-- ---- the record that look-up found

module _ (w : Bool) (u p : ℕ) (t : List ℕ) where
  owner-cell : (record_at t p).owner ≡ get_or t (14 + 50 * p) 0
  unfolding record_at record_of
  owner-cell = get_d_part t (1 + 50 * p) 50 13 (omega arith) ∙ ap (λ (k : ℕ). get_or t k 0) (let z : 1 + 50 * p + 13 ≡ 14 + 50 * p = omega arith in z)

  pub not-for-work : not w ≡ true → false ≡ (w && not (eqb (record_at t p).owner u))
  not-for-work e = sym (bad-left _ _ (not-true w e))

  pub for-work : not w ≡ false → not (eqb (get_or t (14 + 50 * p) 0) u) ≡ (w && not (eqb (record_at t p).owner u))
  for-work e = rw (not-false w e) (ap (λ (k : ℕ). not (eqb k u)) (sym owner-cell))

  module _ (r : Bool) (er : r ≡ (w && not (eqb (record_at t p).owner u))) where
    pub no-work : r ≡ true → chosen w t (Err NoWork) ≡ open_record w u p (some (heading_of (record_at t p))) (others_in t)
    unfolding chosen
    no-work e = sym (refused-here 13 _ _ (sym er ∙ e))

    module _ (mine : r ≡ false) (b : Bool) (eb : b ≡ ltb (first_below entries (λ i. keeps_off w p (opening_at t i))) entries) where
      is-busy : busy w p (others_in t) ≡ b
      is-busy = busy-first t w p ∙ sym eb

      pub not-now : b ≡ true → chosen w t (Err NotNow) ≡ open_record w u p (some (heading_of (record_at t p))) (others_in t)
      unfolding chosen
      not-now e = sym (went_on 13 _ _ _ (sym er ∙ mine) (refused-here 14 _ _ (is-busy ∙ e)))

      pub opened-here : b ≡ false → chosen w t (Ok p) ≡ open_record w u p (some (heading_of (record_at t p))) (others_in t)
      unfolding chosen
      opened-here e = sym (went_on 13 _ _ _ (sym er ∙ mine) (went_on 14 _ _ _ (is-busy ∙ e) refl))

-- ---- look-up

pub found-used : (u : ℕ) (n t : List ℕ) (p : ℕ) → p ≡ look_up u n (headings t) → p < places → is_used (record_at t p) ≡ true
found-used u n t p e = subst (λ (q : ℕ). q < places → is_used (record_at t q) ≡ true) (sym e) (looked-up-used t u n)

module _ (w : Bool) (u : ℕ) (n t : List ℕ) where
  pub empty_name : is_scratch n ≡ true → chosen w t (Err Empty) ≡ open_old w u n (headings t) (others_in t)
  unfolding chosen open_old
  empty_name e = sym (refused-here 15 _ _ e)

  module _ (named : is_scratch n ≡ false) (p : ℕ) (ep : p ≡ look_up u n (headings t)) where
    looked : open_old w u n (headings t) (others_in t) ≡ open_record w u p (get_or (headings t) p none) (others_in t)
    unfolding open_old
    looked = went_on 15 _ _ _ named (ap (λ (q : ℕ). open_record w u q (get_or (headings t) q none) (others_in t)) (sym ep))

    pub look-up-found : p < places → open_record w u p (some (heading_of (record_at t p))) (others_in t) ≡ open_old w u n (headings t) (others_in t)
    look-up-found l = sym (looked ∙ ap (λ (r : Option Heading). open_record w u p r (others_in t)) (heading-at t p l (found-used u n t p ep l)))

    pub unknown : places ≤ p → chosen w t (Err Unknown) ≡ open_old w u n (headings t) (others_in t)
    unfolding chosen
    unknown l =
        let nothing : get_or (headings t) p none ≡ none = get_or-eq_default (headings t) none (omega (arith, headings-long t)) in
        sym (looked ∙ ap (λ (r : Option Heading). open_record w u p r (others_in t)) nothing)
