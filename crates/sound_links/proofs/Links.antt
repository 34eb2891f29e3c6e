-- An opening and its record, by the cases that the code goes through. Assumes nothing.
use Prim.Native.Nat.{ℕ, ◌+◌, ◌*◌, ◌≤◌, ◌<◌}
use mathlib.Core.Path.{◌≡◌, refl, sym, ap, ◌∙◌}
use mathlib.Core.Logic.{◌≢◌}
use mathlib.Core.Bool.{Bool, true, false, not, and-true}
use mathlib.Core.List.{List}
use native.Mathlib.Omega.{arith}
use borrow.Author.Tests.{eq-eqb, ne_eqb, le-leb, lt-leb}
use lib.Dec.{eqb}
use lib.ListN.{get_or}
use Rattle.combine.specs.Laws.Parts.{get_d_part}
use Rattle.combine.specs.Rows.{all_of}
use Rattle.combine.specs.Laws.Rows.{one-bad, all-last}
use Rattle.placing.specs.Sizes.{places, opening_length, openings_start}
use Rattle.tables.specs.declared.Record.{Record}
use Rattle.tables.specs.declared.Opening.{Opening}
use Rattle.tables.specs.Layout.{record_of, record_at, opening_of, opening_at, opening_base}
use Rattle.tables.specs.Fields.{record_for}
use Rattle.tables.specs.Openings.{linkb, readb, workb, beside_recordb}
use Rattle.sound_extents.specs.Slices.{sliced, sliced-part}
use Rattle.sound_links.specs.Linked.{elsewhereb, linkedb}
use Rattle.sound_reading.proofs.Choices.{or-first, or-second}

-- ---- the entries beside an opening's own

pub own-entry : (t : List ℕ) (i p j : ℕ) → j ≡ i → true ≡ elsewhereb t i p j
own-entry t i p j e = or-first _ _ (eq-eqb j i e)

pub other-entry : (t : List ℕ) (i p j : ℕ) → j ≢ i → not (eqb (get_or t (openings_start + 1 + opening_length * j) 0) p) ≡ elsewhereb t i p j
unfolding opening_at opening_of
other-entry t i p j d =
    let e : openings_start + 1 + opening_length * j ≡ opening_base j + 1 = omega arith in
    ap (λ (x : ℕ). not (eqb x p)) (ap (λ (k : ℕ). get_or t k 0) e ∙ sym (get_d_part t (opening_base j) opening_length 1 (omega arith))) ∙ or-second _ _ (ne_eqb j i d)

-- ---- the record

-- the row of the record at place p
pub filed-row : (t : List ℕ) (p : ℕ) → record_of (sliced t (1 + 50 * p) (1 + 50 * p + 50)) ≡ record_at t p
unfolding record_at
filed-row t p = ap record_of (sliced-part t (1 + 50 * p) (1 + 50 * p + 50) 50 refl)

module _ (t : List ℕ) (i : ℕ) (o : Opening) where
  pub no-record : o.place ≡ 0 → eqb o.permit 1 ≡ linkedb t i o
  unfolding linkedb linkb beside_recordb all_of
  no-record e =
      let l : o.place ≤ places = omega arith in
      simp (le-leb _ _ l, eq-eqb _ _ e, and-true)

  pub no_place : places < o.place → false ≡ linkedb t i o
  unfolding linkedb
  no_place l = one-bad _ 0 (lt-leb _ _ l)

  -- d is what the record's row says
  module _ (d : Record) (same-record : d ≡ record_for t o) (some : o.place ≢ 0) where
    used-here : d.used ≡ (record_for t o).used
    used-here = ap (λ (r : Record). r.used) same-record

    pub no-such-record : d.used ≢ 1 → false ≡ linkedb t i o
    unfolding linkedb linkb
    no-such-record n = one-bad _ 1 (simp (ne_eqb _ _ some) (ne_eqb _ _ (λ e. n (used-here ∙ e))))

    module _ (few : o.place ≤ places) (there : d.used ≡ 1) where
      linked : (b : Bool) → beside_recordb t i o ≡ b → b ≡ linkedb t i o
      unfolding linkedb linkb
      linked b e = all-last _ b (le-leb _ _ few, (simp (ne_eqb _ _ some) (eq-eqb _ _ (sym used-here ∙ there)), sym e))

      pub read-link : o.permit ≡ 0 → readb i o d ≡ linkedb t i o
      unfolding beside_recordb
      read-link z = ap (readb i o) same-record ∙ linked _ (simp (ne_eqb _ _ some, eq-eqb _ _ z))

      pub work-link : o.permit ≢ 0 → workb t i o d ≡ linkedb t i o
      unfolding beside_recordb
      work-link n = ap (workb t i o) same-record ∙ linked _ (simp (ne_eqb _ _ some, ne_eqb _ _ n))
