-- A turn of the search for the lowest free own pointer. Assumes nothing.
use Prim.Native.Nat.{ℕ, ◌+◌, ◌≤◌, ◌<◌}
use mathlib.Core.Path.{◌≡◌, sym, ◌∙◌}
use mathlib.Core.Bool.{Bool, true, false}
use mathlib.Core.List.{List, map}
use native.Mathlib.Omega.{arith}
use native.Mathlib.Numerals.{add-one}
use borrow.Author.Tests.{eq-eqb, ne_eqb}
use lib.Dec.{eqb}
use lib.ListN.{length, get_or, drop, length-map, drop_of_length-le}
use lib.Seq.{drop-cons}
use Rattle.combine.specs.Lists.{first_where}
use Rattle.placing.specs.declared.Position.{Position}
use Rattle.placing.specs.Laws.Tests.{none_so, none-not}
use Rattle.rules.specs.Headings.{value}
use Rattle.tables.specs.declared.Opening.{Opening}
use Rattle.tables.specs.Layout.{position_number}
use Rattle.tables.specs.Fields.{value_of}
use Rattle.tables.specs.Handles.{handle_in}
use Rattle.tables.specs.Pointers.{lowest_free_pointer}
use Rattle.tables.specs.Laws.Pointers.{value_in}

-- the first element from place i on that passes a test
module _ {A : Type 0} (f : A → Bool) (l : List A) (i : ℕ) (z : A) where
  first-here : i < length l → f (get_or l i z) ≡ true → i + first_where f (drop i l) ≡ i
  first-here h e = rw (drop-cons l i z h, e) (omega arith)

  first_next : i < length l → f (get_or l i z) ≡ false → i + first_where f (drop i l) ≡ i + 1 + first_where f (drop (i + 1) l)
  first_next h e = rw (drop-cons l i z h, e, add-one i) (omega arith)

  first-end : length l ≤ i → i + first_where f (drop i l) ≡ i
  first-end h = rw (drop_of_length-le l {i = i} h) (omega arith)

-- the lowest free name from i on
abbrev pub free_from : Opening → ℕ → ℕ
free_from o i = i + first_where (eqb 0) (drop i (map position_number o.pointers))

module _ (o : Opening) (i : ℕ) (eight : length o.pointers ≡ 8) (so_far : lowest_free_pointer o ≡ free_from o i) where
  points : List ℕ
  points = map position_number o.pointers

  long : length points ≡ 8
  unfolding points
  long = length-map o.pointers position_number ∙ eight

  module _ (h : i < 8) (v : Position) (ev : v.0 ≡ value_of o i) (b : Bool) (eb : b ≡ eqb v.0 0) where
    pub free-here : b ≡ true → i ≡ lowest_free_pointer o
    unfolding points
    free-here q = sym (so_far ∙ first-here (eqb 0) points i 0 (omega (arith, long)) (eq-eqb 0 (value (handle_in o) i) (sym (value_in o i ∙ sym ev ∙ none_so b v.0 eb q))))

    pub free-next : b ≡ false → lowest_free_pointer o ≡ free_from o (i + 1)
    unfolding points
    free-next q = so_far ∙ first_next (eqb 0) points i 0 (omega (arith, long)) (ne_eqb 0 (value (handle_in o) i) (λ e. none-not b v.0 eb q (ev ∙ sym (e ∙ value_in o i))))

  pub free-end : 8 ≤ i → i ≡ lowest_free_pointer o
  unfolding points
  free-end h = sym (so_far ∙ first-end (eqb 0) points i 0 (omega (arith, long)))
