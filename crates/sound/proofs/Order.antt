-- The tests of sound tables in the order in which the code makes them: distinctness last. Assumes nothing.
use Prim.Native.Nat.{ℕ}
use mathlib.Core.Path.{◌≡◌, ◌∙◌}
use mathlib.Core.Bool.{Bool, true, and-true, true-and}
use mathlib.Core.List.{List}
use lib.Dec.{eqb}
use lib.ListN.{length}
use borrow.Author.Tests.{eq-eqb}
use Rattle.combine.specs.Rows.{all_of}
use Rattle.placing.specs.Sizes.{tables_length, lists}
use Rattle.tables.specs.Layout.{segments_in}
use Rattle.tables.specs.Records.{recordsb}
use Rattle.tables.specs.Openings.{openingsb}
use Rattle.tables.specs.Lists.{distinctb}
use Rattle.tables.specs.Sound.{numberb, soundb}

pub distinct-last : (cells : ℕ) (t : List ℕ) (r : Bool) → length t ≡ tables_length → numberb (segments_in t) cells ≡ true → recordsb t (segments_in t) ≡ true → openingsb t ≡ true → r ≡ distinctb t lists → r ≡ soundb cells t
unfolding soundb all_of
distinct-last cells t r long n p o d =
    let l : eqb (length t) tables_length ≡ true = eq-eqb (length t) tables_length long in
    d ∙ simp (l, n, p, o, true-and, and-true)
