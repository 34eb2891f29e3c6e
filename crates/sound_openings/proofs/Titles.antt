-- An opening's name. Assumes nothing.
use mathlib.Core.Path.{◌≡◌, ap, ◌∙◌}
use mathlib.Core.Bool.{true, false}
use Prim.Native.Nat.{ℕ}
use mathlib.Core.List.{List}
use lib.Dec.{eqb}
use lib.ListN.{length, get_or}
use Rattle.combine.specs.Below.{all_below}
use Rattle.names.specs.Names.{nameb, opening_nameb}
use Rattle.sound_extents.specs.Slices.{all_cells}
use Rattle.sound_reading.proofs.Choices.{or-first, or-second}

pub title-name : (name : List ℕ) → nameb name ≡ true → true ≡ opening_nameb name
unfolding opening_nameb
title-name name p = or-first _ _ p

pub title-blank : (name : List ℕ) → length name ≡ 12 → nameb name ≡ false → all_cells (λ x. eqb x 63) name ≡ opening_nameb name
unfolding opening_nameb
title-blank name l p = ap (λ (n : ℕ). all_below n (λ k. eqb (get_or name k 0) 63)) l ∙ or-second _ _ p
