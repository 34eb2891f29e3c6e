-- A symbol read within a name's length is the same whatever is given beyond it; a name that is sound. Assumes nothing.
use Prim.Native.Nat.{ℕ, zero, suc, ◌+◌, ◌≤◌, ◌<◌}
use mathlib.Core.Bool.{Bool, true}
use mathlib.Core.Logic.{◌↔◌}
use mathlib.Core.Path.{◌≡◌, refl, sym, ◌∙◌}
use mathlib.Core.List.{List, [], ◌∷◌}
use native.Mathlib.Nat.{not-suc-le-zero, le_of_suc-le-suc}
use native.Mathlib.Omega.{arith}
use borrow.Author.Tests.{le-leb, lt-leb}
use lib.Dec.{leb}
use lib.ListN.{length, get_or}
use Rattle.combine.specs.Below.{all_below}
use Rattle.combine.specs.Rows.{all_of}
use Rattle.combine.specs.Laws.Below.{bool-ext, all-make, all-at}
use Rattle.combine.specs.Laws.Rows.{one-bad, all-good, each_of}
use Rattle.names.specs.Names.{follows, nameb}

pub within : (l : List ℕ) (k a b : ℕ) → k < length l → get_or l k a ≡ get_or l k b
within [] k a b h = absurd (not-suc-le-zero h)
within (x ∷ xs) zero a b h = refl
within (x ∷ xs) (suc k) a b h = within xs k a b (le_of_suc-le-suc h)

follows-within : (l : List ℕ) (k a b : ℕ) → k + 1 < length l → follows (get_or l k a) (get_or l (k + 1) a) ≡ follows (get_or l k b) (get_or l (k + 1) b)
follows-within l k a b h = rw (within l k a b (omega arith), within l (k + 1) a b h)

module _ (name : List ℕ) (twelve : length name ≡ 12) where
  abbrev follow : ℕ → Bool
  follow k = follows (get_or name k 63) (get_or name (k + 1) 63)

  -- the first symbol may be a name's, and `sound` tells whether each may be followed by the next
  pub sound-pairs : (sound : Bool) → get_or name 0 0 ≤ 35
      → (sound ≡ true) ↔ ((k : ℕ) → k + 1 < length name → follows (get_or name k 0) (get_or name (k + 1) 0) ≡ true) → sound ≡ nameb name
  unfolding nameb
  sound-pairs sound first pairs =
      let first63 : get_or name 0 63 ≤ 35 = omega (arith, within name 0 0 63 (omega arith)) in
      let tests : List Bool = leb (get_or name 0 63) 35 ∷ all_below 11 follow ∷ [] in
      bool-ext sound (all_of tests)
      (λ t. sym (all-good tests (le-leb _ _ first63, (all-make follow 11 (λ k l. follows-within name k 63 0 (omega arith) ∙ pairs.0 t k (omega arith)), tt))))
      (λ t. pairs.1 (λ k l. follows-within name k 0 63 l ∙ all-at follow 11 (each_of tests t).1.0 k (omega arith)))

  pub unsound-first : 35 < get_or name 0 0 → leb (get_or name 0 0) 35 ≡ nameb name
  unfolding nameb
  unsound-first first =
      let e = within name 0 0 63 (omega arith) in
      lt-leb _ _ first ∙ one-bad (leb (get_or name 0 63) 35 ∷ all_below 11 follow ∷ []) 0 (lt-leb _ _ (omega arith))
