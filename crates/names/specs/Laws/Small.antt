-- The symbols of a sound name are below 64. Assumes nothing.
use Rattle.std.specs.Prelude.{ℕ, zero, suc, ◌+◌, ◌<◌, ◌≡◌, true, List, leb, get_or}
use Rattle.std.proofs.Common.{subst, ⊎_elim, add-one, arith, eqb-true, leb-true}
use Rattle.combine.specs.Laws.Below.{all-at, split-bool}
use Rattle.combine.specs.Laws.Rows.{each_of}
use Rattle.names.specs.Names.{nameb, follows}

follows-small : (a b : ℕ) → follows a b ≡ true → b < 64
unfolding follows
follows-small a b e =
    ⊎_elim
    (λ s. let h = leb-true b 35 s in omega arith)
    (λ s. let h = eqb-true b 63 (rw s at e) in omega arith)
    (split-bool (leb b 35))

pub name-small : (name : List ℕ) → nameb name ≡ true → (k : ℕ) → k < 12 → get_or name k 63 < 64
unfolding nameb
name-small name e zero l = let h = leb-true (get_or name 0 63) 35 (each_of _ e).0 in omega arith
name-small name e (suc k) l =
    subst (λ (j : ℕ). get_or name j 63 < 64) (add-one k) (follows-small (get_or name k 63) (get_or name (k + 1) 63) (all-at _ 11 (each_of _ e).1.0 k (omega arith)))
