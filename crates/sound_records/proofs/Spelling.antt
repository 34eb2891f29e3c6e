-- The symbols of a sound record's name are below 64. Assumes nothing.
use Prim.Native.Nat.{ℕ}
use mathlib.Core.Path.{◌≡◌}
use mathlib.Core.Logic.{⊎_elim}
use mathlib.Core.Bool.{true}
use native.Mathlib.Omega.{arith}
use lib.Dec.{eqb}
use lib.ListN.{length, get_or}
use borrow.Author.Tests.{eqb-true}
use Rattle.combine.specs.Laws.Below.{all-at, split-bool}
use Rattle.combine.specs.Laws.Rows.{each_of}
use Rattle.names.specs.Laws.Small.{name-small}
use Rattle.names.proofs.Within.{within}
use Rattle.tables.specs.declared.Record.{Record}
use Rattle.tables.specs.Records.{usedb, unusedb, recordb}
use Rattle.sound_clashes.specs.Halves.{Spelled}

module _ (r : Record) (long : length r.name ≡ 12) where
  used-spelled : (n : ℕ) → usedb n r ≡ true → Spelled r
  unfolding usedb
  used-spelled n e =
      let f = each_of _ e in
      let u = eqb-true r.used 1 f.0 in
      record { flag = omega arith; symbols = (λ k l. let h = name-small r.name f.1.0 k l in omega (arith, within r.name k 0 63 (omega arith))) }

  unused-spelled : r.used ≡ 0 → unusedb r ≡ true → Spelled r
  unfolding unusedb
  unused-spelled u e = record { flag = omega arith; symbols = (λ k l. let z = eqb-true (get_or r.name k 0) 0 (all-at _ 12 (each_of _ e).0 k l) in omega arith) }

  pub sound-spelled : (n : ℕ) → recordb n r ≡ true → Spelled r
  unfolding recordb
  sound-spelled n e =
      ⊎_elim
      (λ s. unused-spelled (eqb-true r.used 0 s) (rw s at e))
      (λ s. used-spelled n (rw s at e))
      (split-bool (eqb r.used 0))
