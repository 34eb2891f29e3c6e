-- The first position that a pointer does not write at. Assumes nothing.
use Rattle.std.specs.Prelude.{ℕ, ◌≡◌, ◌≢◌}
use Rattle.std.proofs.Math.Path.{refl}
use Rattle.std.proofs.Common.{eq-eqb, ne_eqb}
use Rattle.placing.specs.Sizes.{greatest_end}
use Rattle.tables.specs.declared.Opening.{Opening}
use Rattle.tables.specs.Fields.{value_of}
use Rattle.run_puts.specs.Puts.{limit_of}

module _ (o : Opening) (p : ℕ) where
  pub limit-end : p ≡ 1 → limit_of o p ≡ greatest_end
  unfolding limit_of
  limit-end e = rw (eq-eqb p 1 e) refl

  pub limit-other : p ≢ 1 → limit_of o p ≡ value_of o 1
  unfolding limit_of
  limit-other d = rw (ne_eqb p 1 d) refl
