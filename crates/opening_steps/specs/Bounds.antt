-- What the tests against begin and end say: v is a position, b the begin of an opening, e its end, t a test's result. Assumes nothing.
use Rattle.std.specs.Prelude.{ℕ, ◌≤◌, ◌<◌, ◌≡◌, Bool, false, leb, ltb}
use Rattle.std.proofs.Common.{arith}
use Rattle.placing.specs.Laws.Tests.{before-not, most-not}
use Rattle.tables.specs.declared.Opening.{Opening}
use Rattle.tables.specs.Fields.{value_of}

module _ (o : Opening) (v b : ℕ) (eb : b ≡ value_of o 0) (t : Bool) where
  pub from-begin : t ≡ ltb v b → t ≡ false → value_of o 0 ≤ v
  from-begin et n = omega (arith, before-not t v b et n)

  pub above-begin : t ≡ leb v b → t ≡ false → value_of o 0 < v
  above-begin et n = omega (arith, most-not t v b et n)

module _ (o : Opening) (v e : ℕ) (ee : e ≡ value_of o 1) (t : Bool) where
  pub below_end : t ≡ leb e v → t ≡ false → v < value_of o 1
  below_end et n = omega (arith, most-not t e v et n)

  pub to_end : t ≡ ltb e v → t ≡ false → v ≤ value_of o 1
  to_end et n = omega (arith, before-not t e v et n)
