-- What the tests of positions say of their numbers. Assumes nothing.
use Rattle.std.specs.Prelude.{ℕ, ◌≤◌, ◌<◌, ◌≡◌, Bool, true, false, leb, ltb, eqb}
use Rattle.std.proofs.Common.{sym, ◌∙◌, ltb-true, ltb-false, leb-true, leb-false, eqb-true}
use Rattle.std.proofs.lemmas.Bool.{eqb-false}

module _ (b : Bool) (x y : ℕ) (e : b ≡ ltb x y) where
  pub before-so : b ≡ true → x < y
  before-so q = ltb-true x y (sym e ∙ q)

  pub before-not : b ≡ false → y ≤ x
  before-not q = ltb-false x y (sym e ∙ q)

module _ (b : Bool) (x y : ℕ) (e : b ≡ leb x y) where
  pub most-so : b ≡ true → x ≤ y
  most-so q = leb-true x y (sym e ∙ q)

  pub most-not : b ≡ false → y < x
  most-not q = leb-false x y (sym e ∙ q)

module _ (b : Bool) (x : ℕ) (e : b ≡ eqb x 0) where
  pub none_so : b ≡ true → x ≡ 0
  none_so q = eqb-true x 0 (sym e ∙ q)

  pub none-not : b ≡ false → x ≡ 0 → ⊥
  none-not q = eqb-false x 0 (sym e ∙ q)
