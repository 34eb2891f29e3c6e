-- "12 is never given again": what the laws of proofs/Laws/Refusals.antt say of a refusal. Assumes nothing.
use Rattle.std.specs.Prelude.{ℕ, not, T, eqb}

abbrev pub Not12 : ℕ → Type 0
Not12 n = T (not (eqb n 12))
