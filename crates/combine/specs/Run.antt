-- Calls made one after another, till the first that is refused, over any kind of state. Assumes nothing.
use Rattle.std.specs.Prelude.{ℕ, suc, List, [], ◌∷◌}
use Rattle.combine.specs.Verdict.{Said, refused, done}
use Rattle.combine.specs.Outcome.{Outcome}

-- how many were done; the number of the refusal that stopped them, or 0; the numbers of their answers; the state afterwards
pub record Ran (S : Type 0) : Type 0 where
  pub many : ℕ
  pub stop : ℕ
  pub told : List ℕ
  pub after : S

module _ {S : Type 0} where
  abbrev pub ran : (many stop : ℕ) (told : List ℕ) → S → Ran S
  ran k n l x = record { many = k; stop = n; told = l; after = x }

  -- after an answer, which left x: it stops there, or what comes after it goes on
  abbrev pub onwards : Said → S → Ran S → Ran S
  onwards (refused n) x r = ran 0 n [] x
  onwards (done v) x r = ran (suc r.many) r.stop (v ∷ r.told) r.after

  -- each call gets the state as the one before left it
  unfoldable pub run_over : {A : Type 0} → (call : A → S → Outcome S) → List A → S → Ran S
  run_over call [] x = ran 0 0 [] x
  run_over call (a ∷ rest) x =
      let o = call a x in
      onwards o.answer o.after (run_over call rest o.after)

  -- what is refused before the first call leaves all as it stood
  abbrev pub admitted : S → Said → Ran S → Ran S
  admitted x (refused n) r = ran 0 n [] x
  admitted x (done k) r = r
