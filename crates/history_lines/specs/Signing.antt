-- The line of a signed write, "write_signed U E P X (X a signed number)": user, entry, pointer, and a signed number at its end. Assumes nothing.
use Rattle.std.specs.Prelude.{ℕ, ◌≡◌, List, ℤ, Option, Some, None}
use Rattle.std.proofs.Common.{◌∙◌, SFits, of_z, to_z}
use Rattle.std.proofs.Math.Path.{ap}
use mir.Syntax.{w32}
use Rattle.std.proofs.lemmas.Int.{to_z-of_z}
use Rattle.history_words.specs.Words.{number_at, last_signed}
use Rattle.history_lines.specs.declared.signed.SignedWrite.{SignedWrite}
use Rattle.history_lines.specs.Naming.{named_at, on_found}

abbrev pub signed_write : (user entry pointer : ℕ) → ℤ → SignedWrite
signed_write u e p z = record { user = u; entry = e; pointer = p; number = z }

abbrev pub on_signed : (user entry pointer : ℕ) → Option ℤ → Option SignedWrite
on_signed u e p (Some z) = Some (signed_write u e p z)
on_signed u e p None = None

unfoldable pub signed_at : List ℕ → (user entry pointer at : ℕ) → Option SignedWrite
signed_at line u e p at = on_signed u e p (last_signed line at)

unfoldable pub pointer_at : List ℕ → (user entry at : ℕ) → Option SignedWrite
pointer_at line u e at = on_found (λ p to. signed_at line u e p to) (number_at line at)

abbrev pub on_named : List ℕ → Option (ℕ × ℕ × ℕ) → Option SignedWrite
on_named line (Some found) = pointer_at line found.0 found.1 found.2
on_named line None = None

unfoldable pub signed_write_at : List ℕ → ℕ → Option SignedWrite
signed_write_at line at = on_named line (named_at line at)

-- ---- what the code that reads the line uses of it

module _ (line : List ℕ) (at : ℕ) (r : Option SignedWrite) where
  pub no-user : None ≡ named_at line at → r ≡ None → r ≡ signed_write_at line at
  unfolding signed_write_at
  no-user e p = p ∙ ap (on_named line) e

  pub user-there : (u n to : ℕ) → Some (u, n, to) ≡ named_at line at → r ≡ pointer_at line u n to → r ≡ signed_write_at line at
  unfolding signed_write_at
  user-there u n to e p = p ∙ ap (on_named line) e

  module _ (u n : ℕ) where
    pub no_pointer : None ≡ number_at line at → r ≡ None → r ≡ pointer_at line u n at
    unfolding pointer_at
    no_pointer e p = p ∙ ap (on_found (λ p to. signed_at line u n p to)) e

    pub pointer-there : (p to : ℕ) → Some (p, to) ≡ number_at line at → r ≡ signed_at line u n p to → r ≡ pointer_at line u n at
    unfolding pointer_at
    pointer-there p to e q = q ∙ ap (on_found (λ p to. signed_at line u n p to)) e

    module _ (p : ℕ) where
      pub no-number : None ≡ last_signed line at → r ≡ None → r ≡ signed_at line u n p at
      unfolding signed_at
      no-number e q = q ∙ ap (on_signed u n p) e

      -- a signed number comes out of its bits again
      pub number-there : (z : ℤ) → SFits w32 z → Some z ≡ last_signed line at → r ≡ Some (signed_write u n p (to_z w32 (of_z w32 z))) → r ≡ signed_at line u n p at
      unfolding signed_at
      number-there z f e q = q ∙ ap (λ y. Some (signed_write u n p y)) (to_z-of_z w32 z f) ∙ ap (on_signed u n p) e

pub ruleset signing = (no-user, user-there, no_pointer, pointer-there, no-number, number-there)
