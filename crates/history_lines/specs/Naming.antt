-- Lines with a name: user, entry, and "all bytes after the space that follows E". Assumes nothing.
use Rattle.std.specs.Prelude.{ℕ, ◌≡◌, List, Option, Some, None}
use Rattle.std.proofs.Common.{◌∙◌}
use Rattle.std.proofs.Math.Path.{ap}
use Rattle.history_words.specs.Words.{number_at}

abbrev pub on_found : {A : Type 0} → (ℕ → ℕ → Option A) → Option (ℕ × ℕ) → Option A
on_found f (Some found) = f found.0 found.1
on_found f None = None

-- user, entry, and the place where the entry's word ends
unfoldable pub entry_at : List ℕ → ℕ → ℕ → Option (ℕ × ℕ × ℕ)
entry_at line user at = on_found (λ entry to. Some (user, entry, to)) (number_at line at)

unfoldable pub named_at : List ℕ → ℕ → Option (ℕ × ℕ × ℕ)
named_at line at = on_found (entry_at line) (number_at line at)

-- ---- what the code that reads the line uses of it

module _ (line : List ℕ) (at : ℕ) (r : Option (ℕ × ℕ × ℕ)) where
  pub no-user : None ≡ number_at line at → r ≡ None → r ≡ named_at line at
  unfolding named_at
  no-user e p = p ∙ ap (on_found (entry_at line)) e

  pub user-there : (u to : ℕ) → Some (u, to) ≡ number_at line at → r ≡ entry_at line u to → r ≡ named_at line at
  unfolding named_at
  user-there u to e p = p ∙ ap (on_found (entry_at line)) e

  pub no-entry : (u : ℕ) → None ≡ number_at line at → r ≡ None → r ≡ entry_at line u at
  unfolding entry_at
  no-entry u e p = p ∙ ap (on_found (λ entry to. Some (u, entry, to))) e

  pub entry-there : (u n to : ℕ) → Some (n, to) ≡ number_at line at → r ≡ Some (u, n, to) → r ≡ entry_at line u at
  unfolding entry_at
  entry-there u n to e p = p ∙ ap (on_found (λ entry to. Some (u, entry, to))) e

pub ruleset naming = (no-user, user-there, no-entry, entry-there)
