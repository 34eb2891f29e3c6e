-- The refusals that come before a rule: the first part of document 01's order. Assumes nothing.
use Rattle.std.specs.Prelude.{ℕ, Bool, not, ltb}
use Rattle.placing.specs.Sizes.{greatest_user, greatest_entry}
use Rattle.combine.specs.Verdict.{Verdict, refuse◌when◌else◌}

module _ {S : Type 0} where
  -- "Order: 20, 1, 2": the number of free segments "names a user, no entry: 20, 1"
  unfoldable pub user_gate : (sound : Bool) (user : ℕ) → Verdict S → Verdict S
  user_gate sound u v =
      refuse 20 when not sound else
      refuse 1 when ltb greatest_user u else
      v

  unfoldable pub entry_gate : (sound : Bool) (user entry : ℕ) → Verdict S → Verdict S
  entry_gate sound u e v = user_gate sound u (refuse 2 when ltb greatest_entry e else v)

  -- "A fresh start and a load don't look at what the tables held, only at their length and the store's."
  unfoldable pub start_gate : (lengths : Bool) → Verdict S → Verdict S
  start_gate fit v = refuse 20 when not fit else v

  -- "Save and load: 20, then 22."
  unfoldable pub image_gate : (fit image : Bool) → Verdict S → Verdict S
  image_gate fit image v = start_gate fit (refuse 22 when not image else v)

  -- document 02, P13: "With nothing open (else refusal 14)": 20, then 14
  unfoldable pub still_gate : (sound busy : Bool) → Verdict S → Verdict S
  still_gate sound busy v = start_gate sound (refuse 14 when busy else v)
