-- Requests on the cells of sound tables are requests on what the cells say. Assumes nothing.
use Rattle.std.specs.Prelude.{ℕ, ◌≤◌, ◌<◌, ◌≡◌, true, List, length}
use Rattle.std.proofs.Math.Path.{refl}
use Rattle.std.proofs.Common.{⊎_elim}
use borrow.Author.Tests.{lt-ltb, le-ltb}
use Rattle.combine.specs.Laws.Numbers.{le-or-lt}
use Rattle.combine.specs.Verdict.{refuse◌when◌else◌}
use Rattle.combine.specs.Outcome.{settle}
use Rattle.placing.specs.Sizes.{greatest_user, greatest_entry}
use Rattle.rules.specs.Calls.{Request}
use Rattle.rules.specs.Gates.{user_gate, entry_gate}
use Rattle.segments.specs.State.{request_on_segments}
use Rattle.tables.specs.Laws.Sound.{ranged-of}
use Rattle.cells.specs.Outcomes.{lent, sound_lent, request_out}
use Rattle.cells.specs.Laws.Lowered.{state_of, Lowers, request-lowered}
use Rattle.proof_cells_agree.specs.SoundSays.{sound-says}
use Rattle.proof_requests_agree.specs.Fits.{all_fit}

module _ (r : Request) (s t : List ℕ) (u e : ℕ) (sound : sound_lent s t ≡ true) where
  no-user : greatest_user < u → Lowers (request_out r s t u e) (request_on_segments r u e (state_of (lent s t)))
  unfolding request_out entry_gate user_gate settle refuse◌when◌else◌
  no-user l = rw (sound, lt-ltb greatest_user u l) (record { answer = refl; after = refl })

  no-entry : u ≤ greatest_user → greatest_entry < e → Lowers (request_out r s t u e) (request_on_segments r u e (state_of (lent s t)))
  unfolding request_out entry_gate user_gate settle refuse◌when◌else◌
  no-entry hu l = rw (sound, le-ltb greatest_user u hu, lt-ltb greatest_entry e l) (record { answer = refl; after = refl })

  pub request-agrees : Lowers (request_out r s t u e) (request_on_segments r u e (state_of (lent s t)))
  request-agrees = ⊎_elim
      (λ hu. ⊎_elim
      (λ he. request-lowered r s t u e (ranged-of (length s) t sound).0 sound (all_fit s t (sound-says (length s) t sound) r u e hu he))
      (λ l. no-entry hu l) (le-or-lt e greatest_entry))
      (λ l. no-user l) (le-or-lt u greatest_user)
