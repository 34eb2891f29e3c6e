-- What a plan says of user u's opening o, and what the chain of refusals is where a record is written, and where none is. Assumes nothing.
use Rattle.std.specs.Prelude.{ℕ, ◌<◌, Bool, ◌&&◌, ◌||◌, cond, List, eqb, leb, Result, Ok, Err}
use Rattle.std.proofs.Math.Option.{Option}
use Rattle.combine.specs.Lists.{any}
use Rattle.combine.specs.Verdict.{Verdict, refused, done, refuse◌when◌else◌}
use Rattle.answers.specs.declared.Refusal.{Refusal}
use Rattle.answers.specs.Said.{refusal_number}
use Rattle.placing.specs.Sizes.{places}
use Rattle.rules.specs.Headings.{Heading, Handle, passes}
use Rattle.rules.specs.Effects.{Effect, ended, unfiled, filed}
use Rattle.rules.specs.Rules.{is_own, is_public, headed, without, place_for, vanish}
use Rattle.tables.specs.declared.Opening.{Opening}
use Rattle.tables.specs.Handles.{handle_in, place_of}
use Rattle.catalogue_laws.specs.Places.{headings}
use Rattle.close_choice.specs.declared.Plan.{Plan}
use Rattle.close_choice.specs.declared.Plan.TheVariants.{Ends, Unfiles, Files}

-- the plan of a close, or its refusal
abbrev pub Decision : Type 0
Decision = Result Plan Refusal

unfoldable pub planned : ℕ → Opening → Decision → Verdict Effect
planned u o (Err why) = refused (refusal_number why)
planned u o (Ok Ends) = done ended
planned u o (Ok (Unfiles p)) = done (unfiled p)
planned u o (Ok (Files p public)) = done (filed p (headed public u (handle_in o)))

-- it can be carried out
abbrev pub InRange : Decision → Type 0
InRange (Err why) = Unit {0}
InRange (Ok Ends) = Unit {0}
InRange (Ok (Unfiles p)) = p < places
InRange (Ok (Files p public)) = p < places

-- "another record has the same owner and name, or public is asked and another public record has the name"
unfoldable pub takenb : List (Option Heading) → ℕ → List ℕ → Bool → Bool
takenb others u n public = any (passes (is_own u n)) others || public && any (passes (is_public n)) others

-- no record is written; k is the number of the opening's record, or 0
unfoldable pub ending_of : ℕ → ℕ → Bool → Verdict Effect
ending_of permit k public =
    refuse 18 when public else
    done (cond (eqb permit 1) (vanish (place_of k)) ended)

-- the record is written, with the name n
unfoldable pub filing_of : List ℕ → ℕ → List ℕ → ℕ → Bool → Handle → Verdict Effect
filing_of t u n k public h =
    let p = place_for (headings t) (place_of k) in
    refuse 16 when takenb (without (headings t) (place_of k)) u n public else
    refuse 17 when leb places p else
    done (filed p (headed public u h))
