-- What is done when an opening o of user u, at entry i of the tables t, is closed. Assumes nothing.
use Rattle.std.specs.Prelude.{ℕ, List}
use Rattle.combine.specs.Verdict.{done}
use Rattle.combine.specs.Outcome.{Outcome, outcome_of}
use Rattle.tables.specs.declared.Opening.{Opening}
use Rattle.tables.specs.Layout.{put_record, put_opening, unused_record, closed_opening}
use Rattle.cells.specs.Laws.Catalogue.{filed_record}
use Rattle.close_choice.specs.declared.Plan.{Plan}
use Rattle.close_choice.specs.declared.Plan.TheVariants.{Ends, Unfiles, Files}

-- a plan, carried out on the tables
unfoldable pub carried : List ℕ → ℕ → ℕ → Opening → Plan → Outcome (List ℕ)
carried t i u o Ends = outcome_of (done 0) (put_opening t i closed_opening)
carried t i u o (Unfiles p) = outcome_of (done 0) (put_opening (put_record t p unused_record) i closed_opening)
carried t i u o (Files p public) = outcome_of (done 0) (put_opening (put_record t p (filed_record public u o)) i closed_opening)
