-- What is read one number after another is what the line's numbers are: each number's own part of the meaning, from the last one back.
use Rattle.history_words.specs.Reading.{reading}
use Rattle.history_words.proofs.numbers_at.Goals as goal

pub returns-then-line-at : goal.returns-then-line-at
returns-then-line-at c = search reading

pub returns-in_err-first : goal.returns-in_err-first
returns-in_err-first c = search (reading, c.in_err-first.ensures)

pub returns-then-line-after_first : goal.returns-then-line-after_first
returns-then-line-after_first c = search (reading, c.in_ok-first.ensures)

pub returns-in_err-second : goal.returns-in_err-second
returns-in_err-second c = search (reading, c.in_ok-first.ensures, c.in_err-second.ensures)

pub returns-then-line-after_second : goal.returns-then-line-after_second
returns-then-line-after_second c = search (reading, c.in_ok-first.ensures, c.in_ok-second.ensures)

pub returns-in_err-third : goal.returns-in_err-third
returns-in_err-third c = search (reading, c.in_ok-first.ensures, c.in_ok-second.ensures, c.in_err-third.ensures)

pub returns-then-line-after_third : goal.returns-then-line-after_third
returns-then-line-after_third c = search (reading, c.in_ok-first.ensures, c.in_ok-second.ensures, c.in_ok-third.ensures)

pub returns-in_err-fourth : goal.returns-in_err-fourth
returns-in_err-fourth c = search (reading, c.in_ok-first.ensures, c.in_ok-second.ensures, c.in_ok-third.ensures, c.in_err-fourth.ensures)

pub returns-then-after_fourth-line : goal.returns-then-after_fourth-line
returns-then-after_fourth-line c = search (reading, c.in_ok-first.ensures, c.in_ok-second.ensures, c.in_ok-third.ensures, c.in_ok-fourth.ensures)

pub returns : goal.returns
returns c = search (reading, c.in_ok-first.ensures, c.in_ok-second.ensures, c.in_ok-third.ensures, c.in_ok-fourth.ensures)
