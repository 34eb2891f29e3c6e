use Rattle.history_calls.specs.Telling.{counted}
use Rattle.history_calls.proofs.numbered.Goals as goal

pub returns-in-One : goal.returns-in-One
returns-in-One c = search counted

pub returns-in-None : goal.returns-in-None
returns-in-None c = search (counted, c.in-None.ensures)

pub returns-in-None-of_three_word : goal.returns-in-None-of_three_word
returns-in-None-of_three_word c = search (counted, c.in-None-of_three_word.ensures)

pub returns-in-Four : goal.returns-in-Four
returns-in-Four c = search counted

pub returns-in_default : goal.returns-in_default
returns-in_default c = search counted

pub returns-in_default-2 : goal.returns-in_default-2
returns-in_default-2 c = search counted
