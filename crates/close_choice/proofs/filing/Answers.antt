-- `close_choice::filing` meets its contract. Assumes nothing.
use Rattle.close_choice.proofs.Chain.{name-taken, no_place, becomes-record}
use Rattle.close_choice.proofs.filing.Goals as goal

pub returns-then-taken : goal.returns-then-taken
returns-then-taken c =
    let a = c.args in record {
      verdict = λ o. name-taken a.tables.now a.user a.name.now a.place a.public o _ c.taken.ensures c.if-taken.true;
      range = tt;
    }

pub returns-then-at-ge-PLACES : goal.returns-then-at-ge-PLACES
returns-then-at-ge-PLACES c =
    let a = c.args in record {
      verdict = λ o. no_place a.tables.now a.user a.name.now a.place a.public o _ c.taken.ensures c.if-taken.false _ c.place_for-at.ensures c.if-at-ge-PLACES.true;
      range = tt;
    }

pub returns : goal.returns
returns c =
    let a = c.args in record {
      verdict = λ o. becomes-record a.tables.now a.user a.name.now a.place a.public o _ c.taken.ensures c.if-taken.false _ c.place_for-at.ensures c.if-at-ge-PLACES.false;
      range = c.if-at-ge-PLACES.false;
    }
