-- `tables::Opening::value` meets its contract. Assumes nothing.
use mathlib.Core.Path.{◌≡◌, refl, sym, ◌∙◌}
use lib.ListN.{length}
use Rattle.tables.specs.Laws.Lengths.{unmapped}
use Rattle.tables.specs.Fields.{value_of}
use Rattle.tables.specs.Laws.Pointers.{value_none}
use borrow.Author.Rules.{rules}
use Rattle.tables.proofs.Opening.value.Goals as goal

pub returns-then-pointer-gt-GREATEST_POINTER : goal.returns-then-pointer-gt-GREATEST_POINTER
returns-then-pointer-gt-GREATEST_POINTER c =
    let a = c.args in
    let eight : length a.self.pointers ≡ 8 = search (rules, unmapped) in
    c.none.ensures ∙ sym (value_none a.self a.pointer eight c.if-pointer-gt-GREATEST_POINTER.true)

pub returns : goal.returns
unfolding value_of
returns c = refl
