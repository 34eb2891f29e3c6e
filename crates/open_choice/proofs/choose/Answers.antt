-- `open_choice::choose` meets its contract. Assumes nothing.
use mathlib.Core.Path.{sym, ◌∙◌}
use native.Mathlib.Omega.{arith}
use Rattle.open_choice.proofs.Chain.{empty_name, found-used, look-up-found, unknown}
use Rattle.open_choice.proofs.choose.Goals as goal

pub returns-then-is_scratch : goal.returns-then-is_scratch
returns-then-is_scratch c = record {
  verdict = empty_name _ _ _ _ (sym c.is_scratch.ensures ∙ c.if-is_scratch.true);
  there = tt;
}

pub found-requires : goal.found-requires
found-requires c = (c.requires, omega arith, found-used _ _ _ _ c.look_up-place.ensures c.if-place-lt-PLACES.true)

pub returns-then-place-lt-PLACES : goal.returns-then-place-lt-PLACES
returns-then-place-lt-PLACES c =
    record {
      verdict = c.found.ensures.verdict ∙ look-up-found _ _ _ _ (sym c.is_scratch.ensures ∙ c.if-is_scratch.false) _ c.look_up-place.ensures c.if-place-lt-PLACES.true;
      there = c.found.ensures.there;
    }

pub returns : goal.returns
returns c =
    record {
      verdict = unknown _ _ _ _ (sym c.is_scratch.ensures ∙ c.if-is_scratch.false) _ c.look_up-place.ensures c.if-place-lt-PLACES.false;
      there = tt;
    }
