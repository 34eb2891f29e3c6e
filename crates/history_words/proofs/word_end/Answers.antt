use Rattle.history_words.specs.Laws.{word-found, word_after}
use Rattle.history_words.proofs.word_end.Goals as goal

pub returns : goal.returns
returns c = record {
  value = word-found _ _ _ c.find.ensures.value;
  lower_bound = (word_after c.args.line.now _ _ c.find.ensures.value, c.find.ensures.upper_bound);
}
