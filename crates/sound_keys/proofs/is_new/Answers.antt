-- `sound_keys::is_new` meets its contract. Assumes nothing.
use Rattle.sound_keys.proofs.Listed.{not_listed}
use Rattle.sound_keys.proofs.is_new.Goals as goal

pub returns : goal.returns
returns c =
    not_listed _ c.args.p _ c.requires.0 c.requires.1 c.lists.ensures
