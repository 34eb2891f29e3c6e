-- `sound_keys::short` meets its contract. Assumes nothing.
use Prim.Native.Nat.{ℕ, ◌+◌, ◌*◌, ◌/◌, ◌%◌, ◌^◌}
use mathlib.Core.Path.{ap}
use Rattle.sound_keys.specs.Keys.{short_of}
use Rattle.sound_keys.proofs.short.Goals as goal

pub returns : goal.returns
unfolding short_of
returns c =
    let s = c.args in
    ap (λ (o : ℕ). ((s.high % 2 ^ 37 + 4099 * (s.low % 2 ^ 37)) * 32719 / 2 ^ 8 + o * 2 ^ 29) % 2 ^ 32) c.wide.ensures.0
