-- What the code knows of all keys of the records that it has passed. Assumes nothing.
use Rattle.std.specs.Prelude.{ℕ, ◌<◌, ◌≡◌, true, List, length, get_or}
use Rattle.placing.specs.Sizes.{places}
use Rattle.tables.specs.Layout.{record_at}
use Rattle.tables.specs.Fields.{is_used}
use Rattle.sound_keys.specs.Keys.{key_of, short_of, public_of}
use Rattle.sound_clashes.specs.Halves.{Halved}

-- lists have the two keys of the first n records of the tables t, and two further lists the short keys of those that are used
pub record Keyed (t high low owned public : List ℕ) (n : ℕ) : Type 0 where
  pub halves : Halved t high low n
  pub owned_long : length owned ≡ places
  pub public-long : length public ≡ places
  pub owned-short : (q : ℕ) → q < n → is_used (record_at t q) ≡ true → get_or owned q 0 ≡ short_of (key_of (record_at t q) 0) (key_of (record_at t q) 6) (record_at t q).owner
  pub public-short : (q : ℕ) → q < n → is_used (record_at t q) ≡ true → get_or public q 0 ≡ public_of (key_of (record_at t q) 0) (key_of (record_at t q) 6) (record_at t q).private
