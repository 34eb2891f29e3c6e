-- What the code knows of the two keys of the records that it has passed. Assumes nothing.
use Rattle.std.specs.Prelude.{ℕ, ◌≤◌, ◌<◌, ◌≡◌, Bool, ◌&&◌, ◌||◌, List, eqb, length, get_or}
use Rattle.placing.specs.Sizes.{places, tables_length}
use Rattle.tables.specs.declared.Record.{Record}
use Rattle.tables.specs.Layout.{record_at}
use Rattle.sound_keys.specs.Keys.{key_of}

-- of one owner, or both public
unfoldable pub kinb : Record → Record → Bool
kinb r q = eqb r.owner q.owner || (eqb r.private 0 && eqb q.private 0)

-- what the numbers rest on: as in sound records, the name is of symbols below 64
pub record Spelled (r : Record) : Type 0 where
  pub flag : r.used ≤ 1
  pub symbols : (k : ℕ) → k < 12 → get_or r.name k 0 < 64

-- the lists have the two numbers of the first n records of the tables t
pub record Halved (t high low : List ℕ) (n : ℕ) : Type 0 where
  pub long : length t ≡ tables_length
  pub spelled : (q : ℕ) → q < places → Spelled (record_at t q)
  pub within : n ≤ places
  pub high-long : length high ≡ places
  pub low-long : length low ≡ places
  pub highs : (q : ℕ) → q < n → get_or high q 0 ≡ key_of (record_at t q) 0
  pub lows : (q : ℕ) → q < n → get_or low q 0 ≡ key_of (record_at t q) 6
