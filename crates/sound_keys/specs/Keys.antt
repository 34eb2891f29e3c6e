-- Numbers made of a name of six symbols and six: two used records have the same two keys exactly where they have the same
-- name. Assumes nothing.
use Rattle.std.specs.Prelude.{ℕ, zero, suc, ◌+◌, ◌*◌, ◌/◌, ◌%◌, ◌^◌, Bool, not, cond, ◌&&◌, ◌||◌, List, eqb, leb, get_or}
use Rattle.combine.specs.Below.{all_below}
use Rattle.tables.specs.declared.Record.{Record}

-- n numbers of a list from `at` on as the digits of one number, after a 1
unfoldable pub digits : List ℕ → ℕ → ℕ → ℕ
digits l at zero = 1
digits l at (suc n) = digits l at n * 64 + get_or l (at + n) 0

-- six symbols of a used record's name; 0 for an unused record, which no used one has
unfoldable pub key_of : Record → ℕ → ℕ
key_of r at = cond (eqb r.used 0) 0 (digits r.name at 6)

-- a number of 32 bits for two keys and an owner: records of one name and one owner have the same, and others seldom
unfoldable pub short_of : ℕ → ℕ → ℕ → ℕ
short_of high low owner = ((high % 2 ^ 37 + 4099 * (low % 2 ^ 37)) * 32719 / 2 ^ 8 + owner % 8 * 2 ^ 29) % 2 ^ 32

-- one for two keys alone, as public records of one name clash whoever owns them; 0 for a private record
unfoldable pub public_of : ℕ → ℕ → ℕ → ℕ
public_of high low private = cond (eqb private 0) (short_of high low 0) 0

-- of the numbers before place p in a list none is the one at place p
unfoldable pub newb : List ℕ → ℕ → Bool
newb l p = all_below p (λ q. not (eqb (get_or l p 0) (get_or l q 0)))

-- the short keys tell the record at place p from all before it; they are asked from place 16 on
unfoldable pub apartb : List ℕ → List ℕ → ℕ → ℕ → Bool
apartb owned public private p = leb 16 p && (newb owned p && (not (eqb private 0) || newb public p))
