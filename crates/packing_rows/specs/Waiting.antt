-- Bits that wait between numbers xs, in the widths ws, and the cells of a row: what is known of them after the first `next` numbers. Assumes nothing.
use Rattle.std.specs.Prelude.{◌≡◌, List, ℕ, ◌+◌, ◌*◌, ◌^◌, ◌≤◌, ◌<◌, length, get_or, take}
use Rattle.packing.specs.Packing.{packed}

-- each width is 1 to 32 bits
abbrev pub Narrow : List ℕ → Type 0
Narrow ws = (i : ℕ) → i < length ws → (1 ≤ get_or ws i 0) × (get_or ws i 0 ≤ 32)

-- no number is too wide
abbrev pub Fitting : List ℕ → List ℕ → Type 0
Fitting ws xs = (i : ℕ) → i < length ws → get_or xs i 0 < 2 ^ get_or ws i 0

-- the bits that wait are fewer than 64
abbrev pub Begun : List ℕ → ℕ → ℕ → ℕ → Type 0
Begun ws number bits next = (next ≤ length ws) × (bits < 64) × (number < 2 ^ bits)

-- packed, the first numbers are a row of cells and then the bits that wait
abbrev pub Packs : List ℕ → List ℕ → ℕ → ℕ → ℕ → ℕ → Type 0
Packs ws xs row number bits next = packed (take next ws) (take next xs) ≡ row * 2 ^ bits + number

-- a row of cells is the first numbers, none of them too wide, and then the bits that wait
abbrev pub Unpacks : List ℕ → List ℕ → ℕ → ℕ → ℕ → ℕ → Type 0
Unpacks ws xs row number bits next =
    ((k : ℕ) → k < next → get_or xs k 0 < 2 ^ get_or ws k 0) × (row ≡ packed (take next ws) (take next xs) * 2 ^ bits + number)
