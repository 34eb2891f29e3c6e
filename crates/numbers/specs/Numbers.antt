-- The numbers that elements stand for: plain ones, and signed ones. Assumes nothing.
use Rattle.std.specs.Prelude.{ℕ, ◌-◌, ◌*◌, ◌/◌, ◌%◌, ◌^◌, Bool, true, false, not, ◌||◌, leb, eqb, ℤ, pos, negsuc, ◌-ℤ◌}
use Rattle.std.specs.Int.Signed.{lt_z}
use Rattle.placing.specs.Sizes.{signed_species, width_of}
use Rattle.numbers.specs.declared.Number.{Number}
use Rattle.numbers.specs.declared.Number.TheVariants.{Plain, Signed}

-- ---- document 02, P5: "signed temperatures from -32,768 to 32,767 in 16 bits, the top bit counting minus 32,768"; negsuc k is -(k + 1)

abbrev pub least_signed : ℤ
least_signed = negsuc 32767

abbrev pub greatest_signed : ℤ
greatest_signed = pos 32767

-- what the top bit counts, below zero; 16 bits are twice as many
abbrev pub top_bit : ℕ
top_bit = 32768

abbrev pub signed_ways : ℕ
signed_ways = 2 * top_bit

-- the number that 16 bits stand for
unfoldable pub signed_of : (bits : ℕ) → ℤ
signed_of b = pos (b % top_bit) -ℤ pos (b / top_bit % 2 * top_bit)

-- the 16 bits that stand for a number: its lowest
unfoldable pub signed_bits : ℤ → ℕ
signed_bits (pos n) = n % signed_ways
signed_bits (negsuc k) = signed_ways - 1 - k % signed_ways

unfoldable pub out_of_range : ℤ → Bool
out_of_range z = lt_z z least_signed || lt_z greatest_signed z

-- ---- the two kinds of calls: the signed ones "refuse species 0 to 5 with 19, and the plain ones refuse species 6 with 19"

abbrev pub is_foreign : (signed : Bool) (species : ℕ) → Bool
is_foreign true s = not (eqb s signed_species)
is_foreign false s = eqb s signed_species

-- ---- a number as a write is given it

abbrev pub is_signed : Number → Bool
is_signed (Plain n) = false
is_signed (Signed z) = true

-- "A number too wide for its species, or outside its range where it is signed"
abbrev pub too_wide : (species : ℕ) → Number → Bool
too_wide s (Plain n) = leb (2 ^ width_of s) n
too_wide s (Signed z) = out_of_range z

-- the bits that are stored
abbrev pub bits_of : Number → ℕ
bits_of (Plain n) = n
bits_of (Signed z) = signed_bits z
