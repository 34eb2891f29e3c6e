-- Words and numbers of a line, as bytes: "Any other line is words parted by exactly one space." Assumes nothing.
use Rattle.std.specs.Prelude.{ℕ, suc, ◌+◌, ◌*◌, ◌-◌, Bool, true, false, ◌&&◌, ◌||◌, cond, List, [], ◌∷◌, leb, ltb, eqb, ℤ, pos, negsuc, ◌-ℤ◌, length, get_or, take, drop, Option, Some, None}
use Rattle.std.specs.Int.Signed.{lt_z}
use Rattle.names.specs.Names.{is_digit}
use Rattle.history_words.specs.declared.Numbers.{Numbers}
use Rattle.history_words.specs.declared.Numbers.TheVariants.{Zero, One, Two, Three, Four}

-- the same bytes
unfoldable pub sameb : List ℕ → List ℕ → Bool
sameb [] [] = true
sameb [] (b ∷ bs) = false
sameb (a ∷ rest) [] = false
sameb (a ∷ rest) (b ∷ bs) = eqb a b && sameb rest bs

-- the place of the first byte b in a list, or the list's length: the head's if it is b, else one after that in the rest
unfoldable pub index_after : (here : Bool) → ℕ → ℕ
index_after true n = 0
index_after false n = suc n

unfoldable pub index_of : ℕ → List ℕ → ℕ
index_of b [] = 0
index_of b (x ∷ l) = index_after (eqb x b) (index_of b l)

-- the bytes from a place up to another, the places counted from the list's first byte
unfoldable pub slice : ℕ → ℕ → List ℕ → List ℕ
slice from to l = drop from (take to l)

-- the place of the first space from a place on, or of the line's end
unfoldable pub word_end : List ℕ → ℕ → ℕ
word_end line from = from + index_of 32 (drop from line)

-- ---- "A number is decimal digits, 0 to 4294967295 (at most ten digits; leading zeros may stand)."

-- with the digits read so far worth v
unfoldable pub digits_from : ℕ → List ℕ → Option ℕ
digits_from v [] = Some v
digits_from v (b ∷ bs) =
    let next = 10 * v + b - 48 in
    cond (is_digit b && leb next 4294967295) (digits_from next bs) None

unfoldable pub number_of : List ℕ → Option ℕ
number_of word = cond (leb 1 (length word) && leb (length word) 10) (digits_from 0 word) None

-- ---- "A signed number is digits with or without one `-` before them, -2147483648 to 2147483647.", at most ten digits as of any number; `-` is byte 45,
-- negsuc k is -(k + 1)

unfoldable pub in_range : ℤ → Option ℤ
in_range z = cond (lt_z z (negsuc 2147483647) || lt_z (pos 2147483647) z) None (Some z)

-- what the digits make, and whether a `-` stands before them; with it 0 is 0
abbrev pub with_sign : (minus : Bool) → Option ℕ → Option ℤ
with_sign true (Some n) = in_range (pos 0 -ℤ pos n)
with_sign false (Some n) = in_range (pos n)
with_sign true None = None
with_sign false None = None

unfoldable pub signed_number_of : List ℕ → Option ℤ
signed_number_of word = cond (eqb (get_or word 0 0) 45) (with_sign true (number_of (drop 1 word))) (with_sign false (number_of word))

-- the one after the space at a place, up to the line's end: a space more is no digit
unfoldable pub last_signed : List ℕ → ℕ → Option ℤ
last_signed line at = signed_number_of (drop (at + 1) line)

-- ---- the numbers that follow a place, which is a space or the line's end

abbrev pub read_as : ℕ → Option ℕ → Option (ℕ × ℕ)
read_as to (Some n) = Some (n, to)
read_as to None = None

-- the bytes from a place up to another
abbrev pub part : ℕ → ℕ → List ℕ → List ℕ
part from to line = take (to - from) (drop from line)

-- the one after the space at a place
unfoldable pub number_at : List ℕ → ℕ → Option (ℕ × ℕ)
number_at line at =
    let to = word_end line (at + 1) in
    cond (leb (length line) at) None (read_as to (number_of (part (at + 1) to line)))

-- what follows a number that was read
abbrev pub on_number : (ℕ → ℕ → Option Numbers) → Option (ℕ × ℕ) → Option Numbers
on_number f (Some found) = f found.0 found.1
on_number f None = None

-- all of them, up to the line's end; more than four are not asked for by any line
unfoldable pub after_three : List ℕ → ℕ → ℕ → ℕ → ℕ → Option Numbers
after_three line at a b c =
    cond (leb (length line) at) (Some (Three a b c)) (on_number (λ d to. cond (ltb to (length line)) None (Some (Four a b c d))) (number_at line at))

unfoldable pub after_two : List ℕ → ℕ → ℕ → ℕ → Option Numbers
after_two line at a b = cond (leb (length line) at) (Some (Two a b)) (on_number (λ c to. after_three line to a b c) (number_at line at))

unfoldable pub after_one : List ℕ → ℕ → ℕ → Option Numbers
after_one line at a = cond (leb (length line) at) (Some (One a)) (on_number (λ b to. after_two line to a b) (number_at line at))

unfoldable pub numbers_at : List ℕ → ℕ → Option Numbers
numbers_at line at = cond (leb (length line) at) (Some Zero) (on_number (λ a to. after_one line to a) (number_at line at))
