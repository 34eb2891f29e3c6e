-- The calls that lines ask for, but for save and load, which name an image buffer. Assumes nothing.
use Rattle.std.specs.Prelude.{ℕ, ◌+◌, true, false, cond, List, [], ◌∷◌, drop, Option, Some, None}
use Rattle.rules.specs.Calls.{Call, starts, asks, arranges, on, count, opens, closes, abandons, uses}
use Rattle.rules.specs.Calls as call
use Rattle.history_words.specs.declared.Numbers.{Numbers}
use Rattle.history_words.specs.Words.{sameb, word_end, part, numbers_at}
use Rattle.history_lines.specs.declared.OfTwo.{OfTwo}
use Rattle.history_lines.specs.declared.OfThree.{OfThree}
use Rattle.history_lines.specs.declared.OfName.{OfName}
use Rattle.history_lines.specs.declared.signed.SignedWrite.{SignedWrite}
use Rattle.history_lines.specs.Spelling.{found, two_words, three_words, name_words}
use Rattle.history_lines.specs.Naming.{named_at}
use Rattle.history_lines.specs.Signing.{signed_write_at}

abbrev pub two_call : OfTwo → ℕ → ℕ → Option Call
two_call OfTwo.Close u e = Some (on u e (closes false))
two_call OfTwo.Public u e = Some (on u e (closes true))
two_call OfTwo.Abandon u e = Some (on u e (abandons))
two_call OfTwo.Reset u e = Some (on u e (uses call.reset))
two_call OfTwo.Species u e = Some (on u e (uses call.ask_species))
two_call OfTwo.Claim u e = Some (on u e (uses call.ask_claim))
two_call OfTwo.Permit u e = Some (on u e (uses call.ask_permit))
two_call OfTwo.Begin u e = Some (on u e (uses call.ask_begin))
two_call OfTwo.End u e = Some (on u e (uses call.ask_end))

abbrev pub three_call : OfThree → ℕ → ℕ → ℕ → Option Call
three_call OfThree.Next u e n = Some (on u e (uses (call.next n)))
three_call OfThree.Prev u e n = Some (on u e (uses (call.prev n)))
three_call OfThree.New u e n = Some (on u e (opens (call.new n)))
three_call OfThree.Pointer u e n = Some (on u e (uses (call.new_pointer n)))
three_call OfThree.Delete u e n = Some (on u e (uses (call.delete_pointer n)))
three_call OfThree.Symbol u e n = Some (on u e (uses (call.ask_symbol n)))
three_call OfThree.Value u e n = Some (on u e (uses (call.ask_value n)))
three_call OfThree.NextSigned u e n = Some (on u e (uses (call.next_signed n)))
three_call OfThree.PrevSigned u e n = Some (on u e (uses (call.prev_signed n)))

abbrev pub name_call : Option OfName → ℕ → ℕ → List ℕ → Option Call
name_call (Some OfName.Work) u e name = Some (on u e (opens (call.work name)))
name_call (Some OfName.Read) u e name = Some (on u e (opens (call.read name)))
name_call (Some OfName.Rename) u e name = Some (on u e (uses (call.rename name)))
name_call None u e name = None

-- "NAME is all bytes after the space that follows E, up to the line's end, as they are (spaces too); where nothing follows E, with or
-- without that space, it is the empty byte string."
abbrev pub with_name : Option OfName → List ℕ → Option (ℕ × ℕ × ℕ) → Option Call
with_name w line (Some found) = name_call w found.0 found.1 (drop (found.2 + 1) line)
with_name w line None = None

unfoldable pub named_call : Option OfName → List ℕ → ℕ → Option Call
named_call w line at = with_name w line (named_at line at)

-- fresh, tidy
abbrev pub alone_call : List ℕ → Option Call
alone_call w =
    cond (sameb w (102 ∷ 114 ∷ 101 ∷ 115 ∷ 104 ∷ [])) (Some (starts call.fresh))
    (cond (sameb w (116 ∷ 105 ∷ 100 ∷ 121 ∷ [])) (Some (arranges call.tidy)) None)

-- a word that is in the table of those that two numbers follow, or three
abbrev pub two_word_call : Option OfTwo → ℕ → ℕ → Option Call
two_word_call (Some w) u e = two_call w u e
two_word_call None u e = None

abbrev pub three_word_call : Option OfThree → ℕ → ℕ → ℕ → Option Call
three_word_call (Some w) u e n = three_call w u e n
three_word_call None u e n = None

-- a word and its numbers: "a number too many, too few, too large or malformed" is no call
abbrev pub call_of : List ℕ → Numbers → Option Call
call_of w Numbers.Zero = alone_call w
-- free
call_of w (Numbers.One u) = cond (sameb w (102 ∷ 114 ∷ 101 ∷ 101 ∷ [])) (Some (asks (count u))) None
call_of w (Numbers.Two u e) = two_word_call (found two_words w) u e
call_of w (Numbers.Three u e n) = three_word_call (found three_words w) u e n
-- write
call_of w (Numbers.Four u e p n) = cond (sameb w (119 ∷ 114 ∷ 105 ∷ 116 ∷ 101 ∷ [])) (Some (on u e (uses (call.write p n)))) None

abbrev pub call_with : List ℕ → Option Numbers → Option Call
call_with w (Some numbers) = call_of w numbers
call_with w None = None

abbrev pub signed_call : Option SignedWrite → Option Call
signed_call (Some w) = Some (on w.user w.entry (uses (call.write_signed w.pointer w.number)))
signed_call None = None

-- a word that ends at a place, and the numbers after it: write_signed, and the words of plain numbers
abbrev pub numbers_call : List ℕ → ℕ → Option Call
numbers_call line at =
    cond (sameb (part 0 at line) (119 ∷ 114 ∷ 105 ∷ 116 ∷ 101 ∷ 95 ∷ 115 ∷ 105 ∷ 103 ∷ 110 ∷ 101 ∷ 100 ∷ [])) (signed_call (signed_write_at line at))
    (call_with (part 0 at line) (numbers_at line at))

-- a line whose first word ends at a place
abbrev pub call_from : Option OfName → List ℕ → ℕ → Option Call
call_from (Some w) line at = named_call (Some w) line at
call_from None line at = numbers_call line at

-- the call that a line of bytes asks for
unfoldable pub call_in : List ℕ → Option Call
call_in line =
    let at = word_end line 0 in
    call_from (found name_words (part 0 at line)) line at
