-- An answer in document 01's numbers. Assumes nothing.
use Rattle.std.specs.Prelude.{ℕ, ℤ, Result, Ok, Err}
use Rattle.answers.specs.declared.Refusal.{Refusal}
use Rattle.answers.specs.declared.Refusal.TheVariants as R
use Rattle.combine.specs.Verdict.{Verdict, Said, refused, done}

-- the table of refusals; 12 is a hole in it: "12 is never given again" (document 02, P4)
abbrev pub refusal_number : Refusal → ℕ
-- user above 7
refusal_number R.User = 1
-- entry above 3, or not open where it must be
refusal_number R.Entry = 2
-- entry open at an opening
refusal_number R.Open = 3
-- not a pointer of the file, or a standard one to delete
refusal_number R.Pointer = 4
-- no work permit
refusal_number R.Permit = 5
-- below the begin
refusal_number R.Below = 6
-- beyond the end
refusal_number R.Beyond = 7
-- a 33rd segment needed
refusal_number R.Segments = 8
-- no room: a segment needed, none free
refusal_number R.Room = 9
-- positions used up
refusal_number R.Positions = 10
-- unknown name
refusal_number R.Unknown = 11
-- no work on another's file
refusal_number R.NoWork = 13
-- not now
refusal_number R.NotNow = 14
-- old file asked for by the empty name
refusal_number R.Empty = 15
-- name taken by another record
refusal_number R.Taken = 16
-- new file, no free place
refusal_number R.Place = 17
-- read or scratch closed as public
refusal_number R.Public = 18
-- species above 6, or not of the call's kind (document 02, P5)
refusal_number R.Species = 19
-- tables of wrong length or unsound, or store under 64 cells
refusal_number R.Tables = 20
-- no own pointer left
refusal_number R.Pointers = 21
-- image of wrong length, or unsound
refusal_number R.Image = 22
-- a number too wide for its species, or outside its range where it is signed (document 02, P5)
refusal_number R.Wide = 23
-- a begin or an end beyond 16,777,215, the greatest of form 1 (document 02, P7)
refusal_number R.Far = 24

-- "An answer is either done, with its number where there is one, or refused, with one of these inside it": done is 0 where there is no number
abbrev pub Answer : Type 0
Answer = Result ℕ Refusal

-- of a call that gives a signed number
abbrev pub SignedAnswer : Type 0
SignedAnswer = Result ℤ Refusal

-- what an answer says
abbrev pub said : Answer → Said
said (Ok n) = done n
said (Err r) = refused (refusal_number r)

-- what one with a signed number says
abbrev pub said_signed : SignedAnswer → Verdict ℤ
said_signed (Ok z) = done z
said_signed (Err r) = refused (refusal_number r)
