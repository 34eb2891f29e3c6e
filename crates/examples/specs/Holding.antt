-- What a worked example says: of numbers that the definitions give, or of calls one after another. Assumes nothing.
use Rattle.std.specs.Prelude.{ℕ, ◌≡◌, List, [], ◌∷◌, map, ℤ, length}
use Rattle.combine.specs.Verdict.{Verdict, Said, done, on_done}
use Rattle.combine.specs.Outcome.{outcome_of}
use Rattle.placing.specs.Sizes.{Cells, tables_length}
use Rattle.numbers.specs.Numbers.{signed_of}
use Rattle.rules.specs.Calls.{Call}
use Rattle.rules.specs.Runs.{RunTold}
use Rattle.image.specs.Image.{Form, served, image_length, image_of}
use Rattle.image.specs.Reformed.{reformed_out}
use Rattle.cells.specs.Outcomes.{Lent, lent, saved, save_out, call_run}
use Rattle.demands.specs.History.{outcome_on, after_call, final}

-- ---- what is said of calls one after another, over a store of so many cells: whatever it, the tables and an image buffer held before

-- the calls are answered so
abbrev pub answers_on : List Call → Lent → List Said
answers_on [] x = []
answers_on (c ∷ cs) x = (outcome_on c x).answer ∷ answers_on cs (after_call c x)

unfoldable pub AnswersSo : (cells : ℕ) (calls : List Call) (said : List Said) → Type 0
AnswersSo n calls said = (store tables : Cells) → length store ≡ n → length tables ≡ tables_length → answers_on calls (lent store tables) ≡ said

-- and so, where every answer is read as a signed number (document 02, P5)
unfoldable pub GivesSo : (cells : ℕ) (calls : List Call) (given : List (Verdict ℤ)) → Type 0
GivesSo n calls given = (store tables : Cells) → length store ≡ n → length tables ≡ tables_length → map (on_done signed_of) (answers_on calls (lent store tables)) ≡ given

-- the runs among the calls tell so beside their answers
abbrev pub runs_on : List Call → Lent → List RunTold
runs_on [] x = []
runs_on (c ∷ cs) x = call_run c x.store x.tables ∷ runs_on cs (after_call c x)

unfoldable pub TellsSo : (cells : ℕ) (calls : List Call) (told : List RunTold) → Type 0
TellsSo n calls told = (store tables : Cells) → length store ≡ n → length tables ≡ tables_length → runs_on calls (lent store tables) ≡ told

-- a save after the calls is done, leaves the image in the buffer, and store and tables as the calls left them
unfoldable pub SavesAfter : (cells : ℕ) (calls : List Call) (image : Cells) → Type 0
SavesAfter n calls image =
    (store tables buffer : Cells) → length store ≡ n → length tables ≡ tables_length → length buffer ≡ image_length served
    → let x = final calls (lent store tables) in
    save_out x.store x.tables buffer ≡ outcome_of (done 0) (saved x.store x.tables image)

-- in a form of image, the tables that the calls leave are this image
unfoldable pub PacksAfter : Form → (cells : ℕ) (calls : List Call) (image : Cells) → Type 0
PacksAfter f n calls image =
    (store tables : Cells) → length store ≡ n → length tables ≡ tables_length → image_of f (final calls (lent store tables)).tables ≡ image

-- an image of one form, moved to another for a store of so many segments, is this one, whatever the buffer held (document 02, P7)
unfoldable pub MovesTo : (from to : Form) (image : Cells) (segments : ℕ) (moved : Cells) → Type 0
MovesTo f g image n moved = (buffer : Cells) → length buffer ≡ image_length g → reformed_out f g image buffer n ≡ outcome_of (done 0) moved

-- ---- what is said of that, and of numbers that the definitions give

pub data Example : Type 0 where
  numbers : (given said : List ℕ) → Example
  answers : (cells : ℕ) (calls : List Call) (said : List Said) → Example
  gives : (cells : ℕ) (calls : List Call) (given : List (Verdict ℤ)) → Example
  tells : (cells : ℕ) (calls : List Call) (told : List RunTold) → Example
  saves : (cells : ℕ) (calls : List Call) (image : Cells) → Example
  packs : (form : Form) (cells : ℕ) (calls : List Call) (image : Cells) → Example
  moves : (from to : Form) (image : Cells) (segments : ℕ) (moved : Cells) → Example

abbrev pub Holds : Example → Type 0
Holds (numbers given said) = given ≡ said
Holds (answers n calls said) = AnswersSo n calls said
Holds (gives n calls given) = GivesSo n calls given
Holds (tells n calls told) = TellsSo n calls told
Holds (saves n calls image) = SavesAfter n calls image
Holds (packs f n calls image) = PacksAfter f n calls image
Holds (moves f g image n moved) = MovesTo f g image n moved

abbrev pub AllHold : List Example → Type 0
AllHold [] = Unit {0}
AllHold (x ∷ xs) = Holds x × AllHold xs
