-- The parts of a form. Assumes nothing.
use Rattle.std.specs.Prelude.{◌≡◌, ◌==◌, ℕ, List, IfSome}
use Rattle.std.specs.Iterator.Adapters.{skip_steps}
use Rattle.std.specs.Iterator.Runs.{EachRunFrom, AllItems}
use Rattle.std.specs.List.{before_first}
use Rattle.std.specs.Str.Iter.{HasSubslice, split_steps}
use Rattle.std.specs.Str.Pattern.{FindsChar}
use Rattle.std.specs.declared.iter.Skip.{Skip}
use Rattle.std.specs.declared.str.Split.{Split}
use Rattle.history_faults.specs.declared.Explanation.{Explanation}
use Rattle.history_faults.specs.declared.Explanation.TheVariants.{Departure}
use Rattle.history_faults.specs.declared.forms.TheConstants.{FORMS}

-- what stands before a text's first space, or all of it
abbrev pub first_word : List ℕ → List ℕ
first_word text = before_first (λ byte. byte == 32) text

-- each part that comes stands in the text
abbrev pub YieldsPartsOf : List ℕ → Skip (Split ℕ) → Type 0
YieldsPartsOf text parts =
    EachRunFrom (skip_steps (split_steps FindsChar (λ a b. b ≡ a))) parts
    (λ run. AllItems run (λ part. HasSubslice text part.now))

-- a form that is named stands in the list of forms, and a field that is named in its form
abbrev pub NamesParts : Explanation → Type 0
NamesParts (Departure d) = HasSubslice FORMS.now d.form.now × IfSome d.field (λ field. HasSubslice d.form.now field.now)
NamesParts _ = Unit {0}
