-- Where the work pointer of an old file starts, beside where it started in document 01: what relied on that place resets first. Assumes nothing.
use Rattle.std.specs.Prelude.{ℕ, ◌≡◌, Bool, true, false, ◌∷◌, replicate}
use Rattle.std.proofs.Math.Path.{refl}
use Rattle.std.proofs.Math.Option.{some}
use Rattle.combine.specs.Verdict.{done}
use Rattle.placing.specs.Sizes.{own_pointers}
use Rattle.rules.specs.Calls.{reset}
use Rattle.rules.specs.Headings.{Heading, Handle}
use Rattle.rules.specs.Effects.{stays, plain, does}
use Rattle.rules.specs.Access.{acting}
use Rattle.rules.specs.Rules.{work_start, opened_as}

-- what is so of the begin and of the end is so of where the work pointer starts
pub start_has : {A : Type 0} (P : A → Type 0) (w : Bool) (b e : A) → P b → P e → P (work_start w b e)
start_has P true b e at-begin at-end = at-end
start_has P false b e at-begin at-end = at-begin

pub start_of : {A B : Type 0} (f : A → B) (w : Bool) (b e : A) → f (work_start w b e) ≡ work_start w (f b) (f e)
start_of f true b e = refl
start_of f false b e = refl

-- document 01's: "On opening, the work pointer stands at the begin value."
abbrev pub opened_before : (for_work : Bool) (place : ℕ) → Heading → Handle
opened_before w p r = record { place = some p; permit = w; name = r.name; species = r.species; pointers = r.begin ∷ r.end ∷ r.begin ∷ replicate own_pointers 0 }

module _ (p : ℕ) (r : Heading) where
  -- "must reset first": open for work, then reset, is the opening as it was
  pub reset-as-before : (takes : ℕ → Bool) (room : Bool) → acting reset takes room (opened_as true p r) ≡ done (does (plain 0) (opened_before true p r) stays)
  unfolding opened_as
  reset-as-before takes room = refl

  -- "new and read openings stay as in 01"
  pub read-as-before : opened_as false p r ≡ opened_before false p r
  unfolding opened_as
  read-as-before = refl
