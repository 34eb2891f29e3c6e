-- What a landlord sees of the state: his own records and the public ones, by their names, and his openings, apart from places. Assumes nothing.
use Rattle.std.specs.Prelude.{ℕ, ◌≤◌, ◌≡◌, Bool, not, cond, List, [], ◌∷◌, T, get_or}
use Rattle.std.proofs.Math.Option.{Option, none, some}
use Rattle.placing.specs.Sizes.{greatest_entry, entry_of}
use Rattle.rules.specs.Headings.{Heading, Open, head_of, passes}
use Rattle.rules.specs.Readable.{may_read}
use Rattle.rules.specs.Rules.{is_own, is_public}
use Rattle.model.specs.Model.{File, Body, Files}

-- the first record whose heading passes the test
abbrev pub found : (Heading → Bool) → List (Option File) → Option File
found f [] = none
found f (r ∷ rs) = cond (passes f (head_of r)) r (found f rs)

-- a place that he sees nothing of
abbrev pub unseen : ℕ → Option File → Bool
unseen a r = not (passes (may_read a) (head_of r))

-- no record in both, or the same one, which he may read
abbrev pub SamePlace : ℕ → List (Option File) → List (Option File) → Option ℕ → Option ℕ → Type 0
SamePlace a rs qs none none = Unit {0}
SamePlace a rs qs none (some q) = ⊥
SamePlace a rs qs (some p) none = ⊥
SamePlace a rs qs (some p) (some q) = (f : File) × T (may_read a f.head) × (get_or rs p none ≡ some f) × (get_or qs q none ≡ some f)

pub record SameOpening (a : ℕ) (rs qs : List (Option File)) (x y : Open Body) : Type 0 where
  pub place : SamePlace a rs qs x.handle.place y.handle.place
  pub permit : x.handle.permit ≡ y.handle.permit
  pub name : x.handle.name ≡ y.handle.name
  pub species : x.handle.species ≡ y.handle.species
  pub pointers : x.handle.pointers ≡ y.handle.pointers
  pub content : x.content ≡ y.content

abbrev pub SameEntry : ℕ → List (Option File) → List (Option File) → Option (Open Body) → Option (Open Body) → Type 0
SameEntry a rs qs none none = Unit {0}
SameEntry a rs qs none (some y) = ⊥
SameEntry a rs qs (some x) none = ⊥
SameEntry a rs qs (some x) (some y) = SameOpening a rs qs x y

pub record SeesSame (a : ℕ) (h k : Files) : Type 0 where
  pub own : (n : List ℕ) → found (is_own a n) h.records ≡ found (is_own a n) k.records
  pub public : (n : List ℕ) → found (is_public n) h.records ≡ found (is_public n) k.records
  pub mine : (e : ℕ) → e ≤ greatest_entry → SameEntry a h.records k.records (get_or h.openings (entry_of a e) none) (get_or k.openings (entry_of a e) none)
