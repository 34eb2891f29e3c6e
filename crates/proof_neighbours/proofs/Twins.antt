-- What the landlord sees, read the other way round and of one house; and effects that are the same but for places. Assumes nothing.
use Rattle.std.specs.Prelude.{ℕ, ◌≤◌, ◌≡◌, refl, Bool, List, T, get_or}
use Rattle.std.proofs.Common.{arith, sym, subst}
use Rattle.std.proofs.Math.Option.{Option, none, some}
use Rattle.placing.specs.Sizes.{greatest_entry, entry_of}
use Rattle.rules.specs.Readable.{may_read}
use Rattle.rules.specs.Headings.{Heading, Handle, Open, opening}
use Rattle.rules.specs.Effects.{Effect, opens_new, opens_old, ended, unfiled, filed, used, Use}
use Rattle.rules.specs.Laws.Acts.{placed, move_to}
use Rattle.rules.specs.Rules.{opened_as}
use Rattle.model.specs.Model.{File, Body, Files}
use Rattle.proof_neighbours.specs.Sees.{SamePlace, SameOpening, SameEntry, SeesSame}
use Rattle.proof_neighbours.proofs.Busy.{Known}
use Rattle.proof_neighbours.proofs.Refiled.{Spot}

-- ---- the other way round

place-sym : (a : ℕ) (rs qs : List (Option File)) (m n : Option ℕ) → SamePlace a rs qs m n → SamePlace a qs rs n m
place-sym a rs qs none none t = tt
place-sym a rs qs none (some n) t = t
place-sym a rs qs (some m) none t = t
place-sym a rs qs (some m) (some n) t = (t.0, t.1, t.3, t.2)

entry-sym : (a : ℕ) (rs qs : List (Option File)) (x y : Option (Open Body)) → SameEntry a rs qs x y → SameEntry a qs rs y x
entry-sym a rs qs none none t = tt
entry-sym a rs qs none (some y) t = t
entry-sym a rs qs (some x) none t = t
entry-sym a rs qs (some x) (some y) t = record {
  place = place-sym a rs qs x.handle.place y.handle.place t.place;
  permit = sym t.permit;
  name = sym t.name;
  species = sym t.species;
  pointers = sym t.pointers;
  content = sym t.content;
}

pub sees-sym : (a : ℕ) (h k : Files) → SeesSame a h k → SeesSame a k h
sees-sym a h k s = record { own = λ n. sym (s.own n); public = λ n. sym (s.public n); mine = λ e l. entry-sym a h.records k.records (get_or h.openings (entry_of a e) none) (get_or k.openings (entry_of a e) none) (s.mine e l) }

-- what he sees of one house, he sees of it
place-refl : (a : ℕ) (rs : List (Option File)) (m : Option ℕ) → ((p : ℕ) → m ≡ some p → (f : File) × T (may_read a f.head) × (get_or rs p none ≡ some f)) → SamePlace a rs rs m m
place-refl a rs none h = tt
place-refl a rs (some m) h = let f = h m refl in (f.0, f.1, f.2, f.2)

entry-refl : (a : ℕ) (h : Files) → Known a h → (e : ℕ) → e ≤ greatest_entry → (x : Option (Open Body)) → get_or h.openings (entry_of a e) none ≡ x → SameEntry a h.records h.records x x
entry-refl a h w e l none ix = tt
entry-refl a h w e l (some x) ix = record {
  place = place-refl a h.records x.handle.place
      (λ p q. let r = w.tied (entry_of a e) p x ix q in (r.filed, subst (λ (u : ℕ). T (may_read u r.filed.head)) (omega (arith, l)) r.readable, r.there));
  permit = refl;
  name = refl;
  species = refl;
  pointers = refl;
  content = refl;
}

pub sees-refl : (a : ℕ) (h : Files) → Known a h → SeesSame a h h
sees-refl a h w = record { own = λ n. refl; public = λ n. refl; mine = λ e l. entry-refl a h w e l (get_or h.openings (entry_of a e) none) refl }

-- ---- the same handle, but for the place

abbrev pub sat : Open Body → Option ℕ → Open Body
sat x q = opening (placed x.handle q) x.content

pub same-sat : (a : ℕ) (rs qs : List (Option File)) (x y : Open Body) → SameOpening a rs qs x y → y ≡ sat x y.handle.place
same-sat a rs qs x y t = λ i. opening (record {
  place = y.handle.place;
  permit = sym t.permit i;
  name = sym t.name i;
  species = sym t.species i;
  pointers = sym t.pointers i;
}) (sym t.content i)

-- ---- effects that are the same but for places; x is his opening here, and there it is at q

pub data Twin (a : ℕ) (rs qs : List (Option File)) (x : Open Body) (q : Option ℕ) : Effect → Effect → Type 0 where
  news : (n : Handle) → n.place ≡ none → Twin a rs qs x q (opens_new n) (opens_new n)
  olds : (m n : ℕ) (w : Bool) (f : File) → T (may_read a f.head) → get_or rs m none ≡ some f → get_or qs n none ≡ some f
      → Twin a rs qs x q (opens_old m (opened_as w m f.head)) (opens_old n (opened_as w n f.head))
  ends : Twin a rs qs x q ended ended
  frees : (m n : ℕ) → Spot a rs qs m n → Twin a rs qs x q (unfiled m) (unfiled n)
  files : (m n : ℕ) (r : Heading) → T (may_read a r) → Spot a rs qs m n → Twin a rs qs x q (filed m r) (filed n r)
  acts : (u : Use) → u.handle.place ≡ x.handle.place → Twin a rs qs x q (used u) (used (move_to q u))
