-- An entry that is emptied leaves the others more room, and fewer openings to heed. Assumes nothing.
use Rattle.std.specs.Prelude.{ℕ, zero, suc, ◌≤◌, ◌≡◌, refl, Bool, true, false, ◌||◌, List, [], ◌∷◌, map, T, set}
use Rattle.std.proofs.Common.{arith, le_refl, ltb→lt, lt→ltb}
use Rattle.std.proofs.Math.Option.{none}
use Rattle.combine.specs.Lists.{any, total}
use Rattle.rules.specs.Headings.{handle_of, passes}
use Rattle.rules.specs.Effects.{Others}
use Rattle.rules.specs.House.{house, opens_place, works_place, others_of}
use Rattle.model.specs.Model.{Files, Model, model, owned_by, free, model_level}
use Rattle.combine.specs.Laws.Tests.{or-second}
use Rattle.combine.specs.Laws.Replaced.{map-set}

-- ---- the entry i emptied

abbrev pub emptied_house : ℕ → Files → Files
emptied_house i h = house h.segments h.records (set h.openings i none)

abbrev pub emptied : ℕ → Model → Model
emptied i m = model m.cells (emptied_house i m.house)

or_map : (a b c : Bool) → (T c → T b) → T (a || c) → T (a || b)
or_map true b c h t = tt
or_map false b c h t = h t

any-set : {A : Type 0} (f : A → Bool) (l : List A) (i : ℕ) (x : A) → f x ≡ false → T (any f (set l i x)) → T (any f l)
any-set f [] i x e t = t
any-set f (y ∷ ys) zero x e t = or-second (f y) (any f ys) (rw e at t)
any-set f (y ∷ ys) (suc i) x e t = or_map (f y) (any f ys) (any f (set ys i x)) (any-set f ys i x e) t

total-set : {A : Type 0} (f : A → ℕ) (l : List A) (i : ℕ) (x : A) → f x ≡ 0 → total f (set l i x) ≤ total f l
total-set f [] i x e = le_refl 0
total-set f (y ∷ ys) zero x e = omega arith
total-set f (y ∷ ys) (suc i) x e = omega (arith, total-set f ys i x e)

-- the opening takes room, if anything
pub free-eased : (i : ℕ) (h : Files) → free h ≤ free (emptied_house i h)
unfolding free
free-eased i h = omega (arith, total-set owned_by h.openings i none refl)

-- ---- what is seen of the others: more room, and no more openings

pub record Eased (o p : Others) : Type 0 where
  pub room : T o.room → T p.room
  pub opened : (q : ℕ) → T (p.opened q) → T (o.opened q)
  pub worked : (q : ℕ) → T (p.worked q) → T (o.worked q)

abbrev pub others_in : Files → Others
others_in h = others_of (model_level.room h) h.openings

pub eased : (i : ℕ) (h : Files) → Eased (others_in h) (others_in (emptied_house i h))
eased i h = record {
  room = λ t. lt→ltb 0 (free (emptied_house i h)) (omega (arith, ltb→lt 0 (free h) t, free-eased i h));
  opened = λ q t. any-set (passes (opens_place q)) (map handle_of h.openings) i none refl (rw map-set at t);
  worked = λ q t. any-set (passes (works_place q)) (map handle_of h.openings) i none refl (rw map-set at t);
}
