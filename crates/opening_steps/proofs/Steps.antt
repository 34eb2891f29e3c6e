-- The first or the last element leaves, as the code's steps give its premises. Assumes nothing.
use Prim.Native.Nat.{ℕ, suc, ◌+◌, ◌-◌, ◌≤◌, ◌<◌}
use mathlib.Core.Path.{◌≡◌, sym, ap, ◌∙◌}
use mathlib.Core.List.{List, [], ◌∷◌, ◌++◌}
use native.Mathlib.Numerals.{add-one}
use native.Mathlib.Omega.{arith}
use lib.Dec.{ltb}
use lib.ListN.{length, get_or, take, drop, set, replicate, length-drop}
use lib.Seq.{length-take-le, take-suc, take_all, append_snoc, set_at, get_or-drop}
use borrow.Author.Tests.{lt-ltb, le-ltb}
use Rattle.placing.specs.declared.Segment.{Segment}
use Rattle.placing.specs.declared.Position.{Position}
use Rattle.placing.specs.Sizes.{most_held}
use Rattle.placing.specs.Placing.{segment, position, held_of, slot_of}
use Rattle.tables.specs.declared.Opening.{Opening}
use Rattle.tables.specs.Fields.{value_of}
use Rattle.tables.specs.Handles.{pointed}
use Rattle.opening_laws.specs.Deeded.{with_segment, shifted, first_left, last_left}
use Rattle.opening_laws.specs.Back.{OpenFile}
use Rattle.opening_steps.specs.Spans.{Spans, file-spans, begin-spans, begin-holds, end-spans, end-holds}

-- ---- what an opening holds: b is its begin, e its end

module _ (o : Opening) (b : ℕ) (eb : b ≡ value_of o 0) where
  pub held-from : (h e : ℕ) → h ≡ held_of o.species b e → e ≡ value_of o 1 → h ≡ held_of o.species (value_of o 0) (value_of o 1)
  held-from h e eh ee = eh ∙ (λ i. held_of o.species (eb i) (ee i))

  pub place-from : (k x : ℕ) → k ≡ slot_of o.species b x → k ≡ slot_of o.species (value_of o 0) x
  place-from k x e = e ∙ ap (λ (j : ℕ). slot_of o.species j x) eb

pub ruleset counts = (held-from, place-from)

-- ---- a list of 32 without its first: the first i are those from the second on, the others zero

module _ (g l : List Segment) (i : ℕ) (long : length g ≡ 32) (e : l ≡ take i (drop 1 g) ++ replicate (32 - i) (segment 0)) where
  rest : length (drop 1 g) ≡ 31
  rest = length-drop 1 g ∙ ap (λ (n : ℕ). n - 1) long

  pub second-turn : i < 31 → (v : Segment) → v ≡ get_or g (i + 1) (segment 0) → set l i v ≡ take (i + 1) (drop 1 g) ++ replicate (32 - (i + 1)) (segment 0)
  second-turn h v ev =
      let z = segment 0 in
      let m = drop 1 g in
      let n : 32 - i ≡ suc (32 - (i + 1)) = omega arith in
      let k : i + 1 ≡ 1 + i = omega arith in
      let at : v ≡ get_or (drop 1 g) i z = ev ∙ ap (λ (j : ℕ). get_or g j z) k ∙ sym (get_or-drop 1 g i z) in
      ap (λ (x : List Segment). set x i v) (e ∙ ap (λ (j : ℕ). take i m ++ replicate j z) n)
      ∙ set_at (take i m) z (replicate (32 - (i + 1)) z) v i (length-take-le i m (omega (arith, rest)))
      ∙ ap (λ (x : Segment). take i m ++ (x ∷ replicate (32 - (i + 1)) z)) at
      ∙ sym (append_snoc (take i m) (get_or m i z) (replicate (32 - (i + 1)) z))
      ∙ ap (λ (x : List Segment). x ++ replicate (32 - (i + 1)) z) (sym (take-suc m i z (omega (arith, rest))) ∙ ap (λ (j : ℕ). take j m) (sym (add-one i)))

  pub second-done : i ≡ 31 → l ≡ drop 1 g ++ (segment 0 ∷ [])
  second-done h = e ∙ ap (λ (j : ℕ). take j (drop 1 g) ++ replicate (32 - j) (segment 0)) h ∙ ap (λ (x : List Segment). x ++ (segment 0 ∷ [])) (take_all 31 (drop 1 g) (omega (arith, rest)))

-- ---- the opening o, and m with its begin or its end moved from v to x; h and h' are what they hold

module _ (o m : Opening) (w : OpenFile o) (there : value_of o 0 < value_of o 1) (v x : Position) (h h' : ℕ)
    (eh : h ≡ held_of o.species (value_of o 0) (value_of o 1)) (eh' : h' ≡ held_of m.species (value_of m 0) (value_of m 1)) where
  module _ (ev : v.0 ≡ value_of o 0) (ex : x.0 ≡ v.0 + 1) (em : m ≡ pointed o 0 x) where
    second : x.0 ≡ value_of o 0 + 1
    second = ex ∙ ap (λ (k : ℕ). k + 1) ev

    first-moved : m ≡ pointed o 0 (position (value_of o 0 + 1))
    first-moved = em ∙ ap (λ (k : ℕ). pointed o 0 (position k)) second

    first-test : ltb (held_of o.species (value_of o 0 + 1) (value_of o 1)) (held_of o.species (value_of o 0) (value_of o 1)) ≡ ltb h' h
    first-test = sym (λ i. ltb ((eh' ∙ begin-holds o m w x em ∙ ap (λ (k : ℕ). held_of o.species k (value_of o 1)) second) i) (eh i))

    pub first-shift : (r : Opening) → h' < h → r ≡ shifted m → r ≡ first_left o
    unfolding first_left
    first-shift r l e = simp (first-test, lt-ltb h' h l) (e ∙ ap shifted first-moved)

    pub first-stay : h ≤ h' → m ≡ first_left o
    unfolding first_left
    first-stay l = simp (first-test, le-ltb h' h l) first-moved

  module _ (ev : v.0 ≡ value_of o 1) (ex : x.0 ≡ v.0 - 1) (em : m ≡ pointed o 1 x) where
    final : x.0 ≡ value_of o 1 - 1
    final = ex ∙ ap (λ (k : ℕ). k - 1) ev

    last-moved : m ≡ pointed o 1 (position (value_of o 1 - 1))
    last-moved = em ∙ ap (λ (k : ℕ). pointed o 1 (position k)) final

    last-test : ltb (held_of o.species (value_of o 0) (value_of o 1 - 1)) (held_of o.species (value_of o 0) (value_of o 1)) ≡ ltb h' h
    last-test = sym (λ i. ltb ((eh' ∙ end-holds o m w x em ∙ ap (λ (k : ℕ). held_of o.species (value_of o 0) k) final) i) (eh i))

    pub last-gone : (r : Opening) (g : Segment) → h' < h → g ≡ segment 0 → r ≡ with_segment m (h - 1) g → r ≡ last_left o
    unfolding last_left
    last-gone r g l eg e = simp (last-test, lt-ltb h' h l) (e ∙ (λ i. with_segment (last-moved i) (eh i - 1) (eg i)))

    pub last-stay : h ≤ h' → m ≡ last_left o
    unfolding last_left
    last-stay l = simp (last-test, le-ltb h' h l) last-moved

module _ (o m : Opening) (w : OpenFile o) (there : value_of o 0 < value_of o 1) (v x : Position) where
  pub first-spans : m ≡ pointed o 0 x → x.0 ≡ v.0 + 1 → v.0 ≡ value_of o 0 → Spans m
  first-spans em ex ev = begin-spans o m w x em (omega arith) (omega arith)

  pub last-spans : m ≡ pointed o 1 x → x.0 ≡ v.0 - 1 → v.0 ≡ value_of o 1 → Spans m
  last-spans em ex ev = let l = w.last in end-spans o m w x em (omega arith) (omega arith)

pub last-small : (o : Opening) (h : ℕ) → OpenFile o → h ≡ held_of o.species (value_of o 0) (value_of o 1) → h - 1 < most_held
last-small o h w e = let f = w.few in omega arith

pub ruleset leaving = (file-spans, first-spans, last-spans, first-shift, first-stay, last-small, last-gone, last-stay)
