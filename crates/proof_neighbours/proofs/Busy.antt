-- Whether a record that the landlord sees is open is the same where he sees the same. Assumes nothing.
use Rattle.std.specs.Prelude.{ℕ, ◌-◌, ◌*◌, ◌≤◌, ◌≡◌, refl, Bool, true, false, not, ◌&&◌, ◌||◌, List, map, T, eqb, length, get_or}
use Rattle.std.proofs.Common.{arith, sym, ap, ◌∙◌, subst, eqb→eq}
use Rattle.std.proofs.Math.Decide.{ℕ_discrete}
use Rattle.std.proofs.Math.Option.{Option, none, some}
use Rattle.std.proofs.Math.Dec.{eqb_refl}
use Rattle.std.proofs.Math.ListN.{get_or-map}
use Rattle.combine.specs.Lists.{any}
use Rattle.placing.specs.Sizes.{greatest_entry, row_entries, entries, entry_of, user_of}
use Rattle.rules.specs.Readable.{may_read}
use Rattle.rules.specs.Headings.{Heading, Handle, Open, head_of, handle_of, passes}
use Rattle.rules.specs.Rules.{is_own, is_public, has_name}
use Rattle.rules.specs.House.{opens_place}
use Rattle.segments.specs.Laws.Sound.{Single}
use Rattle.model.specs.Model.{File, Body, Files}
use Rattle.combine.specs.Laws.Tests.{and_first, and_second, and_intro, or_split}
use Rattle.combine.specs.Laws.Sums.{any_at}
use Rattle.combine.specs.Laws.Each.{any_where}
use Rattle.combine.specs.Laws.Same.{same_refl}
use Rattle.proof_neighbours.specs.Neighbours.{opens_public, NonePublic}
use Rattle.proof_neighbours.specs.Sees.{SamePlace, SameEntry, SeesSame}
use Rattle.proof_neighbours.proofs.Effects.{AllTied}

-- ---- a state as its users know it

pub record Known (a : ℕ) (k : Files) : Type 0 where
  pub own : (n : List ℕ) → Single (passes (is_own a n)) (map head_of k.records)
  pub public : (n : List ℕ) → Single (passes (is_public n)) (map head_of k.records)
  pub tied : AllTied k
  pub quiet : NonePublic a k
  pub entries : length k.openings ≡ entries

module _ (a : ℕ) (k : Files) (w : Known a k) where
  -- a file that he sees is at one place
  pub one_place : (f : File) → T (may_read a f.head) → (p q : ℕ) → get_or k.records p none ≡ some f → get_or k.records q none ≡ some f → p ≡ q
  one_place f t p q ep eq = go (ℕ_discrete p q)
    where
      at : (g : Heading → Bool) → T (g f.head) → (j : ℕ) → get_or k.records j none ≡ some f → T (passes g (get_or (map head_of k.records) j none))
      at g s j e = rw (get_or-map head_of k.records j none, e) s

      go : Dec (p ≡ q) → p ≡ q
      go (yes e) = e
      go (no d) =
          let r = f.head in
          absurd (or_split (not r.private) (eqb r.owner a) t
          (λ s. let b = and_intro (not r.private) (has_name r.name r) s (rw (same_refl r.name) tt) in
          w.public r.name p q d (at (is_public r.name) b p ep) (at (is_public r.name) b q eq))
          (λ s. let b = and_intro (eqb r.owner a) (has_name r.name r) s (rw (same_refl r.name) tt) in
          w.own r.name p q d (at (is_own a r.name) b p ep) (at (is_own a r.name) b q eq)))

  -- only his own openings are of such a file
  pub his-alone : (f : File) → T (may_read a f.head) → (i p : ℕ) (x : Open Body) → get_or k.openings i none ≡ some x → x.handle.place ≡ some p
      → get_or k.records p none ≡ some f → user_of i ≡ a
  his-alone f t i p x ix e there = go (ℕ_discrete (user_of i) a)
    where
      go : Dec (user_of i ≡ a) → user_of i ≡ a
      go (yes q) = q
      go (no d) =
          let r = w.tied i p x ix e in
          let z : some r.filed ≡ some f = sym r.there ∙ there in
          let g : r.filed ≡ f = cc in
          let readable : T (may_read (user_of i) f.head) = subst (λ (y : File). T (may_read (user_of i) y.head)) g r.readable in
          let q : T (not (opens_public k i)) = w.quiet i d in
          let hidden : T (not (not f.head.private)) = rw (ix, e, there) at q in
          absurd (d (clash f.head.private hidden f.head.owner readable t))
        where
          clash : (b : Bool) → T (not (not b)) → (o : ℕ) → T (not b || eqb o (user_of i)) → T (not b || eqb o a) → user_of i ≡ a
          clash true h o s t = sym (eqb→eq o (user_of i) s) ∙ eqb→eq o a t
          clash false h o s t = absurd h

-- ---- an opening of it here is one there

module _ (a : ℕ) (h k : Files) (s : SeesSame a h k) (wh : Known a h) (wk : Known a k) (f : File) (t : T (may_read a f.head))
    (p q : ℕ) (ep : get_or h.records p none ≡ some f) (eq : get_or k.records q none ≡ some f) where
  -- with a test of the work permit beside it
  module _ (w : Bool → Bool) where
    abbrev opens_it : ℕ → Handle → Bool
    opens_it j x = w x.permit && opens_place j x

    entry-there : (x y : Option (Open Body)) → SameEntry a h.records k.records x y → T (passes (opens_it p) (handle_of x)) → T (passes (opens_it q) (handle_of y))
    entry-there none y e o = absurd o
    entry-there (some x) none e o = absurd e
    entry-there (some x) (some y) e o =
        and_intro (w y.handle.permit) (opens_place q y.handle)
        (subst (λ (b : Bool). T (w b)) e.permit (and_first (w x.handle.permit) (opens_place p x.handle) o))
        (go x.handle.place y.handle.place e.place (and_second (w x.handle.permit) (opens_place p x.handle) o))
      where
        go : (m n : Option ℕ) → SamePlace a h.records k.records m n → T (passes (eqb p) m) → T (passes (eqb q) n)
        go none n r o = absurd o
        go (some m) none r o = absurd r
        go (some m) (some n) r o =
            let e : p ≡ m = eqb→eq p m o in
            let z : some f ≡ some r.0 = sym ep ∙ subst (λ (j : ℕ). get_or h.records j none ≡ some r.0) (sym e) r.2 in
            let g : r.0 ≡ f = cc in
            let there : get_or k.records n none ≡ some f = r.3 ∙ ap {B = Option File} some g in
            rw (one_place a k wk f t q n eq there) (eqb_refl n)

    whose : (i : ℕ) (x : Option (Open Body)) → get_or h.openings i none ≡ x → T (passes (opens_it p) (handle_of x)) → user_of i ≡ a
    whose i none ix o = absurd o
    whose i (some x) ix o = at x.handle.place refl (and_second (w x.handle.permit) (opens_place p x.handle) o)
      where
        at : (m : Option ℕ) → x.handle.place ≡ m → T (passes (eqb p) m) → user_of i ≡ a
        at none e o = absurd o
        at (some m) e o = his-alone a h wh f t i m x ix e (subst (λ (j : ℕ). get_or h.records j none ≡ some f) (eqb→eq p m o) ep)

    pub opened-there : T (any (passes (opens_it p)) (map handle_of h.openings)) → T (any (passes (opens_it q)) (map handle_of k.openings))
    opened-there o =
        let r = any_where (passes (opens_it p)) (map handle_of h.openings) none o in
        let i = r.0 in
        let here : T (passes (opens_it p) (handle_of (get_or h.openings i none))) = rw (get_or-map handle_of h.openings i none) at r.1 in
        let u : user_of i ≡ a = whose i (get_or h.openings i none) refl here in
        let e : ℕ = i - row_entries * a in
        let l : e ≤ greatest_entry = omega (arith, u) in
        let ie : entry_of a e ≡ i = omega (arith, u) in
        let there : T (passes (opens_it q) (handle_of (get_or k.openings i none))) =
        subst (λ (j : ℕ). T (passes (opens_it p) (handle_of (get_or h.openings j none))) → T (passes (opens_it q) (handle_of (get_or k.openings j none)))) ie
        (entry-there (get_or h.openings (entry_of a e) none) (get_or k.openings (entry_of a e) none) (s.mine e l)) here in
        any_at (passes (opens_it q)) (map handle_of k.openings) i none tt (rw (get_or-map handle_of k.openings i none) there)
