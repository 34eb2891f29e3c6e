-- Laws of combine/specs/Rows.antt. Assumes nothing.
use Rattle.std.specs.Prelude.{ℕ, zero, suc, ◌≡◌, refl, Bool, true, false, List, [], ◌∷◌, get_or}
use Rattle.std.proofs.Common.{sym, ◌∙◌}
use Rattle.std.proofs.Math.Bool.{and-true, true-and}
use Rattle.combine.specs.Laws.Below.{not-both, both, bad-left, bad-right, left-of, right_of}
use Rattle.combine.specs.Rows.{all_of}

-- one test that fails, by its place
pub one-bad : (bs : List Bool) (i : ℕ) → get_or bs i true ≡ false → false ≡ all_of bs
unfolding all_of
one-bad [] i e = absurd (not-both refl e)
one-bad (b ∷ bs) zero e = sym (bad-left b (all_of bs) e)
one-bad (b ∷ bs) (suc i) e = sym (bad-right b (all_of bs) (sym (one-bad bs i e)))

-- all of them hold: a fact for each, as a pair nested to the right, with tt last
abbrev pub Each : List Bool → Type 0
Each [] = Unit
Each (b ∷ bs) = (b ≡ true) × Each bs

pub all-good : (bs : List Bool) → Each bs → true ≡ all_of bs
unfolding all_of
all-good [] h = refl
all-good (b ∷ bs) h = sym (both h.0 (sym (all-good bs h.1)))

pub each_of : (bs : List Bool) → all_of bs ≡ true → Each bs
unfolding all_of
each_of [] e = tt
each_of (b ∷ bs) e = (left-of b (all_of bs) e, each_of bs (right_of b (all_of bs) e))

-- the last test is the answer of a call, and the others hold: the facts, nested to the right, with `answer ≡ test` last
abbrev pub ButLast : List Bool → Bool → Type 0
ButLast [] r = r ≡ true
ButLast (b ∷ []) r = r ≡ b
ButLast (b ∷ (b' ∷ bs)) r = (b ≡ true) × ButLast (b' ∷ bs) r

pub all-last : (bs : List Bool) (r : Bool) → ButLast bs r → r ≡ all_of bs
unfolding all_of
all-last [] r h = h
all-last (b ∷ []) r h = h ∙ sym (and-true b)
all-last (b ∷ (b' ∷ bs)) r h = rw (h.0, true-and) (all-last (b' ∷ bs) r h.1)
