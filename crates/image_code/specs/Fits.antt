-- What the image rests on: the numbers of a sound record fit the widths of a form that reaches its begin and end, and an unused record is all zero.
-- Assumes nothing.
use Prim.Native.Nat.{ℕ, zero, suc, ◌+◌, ◌-◌, ◌^◌, ◌≤◌, ◌<◌, zero-le}
use Rattle.std.specs.Prelude.{◌≡◌, refl, false, cond, ◌&&◌, ltb, length}
use Rattle.std.proofs.Common.{subst, ◌∙◌, le_refl, lt_of_lt_of_le, arith, lit<}
use Rattle.std.proofs.Math.Logic.{⊎_elim}
use Rattle.std.proofs.Math.Bool.{Bool, true}
use mathlib.Core.List.{List, [], ◌∷◌, map}
use borrow.Author.Tests.{eqb-true, eq-eqb, leb-true, le-leb, ltb-true, ltb-false}
use Rattle.std.proofs.Math.Dec.{eqb, leb}
use Rattle.std.proofs.Math.ListN.{get_or}
use Rattle.std.proofs.Math.Pow.{pow_pos}
use Rattle.combine.specs.Below.{all_below}
use Rattle.combine.specs.Laws.Below.{all-at, all-make, split-bool, both, left-of, right_of}
use Rattle.combine.specs.Laws.Numbers.{le-or-lt}
use Rattle.combine.specs.Laws.Rows.{each_of}
use Rattle.combine.specs.Lists.{part}
use Rattle.combine.specs.Laws.Parts.{length_part, get_d_part}
use Rattle.placing.specs.Placing.{segment}
use Rattle.placing.specs.Sizes.{places, most_segments, most_held, greatest_end, name_symbols, record_length}
use Rattle.names.specs.Laws.Small.{name-small}
use Rattle.tables.specs.Layout.{record_base, record_of, record_at, segments_in}
use Rattle.tables.specs.Records.{usedb, recordb, recordsb}
use Rattle.tables.specs.Laws.ExtentFacts.{SoundList}
use Rattle.tables.specs.Laws.RecordFacts.{usedb-facts}
use Rattle.tables.specs.Laws.Sound.{Ranged}
use Rattle.sound_extents.specs.Numbers.{segment-number}
use Rattle.sound_records.specs.Unused.{unused-row}
use Rattle.packing_rows.specs.Waiting.{Fitting}
use Rattle.image.specs.Image.{Form, head_widths}
use Rattle.image.specs.Reformed.{reachesb}
use Rattle.image.specs.Laws.Formed.{Formed, heads, limit}

-- 50 cells, each of its width in the form
abbrev pub Fits : Form → List ℕ → Type 0
Fits f c = (k : ℕ) → k < record_length → get_or c k 0 < 2 ^ get_or f.widths k 0

-- ---- the head

pub head-fits : (f : Form) → Formed f → (n : ℕ) → n < 2048 → Fitting head_widths (f.number ∷ n ∷ 0 ∷ [])
unfolding head_widths
head-fits f w n h zero l = w.small
head-fits f w n h (suc zero) l = h
head-fits f w n h (suc (suc zero)) l = lit< tt
head-fits f w n h (suc (suc (suc i))) l = absurd (let z : ⊥ = omega arith in z)

-- ---- numbers below the limits of a form

record Small (g : ℕ) (c : List ℕ) : Type 0 where
  used : get_or c 0 0 < 2
  name : (k : ℕ) → k < name_symbols → get_or c (1 + k) 0 < 64
  middle : (j : ℕ) → j < 5 → get_or c (13 + j) 0 < get_or (heads g) j 0
  segments : (k : ℕ) → k < most_held → get_or c (18 + k) 0 < most_segments

small-fits : (f : Form) → Formed f → (c : List ℕ) → Small f.greatest c → Fits f c
unfolding limit
small-fits f w c s k l = lt_of_lt_of_le (go (ltb k 1) (ltb k 13) (ltb k 18) refl refl refl) (w.wide k l)
  where
    go : (a b d : Bool) → ltb k 1 ≡ a → ltb k 13 ≡ b → ltb k 18 ≡ d → get_or c k 0 < cond a 2 (cond b 64 (cond d (get_or (heads f.greatest) (k - 13) 0) most_segments))
    go true b d p q r =
        let e : 0 ≡ k = let h = ltb-true k 1 p in omega arith in
        subst (λ (i : ℕ). get_or c i 0 < 2) e s.used
    go false true d p q r =
        let h = ltb-false k 1 p in
        let m = ltb-true k 13 q in
        let e : 1 + (k - 1) ≡ k = omega arith in
        subst (λ (i : ℕ). get_or c i 0 < 64) e (s.name (k - 1) (omega arith))
    go false false true p q r =
        let h = ltb-false k 13 q in
        let m = ltb-true k 18 r in
        let e : 13 + (k - 13) ≡ k = omega arith in
        subst (λ (i : ℕ). get_or c i 0 < get_or (heads f.greatest) (k - 13) 0) e (s.middle (k - 13) (omega arith))
    go false false false p q r =
        let h = ltb-false k 18 r in
        let e : 18 + (k - 18) ≡ k = omega arith in
        subst (λ (i : ℕ). get_or c i 0 < most_segments) e (s.segments (k - 18) (omega arith))

five : (P : ℕ → Type 0) → P 0 → P 1 → P 2 → P 3 → P 4 → (j : ℕ) → j < 5 → P j
five P a b c d e zero l = a
five P a b c d e (suc zero) l = b
five P a b c d e (suc (suc zero)) l = c
five P a b c d e (suc (suc (suc zero))) l = d
five P a b c d e (suc (suc (suc (suc zero)))) l = e
five P a b c d e (suc (suc (suc (suc (suc j))))) l = absurd (let z : ⊥ = omega arith in z)

-- ---- a name, and a list of segments

default-le : (l : List ℕ) (k : ℕ) → get_or l k 0 ≤ get_or l k 63
default-le [] k = zero-le
default-le (x ∷ l) zero = le_refl x
default-le (x ∷ l) (suc k) = default-le l k

list-small : (n held : ℕ) (l : List ℕ) → n ≤ most_segments → SoundList n held (map segment l) → (k : ℕ) → k < most_held → get_or l k 0 < most_segments
list-small n held l m f k h =
    ⊎_elim (λ p. omega (arith, segment-number l k, f.unused_zero k p h)) (λ q. omega (arith, segment-number l k, f.in_range k q)) (le-or-lt held k)

-- ---- a record of 50 cells

module _ (n : ℕ) (most : n ≤ most_segments) (c : List ℕ) where
  used-small : (g : ℕ) → usedb n (record_of c) ≡ true → get_or c 16 0 ≤ g → get_or c 17 0 ≤ g → Small g c
  unfolding record_of
  used-small g ok b e =
      let f = usedb-facts n (record_of c) ok in
      record {
        used = omega (arith, f.used);
        name = λ k l. omega (arith, get_d_part c 1 12 k l, default-le (part c 1 12) k, name-small (part c 1 12) f.name k l);
        middle =
            five (λ j. get_or c (13 + j) 0 < get_or (heads g) j 0) (omega (arith, f.owner)) (omega (arith, f.private)) (omega (arith, f.extent.species))
            (omega arith) (omega arith);
        segments = λ k l. omega (arith, get_d_part c 18 32 k l, list-small n _ (part c 18 32) most f.list k l);
      }

  -- "an unused record is all zero"
  record-blank : length c ≡ 50 → recordb n (record_of c) ≡ true → get_or c 0 0 ≡ 0 → all_below (length c) (λ k. eqb (get_or c k 0) 0) ≡ true
  unfolding recordb record_of
  record-blank l ok z = unused-row c l z ∙ (rw (eq-eqb (get_or c 0 0) 0 z) at ok)

  blank-at : length c ≡ 50 → recordb n (record_of c) ≡ true → eqb (get_or c 0 0) 0 ≡ true → (k : ℕ) → k < record_length → get_or c k 0 ≡ 0
  blank-at l ok p k h = eqb-true (get_or c k 0) 0 (all-at _ (length c) (record-blank l ok (eqb-true (get_or c 0 0) 0 p)) k (omega arith))

  -- a sound record has no greater begin and end than any file has
  record-ends : length c ≡ 50 → recordb n (record_of c) ≡ true → (get_or c 16 0 ≤ greatest_end) × (get_or c 17 0 ≤ greatest_end)
  unfolding recordb record_of
  record-ends l ok = ⊎_elim (λ p. (omega (arith, blank-at l ok p 16 (lit< tt)), omega (arith, blank-at l ok p 17 (lit< tt)))) (λ p. used (rw p at ok)) (split-bool (eqb (get_or c 0 0) 0))
    where
      used : usedb n (record_of c) ≡ true → (get_or c 16 0 ≤ greatest_end) × (get_or c 17 0 ≤ greatest_end)
      used u =
          let x = (usedb-facts n (record_of c) u).extent in
          (omega (arith, x.end, x.greatest), x.greatest)

  record-fits : (f : Form) → Formed f → length c ≡ 50 → recordb n (record_of c) ≡ true → get_or c 16 0 ≤ f.greatest → get_or c 17 0 ≤ f.greatest → Fits f c
  unfolding recordb record_of
  record-fits f w l ok b e = ⊎_elim unused (λ p. small-fits f w c (used-small f.greatest (rw p at ok) b e)) (split-bool (eqb (get_or c 0 0) 0))
    where
      unused : eqb (get_or c 0 0) 0 ≡ true → Fits f c
      unused p k h = omega (arith, blank-at l ok p k h, pow_pos (get_or f.widths k 0))

pub record Writable (f : Form) (c : List ℕ) : Type 0 where
  pub fits : Fits f c
  pub blank : get_or c 0 0 ≡ 0 → all_below (length c) (λ k. eqb (get_or c k 0) 0) ≡ true

-- ---- in sound tables

module _ (t : List ℕ) (w : Ranged t) where
  module _ (p : ℕ) (l : p < places) where
    sound : recordb (segments_in t) (record_of (part t (record_base p) 50)) ≡ true
    unfolding recordsb record_at
    sound = all-at _ places (each_of _ w.1).0 p l

    long : length (part t (record_base p) 50) ≡ 50
    long = length_part t (record_base p) 50 (omega (arith, w.0))

  -- a form with room for every file reaches every begin and end
  pub sound-reaches : (f : Form) → greatest_end ≤ f.greatest → reachesb f t ≡ true
  unfolding reachesb record_at record_of
  sound-reaches f g = all-make _ places reached
    where
      reached : (p : ℕ) → p < places → (leb (get_or (part t (record_base p) 50) 16 0) f.greatest && leb (get_or (part t (record_base p) 50) 17 0) f.greatest) ≡ true
      reached p l =
          let c : List ℕ = part t (record_base p) 50 in
          let x = record-ends (segments_in t) w.3 c (long p l) (sound p l) in
          both (le-leb (get_or c 16 0) f.greatest (omega (arith, x.0))) (le-leb (get_or c 17 0) f.greatest (omega (arith, x.1)))

  module _ (f : Form) (formed : Formed f) (reaches : reachesb f t ≡ true) (p : ℕ) (l : p < places) where
    reached : (get_or (part t (record_base p) 50) 16 0 ≤ f.greatest) × (get_or (part t (record_base p) 50) 17 0 ≤ f.greatest)
    unfolding reachesb record_at record_of
    reached =
        let c : List ℕ = part t (record_base p) 50 in
        let b : Bool = leb (get_or c 16 0) f.greatest in
        let e : Bool = leb (get_or c 17 0) f.greatest in
        let at = all-at _ places reaches p l in
        (leb-true (get_or c 16 0) f.greatest (left-of b e at), leb-true (get_or c 17 0) f.greatest (right_of b e at))

    pub records-fit : Fits f (part t (record_base p) 50)
    records-fit = record-fits (segments_in t) w.3 (part t (record_base p) 50) f formed (long p l) (sound p l) reached.0 reached.1

    pub records-writable : Writable f (part t (record_base p) 50)
    records-writable = record { fits = records-fit; blank = record-blank (segments_in t) w.3 (part t (record_base p) 50) (long p l) (sound p l) }
