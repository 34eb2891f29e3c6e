-- The tests of a file's extent and of its list of segments say that the file is sound. Assumes nothing.
use Rattle.std.specs.Prelude.{ℕ, zero, suc, ◌+◌, ◌-◌, ◌≤◌, ◌<◌, ◌≡◌, refl, true, List, [], ◌∷◌, ◌++◌, map, get_or, take, replicate}
use Rattle.std.proofs.Common.{arith, ap, ◌∙◌, length-take-le, get_or-take}
use borrow.Author.Tests.{leb-true, ltb-true, le-leb, lt-ltb, eq-eqb}
use Rattle.std.proofs.Math.ListN.{length, get_or-map, get_or-eq_default}
use Rattle.std.proofs.lemmas.List.{length-map}
use Rattle.combine.specs.Laws.Below.{all-at, all-make}
use Rattle.combine.specs.Laws.Rows.{each_of}
use Rattle.placing.specs.declared.Segment.{Segment}
use Rattle.placing.specs.Sizes.{most_held, greatest_end, greatest_species}
use Rattle.placing.specs.Placing.{segment, held_of}
use Rattle.segments.specs.Laws.Sound.{SoundFile}
use Rattle.tables.specs.Layout.{segment_number}
use Rattle.tables.specs.Fields.{number_at}
use Rattle.tables.specs.Records.{extentb, listb}
use Rattle.cells.specs.Says.{in_places}
use Rattle.combine.specs.Laws.Replaced.{replicate-at}
use Rattle.proof_cells_agree.specs.Rows.{enough, ◌also◌, row}

-- ---- numbers in the places of a list

pub number-held : (l : List Segment) (n k : ℕ) → k < n → get_or (take n (map segment_number l)) k 0 ≡ number_at l k
number-held l n k h = get_or-take n (map segment_number l) k 0 h ∙ get_or-map segment_number l k (segment 0)

filled-up : (l : List ℕ) (n k : ℕ) → get_or (l ++ replicate n 0) k 0 ≡ get_or l k 0
filled-up [] n k = replicate-at n k 0
filled-up (x ∷ l) n zero = refl
filled-up (x ∷ l) n (suc k) = filled-up l n k

number-placed : (l : List ℕ) (k : ℕ) → number_at (in_places l) k ≡ get_or l k 0
unfolding in_places
number-placed l k = ap segment_number (get_or-map segment (l ++ replicate (32 - length l) 0) k 0) ∙ filled-up l (32 - length l) k

-- ---- the tests; n is the number of segments

pub file-sound : (n s b e : ℕ) (l : List Segment) → length l ≡ most_held → extentb s b e ≡ true → listb n (held_of s b e) l ≡ true
    → SoundFile n s b e (take (held_of s b e) (map segment_number l))
unfolding extentb listb
file-sound n s b e l full extent list =
    let f = each_of _ extent in
    let held = held_of s b e in
    let few : held_of s b e ≤ most_held = leb-true (held_of s b e) most_held f.1.1.1.1.0 in
    let long : length (map segment_number l) ≡ most_held = length-map l segment_number ∙ full in
    let each : length (take (held_of s b e) (map segment_number l)) ≡ held_of s b e = length-take-le held (map segment_number l) (omega arith) in
    record {
      species = leb-true s greatest_species f.0;
      first = leb-true 1 b f.1.0;
      order = leb-true b e f.1.1.0;
      last = leb-true e greatest_end f.1.1.1.0;
      few = few;
      each = each;
      range = λ k h.
          let k' : k < held_of s b e = omega (arith, h, each) in
          rw (number-held l held k k') (ltb-true (number_at l k) n (all-at _ held (each_of _ list).0 k k'));
    }

module _ (n s b e : ℕ) (l : List ℕ) (f : SoundFile n s b e l) where
  pub extent-test : extentb s b e ≡ true
  unfolding extentb
  extent-test =
      row _
      (le-leb s greatest_species f.species
      also le-leb 1 b f.first
      also le-leb b e f.order
      also le-leb e greatest_end f.last
      also le-leb (held_of s b e) most_held f.few
      also enough)

  -- "segment numbers in range"; "Unused list places are zero"
  pub list-test : listb n (held_of s b e) (in_places l) ≡ true
  unfolding listb
  list-test =
      let held = held_of s b e in
      row _
      (all-make _ held (λ k h. lt-ltb (number_at (in_places l) k) n (rw (number-placed l k) (f.range k (omega (arith, f.each)))))
      also all-make _ (most_held - held) (λ k h.
      let beyond : length l ≤ held + k = omega (arith, f.each) in
      eq-eqb (number_at (in_places l) (held + k)) 0 (number-placed l (held + k) ∙ get_or-eq_default l 0 beyond))
      also enough)
