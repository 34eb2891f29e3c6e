-- "an unused record is all zero": its 50 cells are. Assumes nothing.
use Rattle.std.specs.Prelude.{ℕ, zero, suc, ◌+◌, ◌≡◌, Bool, ◌&&◌, List, [], ◌∷◌, map, eqb, length, get_or}
use Rattle.std.proofs.Math.Path.{refl}
use Rattle.std.proofs.Common.{sym, ap, ◌∙◌, arith, eq-eqb}
use Rattle.std.proofs.Math.Bool.{and-true, and_assoc}
use Rattle.combine.specs.Below.{all_below}
use Rattle.combine.specs.Laws.Below.{all-cong}
use Rattle.combine.specs.Rows.{all_of}
use Rattle.combine.specs.Lists.{part}
use Rattle.combine.specs.Laws.Parts.{get_d_part}
use Rattle.placing.specs.Placing.{segment}
use Rattle.tables.specs.Layout.{record_of}
use Rattle.tables.specs.Fields.{number_at}
use Rattle.tables.specs.Records.{unusedb}
use Rattle.sound_extents.specs.Numbers.{segment-number}

-- a test over n numbers after m others
all-add : (f : ℕ → Bool) (m n : ℕ) → all_below (m + n) f ≡ (all_below m f && all_below n (λ k. f (m + k)))
unfolding all_below
all-add f m zero =
    let e : m + zero ≡ m = omega arith in
    ap (λ (k : ℕ). all_below k f) e ∙ sym (and-true (all_below m f))
all-add f m (suc n) =
    let e : m + suc n ≡ suc (m + n) = omega arith in
    ap (λ (k : ℕ). all_below k f) e ∙ ap (λ (b : Bool). b && f (m + n)) (all-add f m n) ∙ and_assoc (all_below m f) (all_below n (λ k. f (m + k))) (f (m + n))

abbrev zero_at : List ℕ → ℕ → Bool
zero_at c k = eqb (get_or c k 0) 0

-- fields one by one, between the name and the list
regroup : (used name owner private species begin end list : Bool)
    → (((((((used && name) && owner) && private) && species) && begin) && end) && list) ≡ (used && all_of (name ∷ owner ∷ private ∷ species ∷ begin ∷ end ∷ list ∷ []))
unfolding all_of
regroup used name owner private species begin end list = simp (and_assoc, and-true)

module _ (f : ℕ → Bool) where
  flag-and-name : all_below 13 f ≡ (f 0 && all_below 12 (λ k. f (1 + k)))
  unfolding all_below
  flag-and-name = all-add f 1 12

  up-to-list : all_below 18 f ≡ (((((all_below 13 f && f 13) && f 14) && f 15) && f 16) && f 17)
  unfolding all_below
  up-to-list = refl

pub unused-cells : (c : List ℕ) → all_below 50 (zero_at c) ≡ (eqb (record_of c).used 0 && unusedb (record_of c))
unfolding record_of unusedb
unused-cells c =
    let f : ℕ → Bool = zero_at c in
    let name : all_below 12 (λ k. f (1 + k)) ≡ all_below 12 (λ k. eqb (get_or (part c 1 12) k 0) 0) = all-cong _ _ 12 (λ k l. ap (λ (x : ℕ). eqb x 0) (sym (get_d_part c 1 12 k l))) in
    let list : all_below 32 (λ k. f (18 + k)) ≡ all_below 32 (λ k. eqb (number_at (map segment (part c 18 32)) k) 0) =
    all-cong _ _ 32 (λ k l. ap (λ (x : ℕ). eqb x 0) (sym (segment-number (part c 18 32) k ∙ get_d_part c 18 32 k l))) in
    let front : all_below 13 f ≡ (f 0 && all_below 12 (λ k. eqb (get_or (part c 1 12) k 0) 0)) = flag-and-name f ∙ ap (λ (b : Bool). f 0 && b) name in
    all-add f 18 32
    ∙ ap (λ (b : Bool). b && all_below 32 (λ k. f (18 + k))) (up-to-list f)
    ∙ (λ i. (((((front i && f 13) && f 14) && f 15) && f 16) && f 17) && list i)
    ∙ regroup (f 0) _ _ _ _ _ _ _

-- of a record whose first cell is zero
pub unused-row : (c : List ℕ) → length c ≡ 50 → get_or c 0 0 ≡ 0 → all_below (length c) (zero_at c) ≡ unusedb (record_of c)
unfolding record_of
unused-row c long e = ap (λ (n : ℕ). all_below n (zero_at c)) long ∙ unused-cells c ∙ rw (eq-eqb (get_or c 0 0) 0 e)
