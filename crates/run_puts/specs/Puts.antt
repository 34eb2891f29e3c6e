-- Elements of a run that lie in one segment: s is the store's cells, t the tables', i an entry of 32, o its opening, p a pointer, l a list of
-- numbers. Assumes nothing.
use Rattle.std.specs.Prelude.{ℕ, zero, suc, ◌+◌, ◌*◌, ◌/◌, ◌%◌, ◌≤◌, ◌<◌, ◌≡◌, cond, List, eqb, length, get_or, set}
use Rattle.packing.specs.Packing.{put_bits}
use Rattle.placing.specs.declared.Segment.{Segment}
use Rattle.placing.specs.Sizes.{Cells, greatest_end, greatest_species, all_pointers}
use Rattle.placing.specs.Placing.{position}
use Rattle.store.specs.Store.{put_element}
use Rattle.tables.specs.declared.Opening.{Opening}
use Rattle.tables.specs.Layout.{put_opening}
use Rattle.tables.specs.Fields.{value_of}
use Rattle.tables.specs.Handles.{pointed}
use Rattle.run_spans.specs.Ahead.{Ahead, Fits}

-- the store with so many elements of the list put, from the first position on, all into segment g
unfoldable pub put_first : (store : Cells) (species : ℕ) → Segment → (first : ℕ) (list : List ℕ) (many : ℕ) → Cells
put_first s k g v l zero = s
put_first s k g v l (suc j) = put_element (put_first s k g v l j) k g (position (v + j)) (get_or l j 0)

-- the store with so many elements of the list put, each of a width, one after another from some bits on
unfoldable pub put_row : (store : Cells) (bits width : ℕ) (list : List ℕ) (many : ℕ) → Cells
put_row s b w l zero = s
put_row s b w l (suc j) =
    let st = put_row s b w l j in
    let a = b + j * w in
    set st (a / 32) (put_bits w (a % 32) (get_or st (a / 32) 0) (get_or l j 0))

-- the first position that pointer p does not write at: an append is refused for 10 at the greatest end; "p not 1 and v >= e is 7"
unfoldable pub limit_of : Opening → (pointer : ℕ) → ℕ
limit_of o p = cond (eqb p 1) greatest_end (value_of o 1)

-- pointer p is at a position that it writes at
pub record Points (o : Opening) (p : ℕ) : Type 0 where
  pub species : o.species ≤ greatest_species
  pub known : p < all_pointers
  pub some : 1 ≤ value_of o p
  pub below : value_of o p < limit_of o p
  pub fits : limit_of o p ≤ greatest_end

-- k elements of the list, none too wide, go into the stretch of the pointer's position
pub record Many (o : Opening) (p : ℕ) (l : List ℕ) (k : ℕ) : Type 0 where
  pub few : k ≤ length l
  pub fit : (j : ℕ) → j < k → Fits o.species l j
  pub ahead : Ahead o.species (value_of o p) (limit_of o p) k

-- they are put into segment g, and the pointer moves once
pub record Stretched (s t : Cells) (i : ℕ) (o : Opening) (p : ℕ) (g : Segment) (l : List ℕ) (k : ℕ) (s' t' : Cells) : Type 0 where
  pub many : Many o p l k
  pub store : s' ≡ put_first s o.species g (value_of o p) l k
  pub tables : t' ≡ put_opening t i (pointed o p (position (value_of o p + k)))
