-- When the records in the cells t are sound; n is the number of segments. The rules stand in document 01's order. Assumes nothing.
use Rattle.std.specs.Prelude.{ℕ, ◌+◌, ◌-◌, Bool, true, not, ◌&&◌, ◌||◌, cond, List, [], ◌∷◌, eqb, leb, ltb, get_or}
use Rattle.combine.specs.Below.{all_below}
use Rattle.combine.specs.Rows.{all_of}
use Rattle.combine.specs.Lists.{same}
use Rattle.placing.specs.declared.Segment.{Segment}
use Rattle.placing.specs.Sizes.{Cells, greatest_user, places, most_held, greatest_end, greatest_species, name_symbols}
use Rattle.placing.specs.Placing.{held_of}
use Rattle.names.specs.Names.{nameb}
use Rattle.tables.specs.declared.Record.{Record}
use Rattle.tables.specs.Layout.{record_at}
use Rattle.tables.specs.Fields.{is_used, number_at}

-- "species 0 to 5; 1 <= begin <= end; at most 32 segments held", and the end at most the greatest
unfoldable pub extentb : (species begin end : ℕ) → Bool
extentb s b e = all_of (leb s greatest_species ∷ leb 1 b ∷ leb b e ∷ leb e greatest_end ∷ leb (held_of s b e) most_held ∷ [])

-- "segment numbers in range"; "Unused list places are zero"
unfoldable pub listb : (segments held : ℕ) → List Segment → Bool
listb n held l = all_of (all_below held (λ k. ltb (number_at l k) n) ∷ all_below (most_held - held) (λ k. eqb (number_at l (held + k)) 0) ∷ [])

unfoldable pub usedb : (segments : ℕ) → Record → Bool
usedb n r =
    all_of
    (is_used r
    ∷ nameb r.name
    ∷ leb r.owner greatest_user
    ∷ leb r.private 1
    ∷ extentb r.species r.begin.0 r.end.0
    ∷ listb n (held_of r.species r.begin.0 r.end.0) r.segments
    ∷ [])

-- "an unused record is all zero"
unfoldable pub unusedb : Record → Bool
unusedb r =
    all_of
    (all_below name_symbols (λ k. eqb (get_or r.name k 0) 0)
    ∷ eqb r.owner 0
    ∷ eqb r.private 0
    ∷ eqb r.species 0
    ∷ eqb r.begin.0 0
    ∷ eqb r.end.0 0
    ∷ all_below most_held (λ k. eqb (number_at r.segments k) 0)
    ∷ [])

unfoldable pub recordb : (segments : ℕ) → Record → Bool
recordb n r = cond (eqb r.used 0) (unusedb r) (usedb n r)

-- "No two records of one owner have one name; no two public records have one name."
unfoldable pub clash : Record → Record → Bool
clash r q =
    all_of
    (is_used q
    ∷ same r.name q.name
    ∷ (eqb r.owner q.owner || (eqb r.private 0 && eqb q.private 0))
    ∷ [])

-- the record at place p, if it is used, has no clash with one before it
unfoldable pub no_clashb : (tables : Cells) (place : ℕ) → Bool
no_clashb t p = cond (is_used (record_at t p)) (all_below p (λ q. not (clash (record_at t p) (record_at t q)))) true

unfoldable pub recordsb : (tables : Cells) (segments : ℕ) → Bool
recordsb t n = all_of (all_below places (λ p. recordb n (record_at t p)) ∷ all_below places (no_clashb t) ∷ [])
