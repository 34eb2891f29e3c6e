-- What a request sees of the others, by the openings in the cells t. Assumes nothing.
use Rattle.std.specs.Prelude.{ℕ, zero, suc, ◌+◌, ◌-◌, ◌≡◌, refl, Bool, true, false, ◌&&◌, ◌||◌, cond, List, map, eqb, ltb, length}
use Rattle.std.proofs.Common.{sym, ap, ◌∙◌, add-one, arith}
use Rattle.std.proofs.Math.Option.{Option, none, some}
use Rattle.std.proofs.Math.Dec.{eqb-suc-zero, eqb-suc-suc}
use Rattle.combine.specs.First.{first_below}
use Rattle.combine.specs.Lists.{any, first_where, tab}
use Rattle.combine.specs.Laws.Lists.{length-tab}
use Rattle.placing.specs.Sizes.{entries}
use Rattle.rules.specs.Headings.{Handle, handle_of, passes}
use Rattle.rules.specs.Effects.{Others}
use Rattle.rules.specs.House.{opens_place, others_of}
use Rattle.rules.specs.Rules.{busy}
use Rattle.segments.specs.Free.{has_room}
use Rattle.tables.specs.declared.Opening.{Opening}
use Rattle.tables.specs.Layout.{opening_at}
use Rattle.tables.specs.Fields.{is_open}
use Rattle.tables.specs.Handles.{handle_in, place_of}
use Rattle.cells.specs.Says.{opening_in, decoded_opening, house_of}
use Rattle.combine.specs.Laws.Searches.{first_cong, first-tab, any-first, map-tab}

-- an opening that keeps others from the record at place p: from work (w) every one, else one for work
unfoldable pub keeps_off : Bool → ℕ → Opening → Bool
keeps_off w p o = is_open o && ((w || eqb o.permit 1) && eqb (p + 1) o.place)

-- what a request sees of the others
unfoldable pub others_in : List ℕ → Others
others_in t = others_of (has_room (house_of t)) (house_of t).openings

place-number : (p n : ℕ) → passes (eqb p) (place_of n) ≡ eqb (p + 1) n
place-number p zero = sym (rw (add-one p) (eqb-suc-zero p))
place-number p (suc m) =
    let d : suc m - 1 ≡ m = omega arith in
    rw (eqb-suc-zero m, d, add-one p) (sym (eqb-suc-suc p m))

abbrev engages : Bool → ℕ → Handle → Bool
engages w p h = (w || h.permit) && opens_place p h

engages-off : (w : Bool) (p : ℕ) (o : Opening) → passes (engages w p) (handle_of (decoded_opening o)) ≡ keeps_off w p o
unfolding keeps_off decoded_opening
engages-off w p o = go (is_open o) ∙ ap (λ (b : Bool). is_open o && ((w || eqb o.permit 1) && b)) (place-number p o.place)
  where
    go : (b : Bool) → passes (engages w p) (handle_of (cond b (some (opening_in o)) none)) ≡ (b && engages w p (handle_in o))
    go true = refl
    go false = refl

-- "Then 14: for work, if any opening of that record exists; for read, if a work opening of it exists."
pub busy-first : (t : List ℕ) (w : Bool) (p : ℕ) → busy w p (others_in t) ≡ ltb (first_below entries (λ i. keeps_off w p (opening_at t i))) entries
unfolding house_of others_in
busy-first t w p =
    by_way w
    ∙ any-first (passes (engages w p)) (map handle_of (house_of t).openings)
    ∙ ap (λ l. ltb (first_where (passes (engages w p)) l) (length l)) (map-tab handle_of entries (λ i. decoded_opening (opening_at t i)))
    ∙ (λ j. ltb (found j) (length-tab entries said j))
  where
    said : ℕ → Option Handle
    said i = handle_of (decoded_opening (opening_at t i))

    found : first_where (passes (engages w p)) (tab entries said) ≡ first_below entries (λ i. keeps_off w p (opening_at t i))
    found = first-tab (passes (engages w p)) entries said ∙ first_cong _ _ entries (λ i l. engages-off w p (opening_at t i))

    by_way : (v : Bool) → busy v p (others_in t) ≡ any (passes (engages v p)) (map handle_of (house_of t).openings)
    by_way true = refl
    by_way false = refl
