-- Record after record is renumbered, and two ways to renumber that agree on the segments that there are. Assumes nothing.
use Prim.Native.Nat.{ℕ, zero, suc, ◌+◌, ◌≤◌, ◌<◌}
use native.Mathlib.Omega.{arith}
use native.Mathlib.Numerals.{add-one}
use mathlib.Core.Path.{◌≡◌, refl, sym, ap, ap₂, ◌∙◌, subst}
use mathlib.Core.Bool.{true}
use mathlib.Core.Option.{Option, none, some}
use mathlib.Core.List.{List, [], ◌∷◌, map}
use lib.ListN.{length, get_or}
use Rattle.placing.specs.Sizes.{most_segments, places, tables_length}
use Rattle.rules.specs.Headings.{filing}
use Rattle.segments.specs.Free.{SegmentRecord}
use Rattle.segments.specs.Moves.{renumbered_record}
use Rattle.segments.specs.Laws.Sound.{SoundPlace}
use Rattle.tables.specs.declared.Record.{Record}
use Rattle.tables.specs.Layout.{segments_in, record_at, put_record}
use Rattle.tables.specs.Records.{recordb}
use Rattle.tables.specs.Laws.Sound.{Ranged}
use Rattle.cells.specs.Says.{decoded_record, as_record}
use Rattle.cells.specs.Moved.{renumbered_at, renumbered_first}
use Rattle.proof_cells_agree.specs.Records.{record-ok}
use Rattle.proof_moves.specs.Tables.{place-fits, Renumbered, renumbered-first}
use Rattle.moves_carry.proofs.Row.{place_ok}

-- ---- record after record

module _ (f : ℕ → ℕ) (t : List ℕ) (w : Ranged t) where
  each-ok : (p : ℕ) → p < places → recordb (segments_in t) (record_at t p) ≡ true
  each-ok p l = record-ok t (segments_in t) w.1 p l

  each-sound : (p : ℕ) → p < places → SoundPlace (segments_in t) (decoded_record (record_at t p))
  each-sound p l = place_ok f t w.0 p l (segments_in t) (each-ok p l)

  pub first-facts : (k : ℕ) → k ≤ places → Renumbered f k t (renumbered_first f k t)
  first-facts k l = renumbered-first f t w.0 (λ p lp. place-fits (segments_in t) (decoded_record (record_at t p)) (each-sound p lp)) k l

  pub first-turn : (k : ℕ) → renumbered_at f k (renumbered_first f k t) ≡ renumbered_first f (k + 1) t
  unfolding renumbered_first
  first-turn k = rw (add-one k) refl

  pub first-start : t ≡ renumbered_first f 0 t
  unfolding renumbered_first
  first-start = refl

  -- the next record is as it was
  pub next-ok : (k : ℕ) → k < places → (u : List ℕ) → u ≡ renumbered_first f k t
      → (length u ≡ tables_length) × (segments_in u ≤ most_segments) × (recordb (segments_in u) (record_at u k) ≡ true)
  next-ok k l u e =
      let r = first-facts k (omega arith) in
      subst (λ (x : List ℕ). (length x ≡ tables_length) × (segments_in x ≤ most_segments) × (recordb (segments_in x) (record_at x k) ≡ true)) (sym e)
      (r.long, omega (arith, r.number, w.3), (λ i. recordb (r.number i) (r.above k (omega arith) l i)) ∙ each-ok k l)

-- two renamings that agree on the numbers that there are
list-agree : (f g : ℕ → ℕ) (l : List ℕ) → ((k : ℕ) → k < length l → f (get_or l k 0) ≡ g (get_or l k 0)) → map f l ≡ map g l
list-agree f g [] h = refl
list-agree f g (x ∷ l) h = ap₂ (λ (a : ℕ) (b : List ℕ). a ∷ b) (h 0 (omega arith)) (list-agree f g l (λ k m. h (suc k) (omega arith)))

record-agree : (f g : ℕ → ℕ) (n : ℕ) → ((x : ℕ) → x < n → f x ≡ g x) → (y : Option SegmentRecord) → SoundPlace n y → renumbered_record f y ≡ renumbered_record g y
record-agree f g n h none s = refl
record-agree f g n h (some r) s = ap (λ (l : List ℕ). some (filing r.head l)) (list-agree f g r.content (λ k l. h (get_or r.content k 0) (s.file.range k l)))

pub first-agree : (f g : ℕ → ℕ) (t : List ℕ) (w : Ranged t) → ((x : ℕ) → x < segments_in t → f x ≡ g x) → (k : ℕ) → k ≤ places → renumbered_first f k t ≡ renumbered_first g k t
unfolding renumbered_first
first-agree f g t w h zero l = refl
first-agree f g t w h (suc k) l =
    let r = first-facts f t w k (omega arith) in
    let same : record_at (renumbered_first f k t) k ≡ record_at t k = r.above k (omega arith) l in
    ap (λ (y : Option SegmentRecord). put_record (renumbered_first f k t) k (as_record y))
    (ap (λ (c : Record). renumbered_record f (decoded_record c)) same
    ∙ record-agree f g (segments_in t) h (decoded_record (record_at t k)) (each-sound f t w k l)
    ∙ ap (λ (c : Record). renumbered_record g (decoded_record c)) (sym same))
    ∙ ap (renumbered_at g k) (first-agree f g t w h k (omega arith))
