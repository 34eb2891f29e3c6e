-- An opening whose pointer moves on, put back where it was: t are the tables' cells, i an entry of 32, o an opening, p a pointer. Assumes nothing.
use Rattle.std.specs.Prelude.{ℕ, ◌+◌, ◌<◌, ◌≡◌, ◌≢◌, List, ◌++◌, length}
use Rattle.std.proofs.Math.Path.{ap}
use Rattle.std.proofs.Common.{◌∙◌, append_assoc, arith, add-zero, length-set, length-take-le, set-set, get_or-set_same, get_or-set_other}
use Rattle.std.proofs.Math.ListN.{take, drop}
use Rattle.std.proofs.Math.Seq.{paste, take_at, drop-paste}
use Rattle.std.proofs.lemmas.List.{set-get_or}
use Rattle.placing.specs.declared.Position.{Position}
use Rattle.placing.specs.Sizes.{tables_length, entries, all_pointers, opening_length}
use Rattle.placing.specs.Placing.{position}
use Rattle.tables.specs.declared.Opening.{Opening}
use Rattle.tables.specs.Layout.{position_number, opening_base, opening_cells, opening_at, put_opening}
use Rattle.tables.specs.Fields.{value_of}
use Rattle.tables.specs.Handles.{pointed}
use Rattle.tables.specs.Laws.Again.{ShapedOpening, length-opening}
use Rattle.tables.specs.Laws.Put.{opening-put, opening-shaped-at}
use Rattle.tables.specs.Laws.Rows.{put-opening-again}

-- ---- a pointer that is moved

module _ (o : Opening) (p : ℕ) where
  abbrev with_pointers : List Position → Opening
  with_pointers l = record { opened = o.opened; place = o.place; permit = o.permit; species = o.species; pointers = l; name = o.name; segments = o.segments }

  pub pointed-again : (x y : Position) → pointed (pointed o p x) p y ≡ pointed o p y
  pointed-again x y = ap with_pointers (set-set o.pointers p x y)

  pub pointed-same : pointed o p (position (value_of o p)) ≡ o
  unfolding value_of
  pointed-same = ap with_pointers (set-get_or o.pointers p (position 0))

  pub pointed-shaped : (x : Position) → ShapedOpening o → ShapedOpening (pointed o p x)
  pointed-shaped x w = record { pointers8 = length-set o.pointers p x ∙ w.pointers8; name12 = w.name12; segments32 = w.segments32 }

  pub value-pointed : (x : Position) → length o.pointers ≡ all_pointers → p < all_pointers → value_of (pointed o p x) p ≡ x.0
  unfolding value_of
  value-pointed x e l = ap position_number (get_or-set_same o.pointers p x (position 0) (omega arith))

  pub value-beside : (x : Position) (q : ℕ) → q ≢ p → value_of (pointed o p x) q ≡ value_of o q
  unfolding value_of
  value-beside x q d = ap position_number (get_or-set_other o.pointers p q x (position 0) d)

-- ---- an opening that is put where one was put

module _ (t : List ℕ) (long : length t ≡ tables_length) (i : ℕ) (li : i < entries) where
  pub put-put : (a b : Opening) → ShapedOpening a → put_opening (put_opening t i a) i b ≡ put_opening t i b
  unfolding put_opening
  put-put a b w =
      let l = length-opening a w in
      let front : take (opening_base i) (paste t (opening_base i) (opening_cells a) opening_length) ≡ take (opening_base i) t =
      ap (take (opening_base i)) (append_assoc (take (opening_base i) t) (take opening_length (opening_cells a)) (drop (opening_base i + opening_length) t))
      ∙ take_at (take (opening_base i) t) (take opening_length (opening_cells a) ++ drop (opening_base i + opening_length) t) (opening_base i) (length-take-le (opening_base i) t (omega arith)) in
      let back : drop (opening_base i + opening_length) (paste t (opening_base i) (opening_cells a) opening_length) ≡ drop (opening_base i + opening_length) t =
      drop-paste t (opening_base i) (opening_cells a) opening_length (omega arith) (omega arith) in
      λ j. (front j ++ take opening_length (opening_cells b)) ++ back j

  -- ---- pointer p of the opening there, j further on

  module _ (p : ℕ) where
    abbrev pub on_by : ℕ → Opening
    on_by j = let o = opening_at t i in pointed o p (position (value_of o p + j))

    abbrev pub put_by : ℕ → List ℕ
    put_by j = put_opening t i (on_by j)

    shaped : (j : ℕ) → ShapedOpening (on_by j)
    shaped j = pointed-shaped (opening_at t i) p _ (opening-shaped-at t long i li)

    pub by-none : put_by 0 ≡ t
    by-none =
        let o = opening_at t i in
        ap (λ (v : ℕ). put_opening t i (pointed o p (position v))) (add-zero (value_of o p)) ∙ ap (put_opening t i) (pointed-same o p) ∙ put-opening-again t long i li

    pub by-there : (j : ℕ) → opening_at (put_by j) i ≡ on_by j
    by-there j = opening-put t long i (on_by j) li (shaped j)

    pub by_value : p < all_pointers → (j : ℕ) → value_of (on_by j) p ≡ value_of (opening_at t i) p + j
    by_value l j = value-pointed (opening_at t i) p _ (opening-shaped-at t long i li).pointers8 l

    pub by-beside : (j q : ℕ) → q ≢ p → value_of (on_by j) q ≡ value_of (opening_at t i) q
    by-beside j q d = value-beside (opening_at t i) p _ q d

    pub by_next : p < all_pointers → (j : ℕ) → let o = on_by j in put_opening (put_by j) i (pointed o p (position (value_of o p + 1))) ≡ put_by (j + 1)
    by_next l j =
        let o = opening_at t i in
        let v : value_of (on_by j) p + 1 ≡ value_of o p + (j + 1) = omega (arith, by_value l j) in
        put-put (on_by j) _ (shaped j) ∙ ap (put_opening t i) (pointed-again o p _ _ ∙ ap (λ (k : ℕ). pointed o p (position k)) v)
