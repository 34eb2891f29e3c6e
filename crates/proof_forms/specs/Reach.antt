-- How far a form reaches: its test says that every begin and end is at most so much, and what an image gives is within reach of its own form.
-- Assumes nothing.
use Prim.Native.Nat.{ℕ, suc}
use Rattle.std.specs.Prelude.{◌≡◌, ◌↔◌, Bool, true, leb, drop}
use Rattle.std.proofs.Math.Path.{ap}
use Rattle.std.proofs.Common.{◌∙◌, arith, le-leb, leb-true, lit<}
use mathlib.Core.List.{List}
use Rattle.std.proofs.Math.ListN.{get_or, get_or-append}
use Rattle.std.proofs.Math.Seq.{get_or-take}
use Rattle.combine.specs.Laws.Below.{all-at, all-make, both, left-of, right_of}
use Rattle.combine.specs.Lists.{part}
use Rattle.packing.specs.Packing.{field, row_of, sum, unpacked}
use Rattle.packing.specs.Laws.Fields.{field_lt}
use Rattle.packing_rows.specs.Pack.{unpacked-at}
use Rattle.placing.specs.Sizes.{places, record_length}
use Rattle.tables.specs.Layout.{record_base, record_of, record_at}
use Rattle.image.specs.Image.{Form, row_widths, record_part, unpacked_record, record_from, tables_from}
use Rattle.image.specs.Reformed.{reachesb}
use Rattle.image.specs.Laws.Formed.{Formed, row-many}
use Rattle.image_code.specs.Fits.{Fits}
use Rattle.demands.specs.Forms.{AtMost}
use Rattle.proof_images.specs.Images.{record-in}

pub reaches-means : (g : Form) (t : List ℕ) → (reachesb g t ≡ true) ↔ AtMost g.greatest t
unfolding reachesb
reaches-means g t = (within, λ h. all-make _ places (λ p l. both (le-leb (begin p) most (h p l).0) (le-leb (end p) most (h p l).1)))
  where
    most : ℕ
    most = g.greatest

    begin : ℕ → ℕ
    begin p = (record_at t p).begin.0

    end : ℕ → ℕ
    end p = (record_at t p).end.0

    within : reachesb g t ≡ true → AtMost g.greatest t
    within h p l =
        let at = all-at _ places h p l in
        let b : Bool = leb (begin p) most in
        let e : Bool = leb (end p) most in
        (leb-true (begin p) most (left-of b e at), leb-true (end p) most (right_of b e at))

module _ (f : Form) (w : Formed f) where
  -- a number that is read out of so many bits needs no more
  unpacked-fits : (c : List ℕ) → Fits f (unpacked_record f c)
  unfolding unpacked_record
  unpacked-fits c k l =
      let ws : List ℕ = row_widths f in
      let below : ℕ = sum (drop (suc k) ws) in
      let wide : get_or ws k 0 ≡ get_or f.widths k 0 = get_or-append f.widths f.spare 0 k (omega (arith, w.many)) in
      let read : get_or (unpacked_record f c) k 0 ≡ field (get_or ws k 0) below (row_of c) =
      get_or-take record_length (unpacked ws (row_of c)) k 0 l ∙ unpacked-at ws (row_of c) k (omega (arith, row-many f w)) in
      rw (read, ← wide) (field_lt (get_or ws k 0) below (row_of c))

  -- an image gives no greater begin and end than its form can hold
  own-within : (img : List ℕ) → AtMost f.greatest (tables_from f img)
  unfolding record_at record_of record_from
  own-within img p l =
      let c : List ℕ = unpacked_record f (record_part f img p) in
      let e : part (tables_from f img) (record_base p) record_length ≡ c = record-in f w img p l in
      let fits = unpacked-fits (record_part f img p) in (
        omega (arith, ap (λ (x : List ℕ). get_or x 16 0) e, fits 16 (lit< tt), w.begins),
        omega (arith, ap (λ (x : List ℕ). get_or x 17 0) e, fits 17 (lit< tt), w.ends),
      )

  pub own-reach : (img : List ℕ) → reachesb f (tables_from f img) ≡ true
  own-reach img = (reaches-means f (tables_from f img)).1 (own-within img)
