-- Openings are nothing to an image: the tables that it gives have none, and tables without theirs have the same image. Assumes nothing.
use Rattle.std.specs.Prelude.{ℕ, ◌-◌, ◌<◌, ◌≡◌, List, ◌∷◌, ◌++◌, length}
use Rattle.std.proofs.Common.{ap, arith, take_at}
use Rattle.combine.specs.Lists.{joined, tab}
use Rattle.combine.specs.Laws.Lists.{tab-cong}
use Rattle.placing.specs.Sizes.{places, tables_length, record_length, openings_start}
use Rattle.tables.specs.Layout.{record_base, none_open}
use Rattle.image.specs.Image.{Form, head_image, packed_record, record_image, image_of, head_field, record_from, tables_from}
use Rattle.image.specs.Laws.Formed.{Formed}
use Rattle.image_code.specs.Lengths.{record-from-length}
use Rattle.image_code.specs.Pieces.{pieces-length}
use Rattle.proof_images.specs.Closed.{closed, segments-kept, part-kept}

pub closed-already : (f : Form) → Formed f → (img : List ℕ) → closed (tables_from f img) ≡ tables_from f img
unfolding closed tables_from
closed-already f w img =
    let records : List ℕ = joined (tab places (record_from f img)) in
    ap (λ (x : List ℕ). none_open (head_field img 1 ∷ x)) (take_at records _ (openings_start - 1) (pieces-length (record_from f img) record_length (record-from-length f w img) places))

pub image-of-closed : (f : Form) (t : List ℕ) → length t ≡ tables_length → image_of f (closed t) ≡ image_of f t
unfolding image_of record_image
image-of-closed f t long =
    λ i. head_image f (segments-kept t long i) ++ joined (tab-cong places (record_image f t) (record_image f (closed t)) same i)
  where
    same : (p : ℕ) → p < places → record_image f (closed t) p ≡ record_image f t p
    same p l = ap (packed_record f) (part-kept t long (record_base p) record_length (omega arith))
