-- What a sound image says, and that the image of sound tables is one, in every form. Assumes nothing.
use Rattle.std.specs.Prelude.{ℕ, ◌<◌, ◌≡◌, refl, true, List, length}
use Rattle.std.proofs.Math.Path.{sym}
use Rattle.std.proofs.Common.{ap, ◌∙◌, arith}
use borrow.Author.Tests.{eq-eqb, eqb-true}
use Rattle.combine.specs.Laws.Rows.{each_of, all-last}
use Rattle.combine.specs.Lists.{part}
use Rattle.placing.specs.Sizes.{places, record_length}
use Rattle.tables.specs.Layout.{record_base, segments_in}
use Rattle.tables.specs.Sound.{soundb}
use Rattle.tables.specs.Laws.Sound.{Ranged, ranged-of}
use Rattle.image.specs.Image.{Form, image_length, image_of, head_field, tables_from, sparesb, imageb}
use Rattle.image.specs.Reformed.{reachesb}
use Rattle.image.specs.Laws.Formed.{Formed}
use Rattle.image_code.specs.Fits.{Fits, records-fit}
use Rattle.proof_images.specs.Closed.{closed}
use Rattle.proof_images.specs.Sound.{closed-sound}
use Rattle.proof_images.specs.Images.{image-field, image-length, spares-again, tables-again}

pub record ImageFacts (f : Form) (cells : ℕ) (img : List ℕ) : Type 0 where
  pub long : length img ≡ image_length f
  pub form : head_field img 0 ≡ f.number
  pub zeros : head_field img 2 ≡ 0
  pub spares : sparesb f img ≡ true
  pub sound : soundb cells (tables_from f img) ≡ true

module _ (f : Form) (cells : ℕ) (img : List ℕ) where
  pub imageb-facts : imageb f cells img ≡ true → ImageFacts f cells img
  unfolding imageb
  imageb-facts ok =
      let x = each_of _ ok in
      record {
        long = eqb-true (length img) (image_length f) x.0;
        form = eqb-true (head_field img 0) f.number x.1.0;
        zeros = eqb-true (head_field img 2) 0 x.1.1.0;
        spares = x.1.1.1.0;
        sound = x.1.1.1.1.0;
      }

  -- beside another store only its tables are judged anew
  pub judged-by-tables : ImageFacts f cells img → (others : ℕ) → imageb f others img ≡ soundb others (tables_from f img)
  unfolding imageb
  judged-by-tables x others =
      sym (all-last _ (soundb others (tables_from f img)) (
        eq-eqb (length img) (image_length f) x.long,
        (eq-eqb (head_field img 0) f.number x.form, (eq-eqb (head_field img 2) 0 x.zeros, (x.spares, refl))),
      ))

-- ---- the image of sound tables, in a form that reaches every begin and end

module _ (cells : ℕ) (t : List ℕ) (ok : soundb cells t ≡ true) (f : Form) (w : Formed f) (reaches : reachesb f t ≡ true) where
  ranged : Ranged t
  ranged = ranged-of cells t ok

  few : segments_in t < 2048
  few = omega (arith, ranged.3)

  fits : (p : ℕ) → p < places → Fits f (part t (record_base p) record_length)
  fits = records-fit t ranged f w reaches

  pub written-again : tables_from f (image_of f t) ≡ closed t
  written-again = tables-again f w t ranged.0 few fits

  pub written-facts : ImageFacts f cells (image_of f t)
  written-facts =
      record {
        long = image-length f w t;
        form = image-field f w t few 0;
        zeros = image-field f w t few 2;
        spares = spares-again f w t ranged.0 few fits;
        sound = ap (soundb cells) written-again ∙ closed-sound cells t ok;
      }
