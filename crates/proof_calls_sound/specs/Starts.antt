-- A fresh start and a load by their outcomes: each is refused or starts anew. Assumes nothing.
use Rattle.std.specs.Prelude.{ℕ, ◌≤◌, ◌≡◌, Bool, List, eqb, leb, length}
use Rattle.std.proofs.Math.Path.{refl}
use Rattle.std.proofs.Math.Bool.{true, false}
use Rattle.std.proofs.Common.{eqb-true, leb-true}
use Rattle.combine.specs.Laws.Below.{left-of, right_of}
use Rattle.combine.specs.Laws.Rows.{each_of}
use Rattle.combine.specs.Verdict.{done, refused, refuse◌when◌else◌}
use Rattle.combine.specs.Outcome.{Outcome, outcome_of, settle}
use Rattle.placing.specs.Sizes.{fresh_segments, segment_cells, tables_length}
use Rattle.rules.specs.Gates.{start_gate, image_gate}
use Rattle.tables.specs.Layout.{fresh_tables}
use Rattle.tables.specs.Sound.{soundb}
use Rattle.image.specs.Image.{served, imageb, tables_from}
use Rattle.cells.specs.Outcomes.{Lent, lent, lengthsb, fresh_out, load_out}

module _ (P : Outcome Lent → Type 0) (s t : List ℕ) where
  pub fresh-cases : P (outcome_of (refused 20) (lent s t)) → (lengthsb s t ≡ true → P (outcome_of (done 0) (lent s (fresh_tables (fresh_segments (length s)))))) → P (fresh_out s t)
  unfolding fresh_out start_gate settle refuse◌when◌else◌
  fresh-cases refusal start = go (lengthsb s t) refl
    where
      go : (b : Bool) → lengthsb s t ≡ b → P (settle (lent s t) (start_gate b (done (0, lent s (fresh_tables (fresh_segments (length s)))))))
      go true e = start e
      go false e = refusal

  pub load-cases : (img : List ℕ) → ((n : ℕ) → P (outcome_of (refused n) (lent s t)))
      → (lengthsb s t ≡ true → imageb served (length s) img ≡ true → P (outcome_of (done 0) (lent s (tables_from served img)))) → P (load_out s t img)
  unfolding load_out image_gate start_gate settle refuse◌when◌else◌
  load-cases img refusal start = go (lengthsb s t) (imageb served (length s) img) refl refl
    where
      go : (b c : Bool) → lengthsb s t ≡ b → imageb served (length s) img ≡ c → P (settle (lent s t) (image_gate b c (done (0, lent s (tables_from served img)))))
      go true true e i = start e i
      go true false e i = refusal 22
      go false c e i = refusal 20

module _ (s t : List ℕ) where
  -- "tables of wrong length .. or store under 64 cells"
  pub right-length : lengthsb s t ≡ true → length t ≡ tables_length
  right-length e = eqb-true (length t) tables_length (left-of (eqb (length t) tables_length) (leb 64 (length s)) e)

  pub large-store : lengthsb s t ≡ true → segment_cells ≤ length s
  large-store e = leb-true 64 (length s) (right_of (eqb (length t) tables_length) (leb 64 (length s)) e)

pub image-sound : (cells : ℕ) (img : List ℕ) → imageb served cells img ≡ true → soundb cells (tables_from served img) ≡ true
unfolding imageb
image-sound cells img ok = (each_of _ ok).1.1.1.1.0
