-- Laws of image/specs/Reformed.antt. Assumes nothing.
use Rattle.std.specs.Prelude.{ℕ, ◌*◌, ◌≡◌, Bool, false, List, [], ◌∷◌, leb}
use Rattle.std.proofs.Common.{ap, arith, leb-true, le-leb}
use Rattle.combine.specs.Rows.{all_of}
use Rattle.combine.specs.Laws.Below.{bool-ext}
use Rattle.combine.specs.Verdict.{is_done}
use Rattle.combine.specs.Laws.Outcome.{refusal-keeps}
use Rattle.placing.specs.Sizes.{most_segments, segment_cells}
use Rattle.tables.specs.Sound.{numberb}
use Rattle.image.specs.Image.{Form}
use Rattle.image.specs.Reformed.{reformed_out}

-- "Refusals write nothing."
pub refusal-keeps-buffer : (f g : Form) (img buffer : List ℕ) (n : ℕ) → is_done (reformed_out f g img buffer n).answer ≡ false → (reformed_out f g img buffer n).after ≡ buffer
unfolding reformed_out
refusal-keeps-buffer f g img buffer n e = refusal-keeps _ _ e

-- "the store's segment count given as a number": an image of k segments fits a store of n if k is at most n, whatever n is
pub fits-by-number : (k n : ℕ) → numberb k (segment_cells * n) ≡ all_of (leb 1 k ∷ leb k most_segments ∷ leb k n ∷ [])
unfolding numberb
fits-by-number k n = ap (λ (b : Bool). all_of (leb 1 k ∷ leb k most_segments ∷ b ∷ [])) same
  where
    same : leb (segment_cells * k) (segment_cells * n) ≡ leb k n
    same =
        bool-ext (leb (segment_cells * k) (segment_cells * n)) (leb k n)
        (λ h. le-leb k n (let l = leb-true (segment_cells * k) (segment_cells * n) h in omega arith))
        (λ h. le-leb (segment_cells * k) (segment_cells * n) (let l = leb-true k n h in omega arith))
