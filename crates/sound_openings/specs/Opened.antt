-- The tests of an open entry as the code makes them: some of them together, and those first that make the later ones safe.
-- Assumes nothing.
use Rattle.std.specs.Prelude.{ℕ, ◌≡◌, Bool, List, [], ◌∷◌, leb}
use Rattle.std.proofs.Common.{sym}
use Rattle.combine.specs.Laws.Below.{bool-ext}
use Rattle.combine.specs.Rows.{all_of}
use Rattle.combine.specs.Laws.Rows.{all-good, each_of}
use Rattle.tables.specs.declared.Opening.{Opening}
use Rattle.tables.specs.Layout.{segments_in}
use Rattle.tables.specs.Fields.{is_open, value_of}
use Rattle.tables.specs.Openings.{pointersb, openb}
use Rattle.names.specs.Names.{opening_nameb}
use Rattle.sound_extents.specs.Extent as extent
use Rattle.sound_links.specs.Linked.{linkedb}

-- its extent, and the list of the segments that it holds; n is the number of segments
unfoldable pub contentb : ℕ → Opening → Bool
contentb n o = extent.contentb n o.species (value_of o 0) (value_of o 1) o.segments

unfoldable pub openedb : List ℕ → ℕ → Opening → Bool
openedb t i o =
    all_of
    (is_open o
    ∷ leb o.permit 1
    ∷ pointersb o
    ∷ opening_nameb o.name
    ∷ contentb (segments_in t) o
    ∷ linkedb t i o
    ∷ [])

pub opened-open : (t : List ℕ) (i : ℕ) (o : Opening) → openedb t i o ≡ openb t i o
unfolding openedb contentb extent.contentb linkedb openb
opened-open t i o =
    bool-ext (openedb t i o) (openb t i o)
    (λ ok.
    let f = each_of _ ok in
    let content = each_of _ f.1.1.1.1.0 in
    let link = each_of _ f.1.1.1.1.1.0 in
    sym (all-good _ (f.0, (f.1.0, (link.1.0, (link.1.1.0, (f.1.1.1.0, (content.0, (f.1.1.0, (link.0, (content.1.0, tt)))))))))))
    (λ ok.
    let f = each_of _ ok in
    let later = f.1.1.1.1 in
    sym
    (all-good _
    (f.0, (f.1.0, (later.1.1.0, (later.0, (sym (all-good _ (later.1.0, (later.1.1.1.1.0, tt))), (sym (all-good _ (later.1.1.1.0, (f.1.1.0, (f.1.1.1.0, tt)))), tt))))))))
