-- Tables sound beside one store are sound beside any that their segments fit. Assumes nothing.
use Rattle.std.specs.Prelude.{ℕ, ◌*◌, ◌≤◌, ◌≡◌, true, List}
use Rattle.std.proofs.Common.{sym, le-leb}
use Rattle.combine.specs.Laws.Rows.{each_of, all-good}
use Rattle.placing.specs.Sizes.{segment_cells}
use Rattle.tables.specs.Layout.{segments_in}
use Rattle.tables.specs.Sound.{numberb, soundb}

pub sound-beside : (cells others : ℕ) (t : List ℕ) → soundb cells t ≡ true → segment_cells * segments_in t ≤ others → soundb others t ≡ true
unfolding soundb numberb
sound-beside cells others t ok fit =
    let f = each_of _ ok in
    let n = each_of _ f.1.1.1.1.0 in
    let number : numberb (segments_in t) others ≡ true = sym (all-good _ (n.0, (n.1.0, (le-leb (segment_cells * segments_in t) others fit, tt)))) in
    sym (all-good _ (f.0, (f.1.0, (f.1.1.0, (f.1.1.1.0, (number, tt))))))
