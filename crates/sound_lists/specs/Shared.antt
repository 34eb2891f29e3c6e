-- "segments in all lists are distinct, but for a record and its openings at one stretch": where a list has what its record has.
-- Assumes nothing.
use Rattle.std.specs.Prelude.{ℕ, ◌+◌, ◌-◌, Bool, not, ◌&&◌, List, eqb, leb, ltb}
use Rattle.tables.specs.Lists.{held_in, listed, stretch_in, family_of}

-- whether s is, of the n numbers f 0, f 1, .., the one of stretch w: f 0 is that of stretch `first`
unfoldable pub has_at : (f : ℕ → ℕ) (n first w s : ℕ) → Bool
has_at f n first w s = leb first w && (ltb (w - first) n && eqb (f (w - first)) s)

-- whether list i has at place k what its record has at the same stretch; a record's list is its own
unfoldable pub sharedb : (tables : List ℕ) (list slot : ℕ) → Bool
sharedb t i k =
    let p = family_of t i in
    not (eqb p i) && has_at (listed t p) (held_in t p) (stretch_in t p 0) (stretch_in t i k) (listed t i k)

-- whether the kth number of the row f, whose first is of stretch `first`, is not what the n numbers g have at the same stretch
abbrev pub changed : (f : ℕ → ℕ) (first : ℕ) (g : ℕ → ℕ) (n g_first : ℕ) (k : ℕ) → Bool
changed f first g n g_first k = not (has_at g n g_first (first + k) (f k))
