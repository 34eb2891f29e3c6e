-- Where no segment moves, the tables are as they were. Assumes nothing.
use Prim.Native.Nat.{ℕ, zero, suc, ◌≤◌, ◌<◌}
use native.Mathlib.Omega.{arith}
use mathlib.Core.Path.{◌≡◌, refl, ap, ◌∙◌}
use mathlib.Core.Option.{Option, none, some}
use mathlib.Core.List.{List, [], map-id}
use lib.ListN.{length}
use Rattle.placing.specs.Sizes.{places, tables_length}
use Rattle.rules.specs.Headings.{filing}
use Rattle.segments.specs.Free.{SegmentRecord}
use Rattle.segments.specs.Moves.{exchange, renumbered_record}
use Rattle.tables.specs.Layout.{record_at, put_record}
use Rattle.tables.specs.Laws.Rows.{put-record-again}
use Rattle.cells.specs.Says.{decoded_record, as_record}
use Rattle.cells.specs.Moved.{renumbered_at, renumbered_first, moved_tables}
use Rattle.proof_cells_agree.specs.Canonical.{Canonical}

same-record : (y : Option SegmentRecord) → renumbered_record (exchange []) y ≡ y
same-record none = refl
same-record (some r) = ap (λ (l : List ℕ). some (filing r.head l)) (map-id r.content)

module _ (t : List ℕ) (long : length t ≡ tables_length) (said : Canonical t) where
  unmoved-at : (p : ℕ) → p < places → renumbered_at (exchange []) p t ≡ t
  unmoved-at p l =
      ap (λ (y : Option SegmentRecord). put_record t p (as_record y)) (same-record (decoded_record (record_at t p)))
      ∙ ap (put_record t p) (said.records p l)
      ∙ put-record-again t long p l

  unmoved-first : (k : ℕ) → k ≤ places → renumbered_first (exchange []) k t ≡ t
  unfolding renumbered_first
  unmoved-first zero l = refl
  unmoved-first (suc k) l = ap (renumbered_at (exchange []) k) (unmoved-first k (omega arith)) ∙ unmoved-at k l

  pub unmoved : moved_tables [] t ≡ t
  unmoved = unmoved-first places (omega arith)
