-- "nothing is there, and nothing is open": the tables of a fresh start are sound. Assumes nothing.
use Prim.Native.Nat.{ℕ, zero, suc, ◌+◌, ◌-◌, ◌*◌, ◌≤◌}
use native.Mathlib.Omega.{arith}
use Rattle.std.proofs.Common.{div-mul-le_self, ap, ◌∙◌}
use Rattle.std.specs.Prelude.{◌≡◌, refl, true, ◌∷◌}
use Rattle.std.proofs.Math.Path.{sym, subst}
use Rattle.std.proofs.Math.ListN.{length, get_or, replicate, length-replicate}
use Rattle.std.proofs.Math.Seq.{ext_get_or}
use Rattle.combine.specs.Lists.{part}
use Rattle.combine.specs.Laws.Parts.{length_part, get_d_part}
use Rattle.placing.specs.Sizes.{segment_cells, fresh_segments, tables_length, record_length, opening_length}
use Rattle.segments.specs.Laws.Sound.{SoundHouse}
use Rattle.tables.specs.declared.Record.{Record}
use Rattle.tables.specs.declared.Opening.{Opening}
use Rattle.tables.specs.Layout.{record_base, opening_base, segments_in, fresh_tables, record_of, record_at, unused_record, opening_of, opening_at, closed_opening}
use Rattle.tables.specs.Sound.{soundb}
use Rattle.cells.specs.Says.{decoded_record, decoded_opening, as_record, as_opening}
use Rattle.cells.specs.Laws.Operator.{fresh-says}
use Rattle.combine.specs.Laws.Replaced.{replicate-at}
use Rattle.proof_requests_sound.specs.Fresh.{fresh-sound}
use Rattle.proof_cells_agree.specs.Canonical.{Canonical}
use Rattle.proof_cells_agree.specs.SaysSound.{says-sound}

unused : as_record (decoded_record (record_of (replicate record_length 0))) ≡ record_of (replicate record_length 0)
unfolding as_record decoded_record record_of unused_record part
unused = refl

closed : as_opening (decoded_opening (opening_of (replicate opening_length 0))) ≡ opening_of (replicate opening_length 0)
unfolding as_opening decoded_opening opening_of closed_opening part
closed = refl

module _ (n : ℕ) where
  pub fresh-tables-length : length (fresh_tables n) ≡ tables_length
  unfolding fresh_tables
  fresh-tables-length = omega (arith, length-replicate {A = ℕ} (tables_length - 1) 0)

  -- a part behind the number of segments
  fresh-part : (a m : ℕ) → 1 ≤ a → a + m ≤ tables_length → part (fresh_tables n) a m ≡ replicate m 0
  unfolding fresh_tables
  fresh-part a m h l =
      let e : length (part (fresh_tables n) a m) ≡ m = length_part (fresh_tables n) a m (omega (arith, fresh-tables-length)) in
      ext_get_or 0 (part (fresh_tables n) a m) (replicate m 0) (e ∙ sym (length-replicate {A = ℕ} m 0))
      (λ k r. get_d_part (fresh_tables n) a m k (omega (arith, r, e)) ∙ zero-at (a + k) (omega arith) ∙ sym (replicate-at {A = ℕ} m k 0))
    where
      zero-at : (k : ℕ) → 1 ≤ k → get_or (n ∷ replicate (tables_length - 1) 0) k 0 ≡ 0
      zero-at zero h = absurd (let y : ⊥ = omega arith in y)
      zero-at (suc k) h = replicate-at {A = ℕ} (tables_length - 1) k 0

  fresh-canonical : Canonical (fresh_tables n)
  unfolding record_at opening_at
  fresh-canonical = record {
    records = λ p l. subst (λ (r : Record). as_record (decoded_record r) ≡ r) (sym (ap record_of (fresh-part (record_base p) record_length (omega arith) (omega arith)))) unused;
    openings = λ i l. subst (λ (o : Opening). as_opening (decoded_opening o) ≡ o) (sym (ap opening_of (fresh-part (opening_base i) opening_length (omega arith) (omega arith)))) closed;
  }

-- "A fresh start gives it floor(length / 64) segments, at most 1,024"
pub fresh-tables-sound : (cells : ℕ) → segment_cells ≤ cells → soundb cells (fresh_tables (fresh_segments cells)) ≡ true
unfolding fresh_tables
fresh-tables-sound cells h =
    let n = fresh_segments cells in
    let fits : segment_cells * segments_in (fresh_tables (fresh_segments cells)) ≤ cells = omega (arith, div-mul-le_self cells segment_cells) in
    says-sound cells (fresh_tables n) (fresh-tables-length n) fits (fresh-canonical n) (subst SoundHouse (sym (fresh-says n)) (fresh-sound cells h))
