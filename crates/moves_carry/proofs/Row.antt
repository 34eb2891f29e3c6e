-- The row of a record's numbers, replaced in the tables, is the record renumbered. Assumes nothing.
use Prim.Native.Nat.{ℕ, ◌+◌, ◌-◌, ◌≤◌, ◌<◌}
use native.Mathlib.Omega.{arith}
use mathlib.Core.Path.{◌≡◌, refl, sym, ap, ◌∙◌, subst, subst₃}
use mathlib.Core.Logic.{⊎_elim}
use mathlib.Core.Bool.{true, false, cond}
use mathlib.Core.Option.{Option, none, some}
use mathlib.Core.List.{List, ◌++◌, map}
use borrow.Author.Tests.{ne_eqb}
use borrow.Rule.Slice.PartMut.{put_mid}
use lib.Dec.{eqb}
use lib.ListN.{length, get_or, take, drop, replicate, length-map}
use lib.Seq.{paste, paste-zero}
use Rattle.combine.specs.Lists.{part}
use Rattle.combine.specs.Laws.Below.{split-bool, not-both}
use Rattle.combine.specs.Laws.Between.{part-between, put-all-between}
use Rattle.combine.specs.Laws.Parts.{length_part}
use Rattle.combine.specs.Laws.Rows.{each_of}
use Rattle.placing.specs.Placing.{held_of}
use Rattle.placing.specs.Sizes.{places, tables_length}
use Rattle.rules.specs.Headings.{filing}
use Rattle.segments.specs.Free.{SegmentRecord}
use Rattle.segments.specs.Moves.{renumbered_record}
use Rattle.segments.specs.Laws.Sound.{SoundPlace, SoundFiled}
use Rattle.tables.specs.Layout.{segment_number, record_base, record_of, record_cells, record_at, put_record}
use Rattle.tables.specs.Fields.{is_used, held_by_record}
use Rattle.tables.specs.Records.{recordb, usedb}
use Rattle.tables.specs.Laws.Again.{ShapedRecord, numbers-again}
use Rattle.tables.specs.Laws.ExtentFacts.{SoundExtent}
use Rattle.tables.specs.Laws.Put.{record-shaped-at}
use Rattle.tables.specs.Laws.RecordFacts.{usedb-facts}
use Rattle.tables.specs.Laws.Rows.{record-row, put-record-again}
use Rattle.sound_lists.specs.FieldCells as cells
use Rattle.cells.specs.Says.{record_in, decoded_record, as_record}
use Rattle.cells.specs.Moved.{renumbered_at}
use Rattle.cells.specs.Laws.Determined.{record-back}
use Rattle.proof_cells_agree.specs.There.{held-used}
use Rattle.proof_cells_agree.specs.Records.{place-sound}
use Rattle.free_count.specs.Rows.{part-part, take_part}
use Rattle.moves_carry.proofs.Fields.{front, zeros, cells_of, length_front, replaced}

module _ (f : ℕ → ℕ) (t : List ℕ) (long : length t ≡ tables_length) (p : ℕ) (lp : p < places) where
  module _ (n : ℕ) (ok : recordb n (record_at t p) ≡ true) where
    shaped : ShapedRecord (record_at t p)
    shaped = record-shaped-at t long p lp

    back : as_record (decoded_record (record_at t p)) ≡ record_at t p
    back = record-back (record_at t p) shaped n ok

    pub place_ok : SoundPlace n (decoded_record (record_at t p))
    place_ok = place-sound n (record_at t p) shaped ok

    own-cells : record_cells (record_at t p) ≡ part t (record_base p) 50
    unfolding record_at
    own-cells = record-row (part t (record_base p) 50) (length_part t (record_base p) 50 (omega arith))

    -- the numbers that it holds
    row-cells : (h : ℕ) → h ≤ 32 → take h (map segment_number (record_at t p).segments) ≡ part t (record_base p + 18) h
    unfolding record_at record_of
    row-cells h l =
        ap (take h) (numbers-again (part (part t (record_base p) 50) 18 32))
        ∙ take_part (part t (record_base p) 50) 18 h 32 l
        ∙ part-part t (record_base p) 50 18 h (omega arith) (omega arith)

    few-held : is_used (record_at t p) ≡ true → held_by_record (record_at t p) ≤ 32
    unfolding decoded_record
    few-held u = let s : SoundFiled n (record_in (record_at t p)) = rw u at place_ok in omega (arith, s.file.few, held-used (record_at t p) u)

    no-use : is_used (record_at t p) ≡ false → eqb (record_at t p).used 0 ≡ true
    unfolding recordb usedb
    no-use u = ⊎_elim (λ e. e) (λ e. absurd (let v : usedb n (record_at t p) ≡ true = rw e at ok in not-both (each_of _ v).0 u)) (split-bool (eqb (record_at t p).used 0))

    none-held : is_used (record_at t p) ≡ false → held_by_record (record_at t p) ≡ 0
    unfolding held_by_record
    none-held u = rw (no-use u) refl

    used-renumbered : is_used (record_at t p) ≡ true → (h : ℕ) → h ≡ held_by_record (record_at t p)
        → paste t (record_base p + 18) (map f (part t (record_base p + 18) h)) h ≡ renumbered_at f p t
    unfolding decoded_record put_record zeros
    used-renumbered u h eh =
        let q = record_in (record_at t p) in
        let L = q.content in
        let s : SoundFiled n q = rw u at place_ok in
        let few : length L ≤ 32 = omega (arith, s.file.each, s.file.few) in
        let b : as_record (some q) ≡ record_at t p = rw u at back in
        let cells : part t (record_base p) 50 ≡ front q.head ++ (L ++ zeros L) = sym own-cells ∙ ap record_cells (sym b) ∙ cells_of q in
        let c50 : length (part t (record_base p) 50) ≡ 50 = length_part t (record_base p) 50 (omega arith) in
        let held : held_by_record (record_at t p) ≤ 32 = few-held u in
        let row : L ≡ part t (record_base p + 18) (held_by_record (record_at t p)) = row-cells (held_by_record (record_at t p)) held in
        let l_l : length L ≡ h = ap length row ∙ length_part t (record_base p + 18) (held_by_record (record_at t p)) (omega arith) ∙ sym eh in
        let same : part t (record_base p + 18) h ≡ L = ap (part t (record_base p + 18)) eh ∙ sym row in
        let z : zeros L ≡ zeros (map f L) = ap (λ (k : ℕ). replicate (32 - k) 0) (sym (length-map L f)) in
        (λ i. paste t (record_base p + 18) (map f (same i)) (sym l_l i))
        ∙ replaced t long p lp (front q.head) L (zeros L) (map f L) cells (length_front q.head s.twelve) (length-map L f) (ap length (sym cells) ∙ c50)
        ∙ ap (λ (x : List ℕ). paste t (record_base p) (front q.head ++ (map f L ++ x)) 50) z
        ∙ ap (λ (x : List ℕ). paste t (record_base p) x 50) (sym (cells_of (filing q.head (map f L))))
        ∙ goal u
      where
        goal : is_used (record_at t p) ≡ true → paste t (record_base p) (record_cells (as_record (some (filing (record_in (record_at t p)).head (map f (record_in (record_at t p)).content))))) 50 ≡ renumbered_at f p t
        goal u = rw u refl

    says_none : is_used (record_at t p) ≡ false → decoded_record (record_at t p) ≡ none
    unfolding decoded_record
    says_none u = rw u refl

    unused-renumbered : is_used (record_at t p) ≡ false → (h : ℕ) → h ≡ held_by_record (record_at t p)
        → paste t (record_base p + 18) (map f (part t (record_base p + 18) h)) h ≡ renumbered_at f p t
    unused-renumbered u h eh =
        ap (λ (k : ℕ). paste t (record_base p + 18) (map f (part t (record_base p + 18) k)) k) (eh ∙ none-held u)
        ∙ sym (paste-zero t (record_base p + 18) (map f (part t (record_base p + 18) 0)))
        ∙ sym (put-record-again t long p lp)
        ∙ ap (put_record t p) (sym back ∙ goal u)
      where
        goal : is_used (record_at t p) ≡ false → as_record (decoded_record (record_at t p)) ≡ as_record (renumbered_record f (decoded_record (record_at t p)))
        goal u = ap (λ (y : Option SegmentRecord). as_record y) (says_none u ∙ ap (renumbered_record f) (sym (says_none u)))

    -- the row of the numbers that the record holds, replaced in the tables
    row-renumbered : (h : ℕ) → h ≡ held_by_record (record_at t p) → paste t (record_base p + 18) (map f (part t (record_base p + 18) h)) h ≡ renumbered_at f p t
    row-renumbered h e = ⊎_elim (λ u. used-renumbered u h e) (λ u. unused-renumbered u h e) (split-bool (is_used (record_at t p)))

    row_fits : (h : ℕ) → h ≡ held_by_record (record_at t p) → h ≤ 32
    row_fits h e = ⊎_elim (λ u. omega (arith, few-held u)) (λ u. omega (arith, none-held u)) (split-bool (is_used (record_at t p)))

    used_low : is_used (record_at t p) ≡ true → (k : ℕ) → k < held_by_record (record_at t p) → get_or (part t (record_base p + 18) (held_by_record (record_at t p))) k 0 < n
    unfolding decoded_record
    used_low u k l =
        let q = record_in (record_at t p) in
        let s : SoundFiled n q = rw u at place_ok in
        let row : q.content ≡ part t (record_base p + 18) (held_by_record (record_at t p)) = row-cells (held_by_record (record_at t p)) (few-held u) in
        let size : length (part t (record_base p + 18) (held_by_record (record_at t p))) ≡ held_by_record (record_at t p) = length_part t (record_base p + 18) (held_by_record (record_at t p)) (let c = few-held u in omega arith) in
        subst (λ (l : List ℕ). get_or l k 0 < n) row (s.file.range k (let e = ap length row in omega arith))

    row_low : (h : ℕ) → h ≡ held_by_record (record_at t p) → (k : ℕ) → k < h → get_or (part t (record_base p + 18) h) k 0 < n
    row_low h e k l = ⊎_elim
        (λ u. subst (λ (m : ℕ). get_or (part t (record_base p + 18) m) k 0 < n) (sym e) (used_low u k (omega arith)))
        (λ u. absurd (let c = none-held u in let z : ⊥ = omega arith in z))
        (split-bool (is_used (record_at t p)))

    -- what its cells say
    extent-ok : ((record_at t p).used ≡ 0 → ⊥) → SoundExtent (record_at t p).species (record_at t p).begin.0 (record_at t p).end.0
    unfolding recordb
    extent-ok d = (usedb-facts n (record_at t p) (rw (ne_eqb (record_at t p).used 0 d) at ok)).extent

    pub extent-cells : (get_or t (record_base p) 0 ≡ 0 → ⊥) → SoundExtent (get_or t (record_base p + 15) 0) (get_or t (record_base p + 16) 0) (get_or t (record_base p + 17) 0)
    extent-cells d = subst₃ SoundExtent (cells.species-cell t p) (cells.begin-cell t p) (cells.end-cell t p) (extent-ok (λ e. d (sym (cells.used-cell t p) ∙ e)))

    -- so many are held, as the code finds
    abbrev Held : ℕ → Type 0
    Held h = h ≡ cond (eqb (get_or t (record_base p) 0) 0) 0 (held_of (get_or t (record_base p + 15) 0) (get_or t (record_base p + 16) 0) (get_or t (record_base p + 17) 0))

    held-cells : (h : ℕ) → Held h → h ≡ held_by_record (record_at t p)
    unfolding held_by_record
    held-cells h e = e ∙ sym (λ j. cond (eqb (cells.used-cell t p j) 0) 0 (held_of (cells.species-cell t p j) (cells.begin-cell t p j) (cells.end-cell t p j)))

    -- the row as the code lends it
    pub lent-few : (h : ℕ) → Held h → h ≤ 32
    lent-few h e = row_fits h (held-cells h e)

    pub lent-low : n ≤ 1024 → (h : ℕ) → Held h → (k : ℕ) → k < length (take (record_base p + 18 + h - (record_base p + 18)) (drop (record_base p + 18) t))
        → get_or (take (record_base p + 18 + h - (record_base p + 18)) (drop (record_base p + 18) t)) k 0 < 1024
    lent-low few h e k l =
        let b = part-between t (record_base p + 18) h in
        let size : length (part t (record_base p + 18) h) ≡ h = length_part t (record_base p + 18) h (let c = lent-few h e in omega arith) in
        let lk : k < h = (let q = ap length b in omega arith) in
        subst (λ (x : List ℕ). get_or x k 0 < 1024) (sym b) (let z = row_low h (held-cells h e) k lk in omega arith)

    pub lent-renumbered : (h : ℕ) → Held h → (ys : List ℕ) → ys ≡ map f (take (record_base p + 18 + h - (record_base p + 18)) (drop (record_base p + 18) t))
        → put_mid (record_base p + 18) (record_base p + 18 + h - (record_base p + 18)) t ys ≡ renumbered_at f p t
    lent-renumbered h e ys q =
        let b = part-between t (record_base p + 18) h in
        let size : length (map f (part t (record_base p + 18) h)) ≡ h =
        length-map (part t (record_base p + 18) h) f ∙ length_part t (record_base p + 18) h (let c = lent-few h e in omega arith) in
        put-all-between t (map f (part t (record_base p + 18) h)) (record_base p + 18) h (q ∙ ap (map f) b) size ∙ row-renumbered h (held-cells h e)
