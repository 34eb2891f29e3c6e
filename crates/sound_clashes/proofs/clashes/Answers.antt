-- `sound_clashes::clashes` meets its contract. Assumes nothing.
use mathlib.Core.Path.{sym, ◌∙◌}
use native.Mathlib.Omega.{arith}
use Rattle.tables.specs.Laws.Put.{record-shaped-at}
use Rattle.sound_clashes.specs.Halves.{kinb}
use Rattle.sound_clashes.proofs.Names.{keys-differ, keys-same}
use Rattle.sound_clashes.proofs.Rows.{row_at}
use Rattle.sound_clashes.proofs.clashes.Goals as goal

pub returns-then-low-p : goal.returns-then-low-p
returns-then-low-p c =
    let k = c.requires.0 in
    keys-differ _ _ c.requires.2 6 (λ e. c.if-low-p.true (k.lows c.args.p (omega arith) ∙ e ∙ sym (k.lows c.args.q (omega arith))))

pub returns-then-high-p : goal.returns-then-high-p
returns-then-high-p c =
    let k = c.requires.0 in
    keys-differ _ _ c.requires.2 0 (λ e. c.if-high-p.true (k.highs c.args.p (omega arith) ∙ e ∙ sym (k.highs c.args.q (omega arith))))

pub returns : goal.returns
returns c =
    let k = c.requires.0 in
    let t = c.args.tables.now in
    let p = c.args.p in
    let q = c.args.q in
    keys-same _ _ c.requires.2 (k.spelled p (omega arith)) (k.spelled q (omega arith)) (record-shaped-at t k.long p (omega arith)).name12 (record-shaped-at t k.long q (omega arith)).name12
    c.kin.result
    (sym (k.highs p (omega arith)) ∙ c.if-high-p.false ∙ k.highs q (omega arith))
    (sym (k.lows p (omega arith)) ∙ c.if-low-p.false ∙ k.lows q (omega arith))
    (c.kin.ensures ∙ (λ i. kinb (row_at t p i) (row_at t q i)))
