-- `sound_names::names_sound` meets its contract: the keys before place `p` are there, and no record before it clashes. Assumes nothing.
use mathlib.Core.Path.{sym, ap, ◌∙◌}
use native.Mathlib.Omega.{arith}
use Rattle.combine.specs.Laws.Below.{all-zero, all_more, loop-false}
use Rattle.tables.specs.declared.Record.{Record}
use Rattle.sound_keys.specs.Keys.{key_of}
use Rattle.sound_clashes.proofs.Rows.{row_at}
use Rattle.sound_names.proofs.Rows.{owner-cell, private-flag}
use Rattle.sound_names.proofs.Places.{used-cell, is-used, alone-unused}
use Rattle.sound_names.proofs.Stored.{keys_none, rest_all, rest-skip, rest_put, keys-put, keys-skip}
use Rattle.sound_names.proofs.names_sound.Goals as goal

pub loop-p-init : goal.loop-p-init
loop-p-init c =
    (keys_none _ c.requires.0 c.requires.1, rest_all, all-zero _)

pub loop-p-preserved-then-tables-from-eq0 : goal.loop-p-preserved-then-tables-from-eq0
loop-p-preserved-then-tables-from-eq0 c =
    let l = c.loop-p in
    let t = c.args.tables.now in
    let e = c.if-tables-from-eq0.true in
    (keys-skip t _ _ _ _ l.p l.invariant.0 (omega arith) l.invariant.1 (used-cell t l.p ∙ e), rest-skip _ _ _ l.invariant.1, all_more _ _ l.invariant.2 (alone-unused t l.p e))

pub alone-requires : goal.alone-requires
alone-requires c =
    let l = c.loop-p in
    let t = c.args.tables.now in
    let row = row_at t l.p in
    (keys-put t _ _ _ _ l.p l.invariant.0 (omega arith) _ _ (c.key-first.ensures ∙ ap (λ (r : Record). key_of r 0) row) (c.key-second.ensures ∙ ap (λ (r : Record). key_of r 6) row) _ _ _ _ (owner-cell _ ∙ ap (λ (r : Record). r.owner) row) (private-flag _ ∙ ap (λ (r : Record). r.private) row) c.short.ensures c.public_short.ensures, is-used t l.p (l.invariant.0.halves.spelled l.p (omega arith)) c.if-tables-from-eq0.false)

pub returns-then-not-alone : goal.returns-then-not-alone
returns-then-not-alone c = loop-false _ _ _ (omega arith) (sym c.alone.ensures ∙ c.if-not-alone.true)

pub loop-p-preserved : goal.loop-p-preserved
loop-p-preserved c =
    let l = c.loop-p in
    let t = c.args.tables.now in
    let row = row_at t l.p in
    (keys-put t _ _ _ _ l.p l.invariant.0 (omega arith) _ _ (c.key-first.ensures ∙ ap (λ (r : Record). key_of r 0) row) (c.key-second.ensures ∙ ap (λ (r : Record). key_of r 6) row) _ _ _ _ (owner-cell _ ∙ ap (λ (r : Record). r.owner) row) (private-flag _ ∙ ap (λ (r : Record). r.private) row) c.short.ensures c.public_short.ensures, rest_put _ _ _ _ _ l.invariant.1, all_more _ _ l.invariant.2 (sym c.alone.ensures ∙ c.if-not-alone.false))
