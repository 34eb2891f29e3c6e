-- `sound_links::link_sound` meets its contract. Assumes nothing.
use Prim.Native.Nat.{◌-◌}
use mathlib.Core.Path.{◌∙◌}
use lib.ListN.{get_or}
use Rattle.tables.specs.Layout.{record_of, opening_of}
use Rattle.sound_links.proofs.Links.{filed-row, no-record, no_place, no-such-record, read-link, work-link}
use Rattle.sound_links.proofs.link_sound.Goals as goal

pub returns-then-place-eq0 : goal.returns-then-place-eq0
unfolding opening_of
returns-then-place-eq0 c = no-record _ _ (opening_of c.args.row.now) c.if-place-eq0.true

pub returns-then-place-gt-LAST_PLACE : goal.returns-then-place-gt-LAST_PLACE
unfolding opening_of
returns-then-place-gt-LAST_PLACE c = no_place _ _ (opening_of c.args.row.now) c.if-place-gt-LAST_PLACE.true

pub returns-then-filed-ne1 : goal.returns-then-filed-ne1
unfolding opening_of record_of
returns-then-filed-ne1 c =
    let a = c.args in
    let t = c.args.tables.now in
    let row = c.args.row.now in
    no-such-record t a.entry (opening_of row) _ (filed-row t (get_or row 1 0 - 1)) c.if-place-eq0.false c.if-filed-ne1.true

pub returns-then-permit-eq0 : goal.returns-then-permit-eq0
unfolding opening_of record_of
returns-then-permit-eq0 c =
    let a = c.args in
    let t = c.args.tables.now in
    let row = c.args.row.now in
    c.read_sound.ensures ∙ read-link t a.entry (opening_of row) _ (filed-row t (get_or row 1 0 - 1)) c.if-place-eq0.false c.if-place-gt-LAST_PLACE.false c.if-filed-ne1.false c.if-permit-eq0.true

pub returns : goal.returns
unfolding opening_of record_of
returns c =
    let a = c.args in
    let t = c.args.tables.now in
    let row = c.args.row.now in
    c.work_sound.ensures ∙ work-link t a.entry (opening_of row) _ (filed-row t (get_or row 1 0 - 1)) c.if-place-eq0.false c.if-place-gt-LAST_PLACE.false c.if-filed-ne1.false c.if-permit-eq0.false
