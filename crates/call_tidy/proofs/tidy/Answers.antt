-- `call_tidy::tidy` meets its contract. Assumes nothing.
use mathlib.Core.Path.{refl}
use lib.ListN.{length}
use Rattle.tables.specs.Laws.Sound.{ranged-of, fits-store}
use Rattle.call_tidy.proofs.Laws.{tests, lent-moves, moves-low, carried-out, none-carried}
use Rattle.call_tidy.proofs.tidy.Goals as goal

pub nothing_open-requires : goal.nothing_open-requires
nothing_open-requires c = (ranged-of (length c.args.store.now) c.args.tables.now (search tests)).0

pub plan-count-requires : goal.plan-count-requires
plan-count-requires c = (ranged-of (length c.args.store.now) c.args.tables.now (search tests), refl)

pub returns-then-count-eq0 : goal.returns-then-count-eq0
returns-then-count-eq0 c =
    let p = c.plan-count in
    none-carried c.args.store.now c.args.tables.now p.new.room p.result c.if-count-eq0.true (search tests) (search tests) p.ensures.count p.ensures.room_after

pub carry-requires : goal.carry-requires
carry-requires c =
    let cells = length c.args.store.now in
    let t = c.args.tables.now in
    let p = c.plan-count in
    (ranged-of cells t (search tests), fits-store cells t (search tests), moves-low t _ (lent-moves t p.new.room p.result p.ensures.room_after))

pub returns : goal.returns
returns c =
    let t = c.args.tables.now in
    let p = c.plan-count in
    let d = c.carry in
    carried-out c.args.store.now t _ d.new.store d.new.tables p.result (search tests) (search tests) p.ensures.count
    (lent-moves t p.new.room p.result p.ensures.room_after) d.ensures.cells d.ensures.tables_after
