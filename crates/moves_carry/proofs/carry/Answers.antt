-- `moves_carry::carry` meets its contract. Assumes nothing.
use Prim.Native.Nat.{◌+◌, ◌*◌, ◌≤◌, ◌<◌}
use native.Mathlib.Omega.{arith}
use mathlib.Core.Path.{◌∙◌}
use lib.ListN.{length, get_or}
use Rattle.placing.specs.Sizes.{places, segment_cells}
use Rattle.tables.specs.Layout.{segments_in}
use Rattle.segments.specs.Moves.{exchange}
use Rattle.moves_carry.proofs.Records.{first-agree}
use Rattle.moves_carry.proofs.carry.Goals as goal

pub copy_pairs-requires : goal.copy_pairs-requires
copy_pairs-requires c =
    λ k l. let q : get_or c.args.plan.now k 0 < segments_in c.args.tables.now = c.requires.2 k l in
    let r : get_or c.args.plan.now k 0 * segment_cells + segment_cells ≤ length c.args.store.now = omega (arith, c.requires.1) in
    r

pub exchange_pairs-requires : goal.exchange_pairs-requires
exchange_pairs-requires c = (
  c.identity.ensures.size,
  (λ k l. let q : get_or c.args.plan.now k 0 < segments_in c.args.tables.now = c.requires.2 k l in
      let r : get_or c.args.plan.now k 0 < 1024 = omega (arith, c.requires.0.3) in
      r),
  c.identity.ensures.by_index,
)

pub returns : goal.returns
returns c =
    let plan = c.args.plan.now in
    let t = c.args.tables.now in record {
      cells = c.copy_pairs.ensures;
      tables_after = c.renumber_records.ensures
          ∙ first-agree _ (exchange plan) t c.requires.0 (λ x l. c.exchange_pairs.ensures x (omega (arith, c.requires.0.3))) places (omega arith);
    }
