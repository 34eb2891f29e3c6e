-- `sound_extents::content_sound` meets its contract. Assumes nothing.
use mathlib.Core.Path.{sym, ap, ◌∙◌}
use mathlib.Core.List.{map}
use native.Mathlib.Omega.{arith}
use Prim.Native.Nat.{ℕ}
use Rattle.combine.specs.Laws.Rows.{one-bad, all-last}
use Rattle.placing.specs.declared.Position.{Position}
use Rattle.placing.specs.Placing.{segment}
use Rattle.tables.specs.Records.{listb}
use Rattle.tables.specs.Laws.ExtentFacts.{extentb-facts}
use Rattle.sound_extents.specs.Extent.{contentb, held_at}
use Rattle.sound_extents.proofs.content_sound.Goals as goal

pub returns-then-not-extent_sound : goal.returns-then-not-extent_sound
unfolding contentb
returns-then-not-extent_sound c = one-bad _ 0 (sym c.extent_sound.ensures ∙ c.if-not-extent_sound.true)

pub held-held-requires : goal.held-held-requires
held-held-requires c =
    let b = ap (λ (x : Position). x.0) c.of.ensures in
    let e = ap (λ (x : Position). x.0) c.of-2.ensures in
    let extent = extentb-facts _ _ _ (sym c.extent_sound.ensures ∙ c.if-not-extent_sound.false) in
    omega arith

pub list_sound-requires : goal.list_sound-requires
list_sound-requires c =
    let held = held_at _ _ _ _ _ _ c.of.ensures c.of-2.ensures c.held-held.ensures in
    let extent = extentb-facts _ _ _ (sym c.extent_sound.ensures ∙ c.if-not-extent_sound.false) in
    (c.requires, omega (arith, held, extent.held))

pub returns : goal.returns
unfolding contentb
returns c =
    let held = held_at _ _ _ _ _ _ c.of.ensures c.of-2.ensures c.held-held.ensures in
    let list = c.args.list.now in
    all-last _ _ (
      sym c.extent_sound.ensures ∙ c.if-not-extent_sound.false,
      c.list_sound.ensures ∙ ap (λ (n : ℕ). listb c.args.segments n (map segment list)) held,
    )
