-- Document 02, P4: "A file that is another's and private must look absent: 11 in place of 12, for read and for work, and 12 is never given
-- again." Assumes nothing.
use Rattle.std.specs.Prelude.{ℕ, ◌≡◌, ◌≢◌, false, ◌&&◌, map}
use Rattle.combine.specs.Lists.{any}
use Rattle.combine.specs.Verdict.{refused}
use Rattle.rules.specs.Calls.{Way, opens, Call, on}
use Rattle.rules.specs.Headings.{passes, head_of}
use Rattle.rules.specs.Readable.{may_read, readable_by, asks_for}
use Rattle.cells.specs.Says.{house_of}
use Rattle.cells.specs.Outcomes.{Lent, call_run}
use Rattle.model.specs.Model.{Model, model}
use Rattle.model.specs.Step.{request_on_model}
use Rattle.demands.specs.History.{outcome_on, after_call, view_on}
use Rattle.demands.specs.Demands.{Sound}

-- what users know, without the private files of others than user u
abbrev pub known_to : (user : ℕ) → Lent → Model
known_to u x = model (view_on x).cells (readable_by u (view_on x).house)

-- an opening of user u is answered, and opens, as over the catalogue from which all private files of others are taken away
abbrev pub LooksAbsent : Type 0
LooksAbsent =
    (u e : ℕ) (w : Way) (x : Lent) → Sound x
    → let c = on u e (opens w) in
    let o = request_on_model (opens w) u e (known_to u x) in
    ((outcome_on c x).answer ≡ o.answer) × (known_to u (after_call c x) ≡ o.after)

-- nothing else looks absent: 11 is answered only where no record that the user may read has the name
abbrev pub HidesNoMore : Type 0
HidesNoMore =
    (u e : ℕ) (w : Way) (x : Lent) → (outcome_on (on u e (opens w)) x).answer ≡ refused 11
    → any (passes (λ r. may_read u r && asks_for w r)) (map head_of (house_of x.tables).records) ≡ false

-- no call is answered 12, and no run is stopped by it
abbrev pub Never12 : Type 0
Never12 = (c : Call) (x : Lent) → ((outcome_on c x).answer ≢ refused 12) × ((call_run c x.store x.tables).stop ≢ 12)
