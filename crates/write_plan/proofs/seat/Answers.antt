-- `write_plan::seat` meets its contract. Assumes nothing.
use Rattle.std.proofs.Common.{rules, ◌≡◌, Err}
use Rattle.write_plan.proofs.Seats.{seats}
use Rattle.write_plan.proofs.seat.Goals as goal

pub returns-in_err-free : goal.returns-in_err-free
returns-in_err-free c =
    let z : c.from_residual.result ≡ Err c.in_err-free.field-0.0 = search rules in
    search (seats, z, c.in_err-free.was)

pub returns-then-holds-place : goal.returns-then-holds-place
returns-then-holds-place c = search (seats, c.in_ok-free.was)

pub returns-then-not-shares : goal.returns-then-not-shares
returns-then-not-shares c = search seats

pub returns-in_err-free-2 : goal.returns-in_err-free-2
returns-in_err-free-2 c =
    let z : c.from_residual-in_err-free-2.result ≡ Err c.in_err-free-2.field-0.0 = search rules in
    search (seats, z, c.in_err-free-2.was)

pub returns : goal.returns
returns c = search (seats, c.in_ok-free-2.was)
