-- Each scan's match is taken in its turn.
use Rattle.std.proofs.Common.{[], ◌∷◌, refl, arith}
use Rattle.scanning.specs.Seeking.{match_at}
use Rattle.scanning.proofs.Holding.{hold_none, hold_all, turn_left, turn_fits, turn_more}
use Rattle.scanning.proofs.taking.take_closest.Goals as goal

pub loop-m-init : goal.loop-m-init
loop-m-init c = ([], refl, hold_none c.args.s c.args.work.now (omega (arith, c.requires)) c.clear.new.s c.clear.ensures)

pub take-requires : goal.take-requires
take-requires c =
    let i = c.loop-m.invariant in
    rw (← i.1) (turn_fits c.args.s c.args.work.now i.0 c.loop-m.work i.2 c.requires c.in-Some.m c.closest.new.work c.in-Some.ensures)

pub loop-m-smaller : goal.loop-m-smaller
loop-m-smaller c =
    let i = c.loop-m.invariant in
    omega (arith, i.1, turn_left c.args.s c.args.work.now i.0 c.loop-m.work i.2 c.requires c.in-Some.m c.closest.new.work c.in-Some.ensures)

pub loop-m-preserved : goal.loop-m-preserved
loop-m-preserved c =
    let i = c.loop-m.invariant in (
      match_at c.in-Some.m ∷ i.0,
      omega (arith, i.1),
      rw (c.take.ensures, ← i.1) (turn_more c.args.s c.args.work.now i.0 c.loop-m.work i.2 c.requires c.in-Some.m c.closest.new.work c.in-Some.ensures),
    )

pub returns : goal.returns
returns c =
    let i = c.loop-m.invariant in
    let e = c.in_default.ensures in
    rw (← i.1) (hold_all c.args.s c.args.work.now i.0 c.loop-m.work i.2 e.0 c.closest.new.work e.1)
