use Rattle.std.proofs.Common.{◌-◌, ◌/◌, ◌^◌, ◌<◌, arith}
use Rattle.rounding.proofs.Cubic.{close}
use Rattle.rounding.proofs.whole_root.first_root.Goals as goal

pub returns : goal.returns
returns c =
    let a = c.args.a.word in
    let y_lt : 511 - a / 2 ^ 55 < 384 = omega (arith, c.args.a.high) in
    close (511 - a / 2 ^ 55) y_lt (a / 2 ^ 48) (omega (arith, c.args.a.high)) (omega (arith, c.well_formed))
