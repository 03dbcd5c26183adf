use Rattle.std.proofs.Common.{◌/◌, ◌^◌, arith}
use Rattle.rounding.proofs.Newton.{range}
use Rattle.rounding.proofs.whole_root.double.Goals as goal

pub nearer-requires : goal.nearer-requires
nearer-requires c =
    let s = c.half in
    let r = range (c.args.a.word / 2 ^ 32) 15 16 s.result (omega (arith, c.args.a.high)) (omega (arith, c.well_formed)) s.ensures in
    (s.ensures.0, s.ensures.1, omega arith, omega arith, omega arith, omega arith)
