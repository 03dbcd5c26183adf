use Rattle.std.proofs.Common.{arith}
use Rattle.record.proofs.RunSteps.{filling_first, filled, filling_lies, filling_small, filling_inside, filling_on}
use Rattle.record.proofs.runs.fill.Goals as goal

pub loop-x-init : goal.loop-x-init
loop-x-init g c = filling_first _ _ _ _

pub known-n-requires : goal.known-n-requires
known-n-requires g c = filling_lies _ _ _ _ _ _ _ c.loop-x.invariant c.loop-x-test.true c.requires.0 c.requires.1 g.met.F.Field.narrow

pub from_number-requires : goal.from_number-requires
from_number-requires g c =
    let n = c.known-n in
    filling_small _ _ _ _ _ _ _ c.loop-x.invariant c.loop-x-test.true c.requires.0 c.requires.1 n.result.value n.result.bytes n.ensures

pub slice_bounds-rest-count : goal.slice_bounds-rest-count
slice_bounds-rest-count g c =
    let n = c.known-n in
    omega (arith, filling_inside _ _ _ _ _ _ _ c.loop-x.invariant c.loop-x-test.true c.requires.0 c.requires.1 n.result.value n.result.bytes n.ensures)

pub slice_bounds-rest-start : goal.slice_bounds-rest-start
slice_bounds-rest-start g c =
    let n = c.known-n in
    omega (arith, filling_inside _ _ _ _ _ _ _ c.loop-x.invariant c.loop-x-test.true c.requires.0 c.requires.1 n.result.value n.result.bytes n.ensures)

pub loop-x-preserved : goal.loop-x-preserved
loop-x-preserved g c =
    let n = c.known-n in
    filling_on _ _ _ _ _ _ _ c.loop-x.invariant c.loop-x-test.true c.requires.0 c.requires.1 n.result.value n.result.bytes n.ensures c.from_number.result c.from_number.ensures

pub returns : goal.returns
returns g c = filled _ _ _ _ _ _ _ c.loop-x.invariant c.loop-x-test.false
