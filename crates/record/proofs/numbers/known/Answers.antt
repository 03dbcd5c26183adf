use Rattle.std.proofs.Common.{◌<◌, arith}
use Rattle.record.proofs.KnownSteps.{knowing_first, known_inside, known_fits, known_end, known_more, knowing_on}
use Rattle.record.proofs.numbers.known.Goals as goal

pub bounds-bytes-0 : goal.bounds-bytes-0
bounds-bytes-0 c = known_inside _ _ _ _ c.requires (knowing_first c.args.bytes.now)

pub loop-b-init : goal.loop-b-init
loop-b-init c = (knowing_first c.args.bytes.now, c.from-b.ensures)

pub overflow_mul-v : goal.overflow_mul-v
overflow_mul-v c =
    let l = c.loop-b in
    let byte : l.b < 256 = omega (arith, l.invariant.1, c.type_inv.bytes l.i) in
    omega (arith, known_more _ _ _ _ _ c.requires l.invariant.0 l.invariant.1 c.loop-b-test.true byte)

pub overflow_add-v : goal.overflow_add-v
overflow_add-v c =
    let l = c.loop-b in
    let byte : l.b < 256 = omega (arith, l.invariant.1, c.type_inv.bytes l.i) in
    omega (arith, known_more _ _ _ _ _ c.requires l.invariant.0 l.invariant.1 c.loop-b-test.true byte)

pub overflow_mul-weight : goal.overflow_mul-weight
overflow_mul-weight c =
    let l = c.loop-b in
    let byte : l.b < 256 = omega (arith, l.invariant.1, c.type_inv.bytes l.i) in
    omega (arith, known_more _ _ _ _ _ c.requires l.invariant.0 l.invariant.1 c.loop-b-test.true byte)

pub bounds-bytes-i : goal.bounds-bytes-i
bounds-bytes-i c =
    let l = c.loop-b in
    let byte : l.b < 256 = omega (arith, l.invariant.1, c.type_inv.bytes l.i) in
    known_inside _ _ _ _ c.requires (knowing_on _ _ _ _ _ c.requires l.invariant.0 l.invariant.1 c.loop-b-test.true byte)

pub loop-b-preserved : goal.loop-b-preserved
loop-b-preserved c =
    let l = c.loop-b in
    let byte : l.b < 256 = omega (arith, l.invariant.1, c.type_inv.bytes l.i) in
    (knowing_on _ _ _ _ _ c.requires l.invariant.0 l.invariant.1 c.loop-b-test.true byte, c.from-b-in-loop-b.ensures)

pub overflow_mul-result : goal.overflow_mul-result
overflow_mul-result c =
    let l = c.loop-b in
    let last : l.b < 128 = omega (arith, c.loop-b-test.false) in
    omega (arith, known_fits _ _ _ _ _ c.requires l.invariant.0 l.invariant.1 last)

pub overflow_add-result : goal.overflow_add-result
overflow_add-result c =
    let l = c.loop-b in
    let last : l.b < 128 = omega (arith, c.loop-b-test.false) in
    omega (arith, known_fits _ _ _ _ _ c.requires l.invariant.0 l.invariant.1 last)

pub overflow_add-result-2 : goal.overflow_add-result-2
overflow_add-result-2 c = omega (arith, known_inside _ _ _ _ c.requires c.loop-b.invariant.0)

pub returns : goal.returns
returns c =
    let l = c.loop-b in
    let last : l.b < 128 = omega (arith, c.loop-b-test.false) in
    known_end _ _ _ _ _ c.requires l.invariant.0 l.invariant.1 last
