use Rattle.std.proofs.Common.{◌<◌, ◌≡◌, arith}
use mathlib.Core.Logic.{inl, inr}
use Rattle.record.proofs.NumberSteps.{begun, number_ends, number_high, number_needless, number_last, number_on}
use Rattle.record.proofs.numbers.number_to.Goals as goal

pub loop-i-init : goal.loop-i-init
loop-i-init c = begun c.args.bytes.now c.args.top c.requires

pub returns-then-left-b : goal.returns-then-left-b
returns-then-left-b c =
    let a = c.args in
    let l = c.loop-i in
    let w = c.from-b in
    let byte : w.result < 256 = omega (arith, w.ensures, c.type_inv.bytes l.i) in
    number_high a.bytes.now a.top l.v l.weight l.left l.i l.invariant c.loop-i-test.true w.result w.ensures byte c.if-left-b.true

pub returns-then-i-gt0 : goal.returns-then-i-gt0
returns-then-i-gt0 c =
    let a = c.args in
    let l = c.loop-i in
    let w = c.from-b in
    number_needless a.bytes.now a.top l.v l.weight l.left l.i l.invariant c.loop-i-test.true w.result w.ensures c.if-b-eq0.true c.if-i-gt0.true

pub returns-then-b-lt128 : goal.returns-then-b-lt128
returns-then-b-lt128 c =
    let a = c.args in
    let l = c.loop-i in
    let w = c.from-b in
    let first : w.result ≡ 0 → l.i ≡ 0 =
    λ z. elim c.else-b-eq0.either [ inl p ↦ omega arith | inr q ↦ absurd (q z) ] in
    number_last a.bytes.now a.top l.v l.weight l.left l.i l.invariant c.loop-i-test.true w.result w.ensures c.if-b-lt128.true c.if-left-b.false first

pub loop-i-preserved : goal.loop-i-preserved
loop-i-preserved c =
    let a = c.args in
    let l = c.loop-i in
    let w = c.from-b in
    let byte : w.result < 256 = omega (arith, w.ensures, c.type_inv.bytes l.i) in
    number_on a.bytes.now a.top l.v l.weight l.left l.i l.invariant c.loop-i-test.true w.result w.ensures c.if-b-lt128.false byte c.if-left-b.false

pub returns : goal.returns
returns c =
    let l = c.loop-i in
    number_ends c.args.bytes.now c.args.top l.v l.weight l.left l.i l.invariant c.loop-i-test.false
