use mathlib.Core.Path.{◌∙◌, sym, ap}
use Rattle.entry.proofs.ListTests.{failed, passed, spots_next, spots_stop, spots_done}
use Rattle.entry.proofs.refusals.every_spot.Goals as goal

pub returns-then-not-test : goal.returns-then-not-test
returns-then-not-test g c = λ p h.
    let l = c.loop-i in
    sym (spots_stop p _ _ l.i (l.invariant p h) c.loop-i-test.true (failed (h _ _ c.test.ensures ∙ ap p c.spot_at.ensures) c.if-not-test.true))

pub loop-i-preserved : goal.loop-i-preserved
loop-i-preserved g c = λ p h.
    let l = c.loop-i in
    spots_next p _ _ l.i (l.invariant p h) c.loop-i-test.true (passed (h _ _ c.test.ensures ∙ ap p c.spot_at.ensures) c.if-not-test.false)

pub returns : goal.returns
returns g c = λ p h.
    let l = c.loop-i in
    sym (spots_done p _ _ l.i (l.invariant p h) c.loop-i-test.false)
