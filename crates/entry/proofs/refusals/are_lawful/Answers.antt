use mathlib.Core.Path.{sym}
use Rattle.entry.specs.Check.{lawful_component}
use Rattle.entry.proofs.ListTests.{failed, passed, every_next, every_stop, every_done}
use Rattle.entry.proofs.refusals.are_lawful.Goals as goal

pub returns-then-not-is_lawful : goal.returns-then-not-is_lawful
returns-then-not-is_lawful c =
    let l = c.loop-x in
    sym (every_stop lawful_component c.args.components.now l.x-index l.invariant c.loop-x-test.true (failed c.is_lawful.ensures c.if-not-is_lawful.true))

pub loop-x-preserved : goal.loop-x-preserved
loop-x-preserved c =
    let l = c.loop-x in
    every_next lawful_component c.args.components.now l.x-index l.invariant c.loop-x-test.true (passed c.is_lawful.ensures c.if-not-is_lawful.false)

pub returns : goal.returns
returns c =
    let l = c.loop-x in
    sym (every_done lawful_component c.args.components.now l.x-index l.invariant c.loop-x-test.false)
