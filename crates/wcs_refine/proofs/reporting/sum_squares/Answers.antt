-- `wcs_refine::reporting::sum_squares` meets its contract. The invariant: what is left to sum gives the whole. Assumes nothing.
use Rattle.std.proofs.Common.{get_or}
use borrow.Author.Tests.{not-true, not-false}
use lib.Ieee.{nan, eq, ne}
use Rattle.solve.specs.Constants.{minus_one}
use Rattle.wcs_refine.proofs.ReportSteps.{squares_more, squares_same, squares_done}
use Rattle.wcs_refine.proofs.reporting.sum_squares.Goals as goal
use Rattle.wcs_refine.proofs.reporting.sum_squares.Goals.{then-x, else-x}

pub loop-x-preserved : goal.loop-x-preserved
unfolding ne
loop-x-preserved c =
    let l = c.loop-x in
    let rs = c.args.residuals.now in
    let h = c.loop-x-test.true in
    let t = eq (get_or rs l.x-index nan) minus_one in
    elim c.if-x.branch [
      | then-x w ↦ rw (w.s-is) (squares_more rs l.x-index l.s l.invariant h (not-true t w.if-x.true))
      | else-x w ↦ rw (w.s-is) (squares_same rs l.x-index l.s l.invariant h (not-false t w.if-x.false))
    ]

pub returns : goal.returns
returns c =
    let l = c.loop-x in
    squares_done c.args.residuals.now l.x-index l.s l.invariant c.loop-x-test.false
