-- `residuals::residual::gather` meets its contract. The invariant: those of the first residuals that are in front stand at the front of the scratch. Assumes nothing.
use native.Mathlib.Omega.{arith}
use borrow.Author.Tests.{not-true, not-false}
use lib.Ieee.{nan, eq, ne}
use lib.ListN.{get_or, length-set}
use Rattle.solve.specs.Constants.{minus_one}
use Rattle.residuals.proofs.Gathered.{copied, passed}
use Rattle.residuals.proofs.residual.gather.Goals as goal
use Rattle.residuals.proofs.residual.gather.Goals.{then-x, else-x}

pub loop-x-preserved : goal.loop-x-preserved
unfolding ne
loop-x-preserved c =
    let l = c.args.residuals.now in
    let o = c.args.scratch.now in
    let v = c.loop-x in
    let h = c.loop-x-test.true in
    let t = eq (get_or l v.x-index nan) minus_one in
    elim c.if-x.branch [
      | then-x w ↦
          let s = copied l v.scratch o v.k v.x-index h v.invariant.2 v.invariant.3 (omega (arith, h, v.invariant.0, c.requires)) (not-true t w.if-x.true) in
          rw (w.scratch-is, w.k-is) (omega (arith, v.invariant.0), simp length-set v.invariant.1, s.0, s.1)
      | else-x w ↦
          let s = passed l v.scratch o v.k v.x-index h v.invariant.2 v.invariant.3 (not-false t w.if-x.false) in
          rw (w.scratch-is, w.k-is) (omega (arith, v.invariant.0), v.invariant.1, s.0, s.1)
    ]
