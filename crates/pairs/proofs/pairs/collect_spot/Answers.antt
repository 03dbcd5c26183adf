-- A spot's pairs, pushed prediction by prediction.
use Rattle.std.proofs.Common.{◌≡◌, ℕ, ◌-◌, ◌≤◌, List, [], arith}
use lib.Ieee.{Float}
use Rattle.pairs.specs.Pairs.{Point, point_at, squared, pairs_of}
use Rattle.pairs.proofs.Pushing.{ended, going_on, gone_full, pairs_next}
use Rattle.pairs.proofs.pairs.collect_spot.Goals as goal

none_left : (r2 : Float) (predicted : List Float) (spot : ℕ) (p : Point) (j n : ℕ) → n ≤ j → pairs_of r2 predicted spot p j (n - j) ≡ []
unfolding pairs_of
none_left r2 predicted spot p j n h =
    let e : n - j ≡ 0 = omega arith in
    rw e

pub loop-j-preserved : goal.loop-j-preserved
unfolding squared point_at
loop-j-preserved c =
    let s = c.args.s in
    going_on _ _ c.loop-j.invariant (pairs_next s.radius_sq s.predicted.now c.args.i (point_at s.points.now c.args.i) _ c.loop-j.j c.loop-j-test.true)
    c.try_pair.ensures c.in_ok-try_pair.was

pub returns-in_err-try_pair : goal.returns-in_err-try_pair
unfolding squared point_at
returns-in_err-try_pair c =
    let s = c.args.s in
    gone_full _ _ c.loop-j.invariant (pairs_next s.radius_sq s.predicted.now c.args.i (point_at s.points.now c.args.i) _ c.loop-j.j c.loop-j-test.true)
    c.try_pair.ensures c.in_err-try_pair.was c.from_residual.ensures

pub returns : goal.returns
returns c =
    let s = c.args.s in
    ended c.loop-j.invariant (none_left s.radius_sq s.predicted.now c.args.i (point_at s.points.now c.args.i) c.loop-j.j _ c.loop-j-test.false)
