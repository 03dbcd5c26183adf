-- `collect` pushes the pairs of each spot.
use Rattle.std.proofs.Common.{◌≡◌, ℕ, ◌-◌, ◌≤◌, List, [], arith}
use lib.Ieee.{Float}
use Rattle.pairs.specs.Pairs.{pairs_from}
use Rattle.pairs.proofs.Pushing.{begun, ended, going_on, gone_full, pairs_spot, all_pairs}
use Rattle.pairs.proofs.pairs.collect.Goals as goal

none_left : (r2 : Float) (points predicted : List Float) (i n : ℕ) → n ≤ i → pairs_from r2 points predicted i (n - i) ≡ []
unfolding pairs_from
none_left r2 points predicted i n h =
    let e : n - i ≡ 0 = omega arith in
    rw e

pub loop-i-init : goal.loop-i-init
loop-i-init c =
    let s = c.args.s in
    let e : s.np - 0 ≡ s.np = omega arith in
    begun (rw (e, all_pairs s.points.now s.np s.predicted.now s.radius_sq s.fits))

pub loop-i-preserved : goal.loop-i-preserved
loop-i-preserved c =
    let s = c.args.s in
    going_on _ _ c.loop-i.invariant (pairs_spot s.radius_sq s.points.now s.predicted.now s.np c.loop-i.i c.loop-i-test.true)
    c.collect_spot.ensures c.in_ok-collect_spot.was

pub returns-in_err-collect_spot : goal.returns-in_err-collect_spot
returns-in_err-collect_spot c =
    let s = c.args.s in
    gone_full _ _ c.loop-i.invariant (pairs_spot s.radius_sq s.points.now s.predicted.now s.np c.loop-i.i c.loop-i-test.true)
    c.collect_spot.ensures c.in_err-collect_spot.was c.from_residual.ensures

pub returns : goal.returns
returns c =
    let s = c.args.s in
    ended c.loop-i.invariant (none_left s.radius_sq s.points.now s.predicted.now c.loop-i.i s.np c.loop-i-test.false)
