-- `residuals::residual::residuals` meets its contract. The invariant: what is written and counted so far, with what the matches that are left bring, is the whole. Assumes nothing.
use mathlib.Core.Path.{ap, ◌∙◌}
use mathlib.Core.List.{[]}
use Prim.Native.Nat.{◌/◌, ◌<◌}
use native.Mathlib.Omega.{arith}
use lib.ListN.{length}
use Rattle.fit.specs.Rows.{direction_at}
use Rattle.fit.proofs.Lookup.{pair_spot, pair_direction}
use Rattle.panel.specs.Spots.{spot_at}
use Rattle.residuals.proofs.Distances.{residuals_next, residuals_none, written_next, written_done, counted_next, counted_done, tallied}
use borrow.Author.Rules.{rules}
use Rattle.residuals.proofs.residual.residuals.Goals as goal

pub loop-i-preserved : goal.loop-i-preserved
loop-i-preserved c =
    let a = c.args in
    let ms = a.matches.now in
    let l = c.loop-i in
    let h : l.i < length ms / 2 = omega (arith, c.as_chunks.ensures.front_len, c.loop-i-test.true) in
    let r = residuals_next a.w.now a.spots.now a.directions.now ms (length ms / 2) l.i h
    (c.spot_at-c.ensures ∙ ap (spot_at a.spots.now) (pair_spot ms (length ms / 2) l.i [] c.as_chunks.ensures.front h))
    (c.direction_at-d.ensures ∙ ap (direction_at a.directions.now) (pair_direction ms (length ms / 2) l.i [] c.as_chunks.ensures.front h))
    c.residual_of-x.ensures in
    let n = tallied c.residual_of-x.result c.from-count.ensures in (
      omega (arith, n.0, l.invariant.0),
      c.put.auto.s ∙ l.invariant.1,
      written_next l.out l.i r c.put.ensures l.invariant.2,
      counted_next l.count r n.1 l.invariant.3,
    )

pub returns : goal.returns
returns c =
    let a = c.args in
    let l = c.loop-i in
    let r = residuals_none a.w.now a.spots.now a.directions.now a.matches.now (length a.matches.now / 2) l.i (search rules) in
    record { written = written_done l.out l.i r l.invariant.2; counted = counted_done l.count r l.invariant.3 }
