use Rattle.std.proofs.Common.{◌<◌, ◌≤◌, ◌/◌, [], length, ap, ◌∙◌, arith}
use Rattle.panel.specs.Spots.{spot_at}
use Rattle.fit.specs.Normal.{with_rows, no_matches}
use Rattle.fit.specs.Rows.{rows, direction_at}
use Rattle.fit.proofs.Lookup.{pair_spot, pair_direction}
use Rattle.fit.proofs.Summing.{sum_next, sum_done}
use Rattle.fit.proofs.normal.summed.Goals as goal

pub loop-spot-preserved : goal.loop-spot-preserved
loop-spot-preserved g c =
    let a = c.args in
    let ms = a.matches.now in
    let i = c.loop-spot.spot-index in
    let h : i < length ms / 2 = omega (arith, c.as_chunks.ensures.front_len, c.loop-spot-test.true) in
    record {
      counts = omega (arith, c.with_row-s.ensures.counts, c.loop-spot.invariant.counts);
      left = λ fitting b.
          sum_next fitting a.w.now a.spots.now a.directions.now ms (length ms / 2) i c.loop-spot.s (with_rows fitting a.w.now no_matches (rows a.spots.now a.directions.now ms)) (c.loop-spot.invariant.left fitting b) h
          (c.spot_at-c.ensures ∙ ap (spot_at a.spots.now) (pair_spot ms (length ms / 2) i [] c.as_chunks.ensures.front h))
          (c.direction_at-d.ensures ∙ ap (direction_at a.directions.now) (pair_direction ms (length ms / 2) i [] c.as_chunks.ensures.front h))
          (c.with_row-s.ensures.is fitting b);
    }

pub returns : goal.returns
returns g c =
    let a = c.args in
    let h : length a.matches.now / 2 ≤ c.loop-spot.spot-index = omega (arith, c.as_chunks.ensures.front_len, c.loop-spot-test.false) in
    λ fitting b.
    sum_done fitting a.w.now a.spots.now a.directions.now a.matches.now (length a.matches.now / 2) c.loop-spot.spot-index c.loop-spot.s
    (with_rows fitting a.w.now no_matches (rows a.spots.now a.directions.now a.matches.now)) (c.loop-spot.invariant.left fitting b) h
