-- `greedy_unique_matches_by_strips` meets its contract: what was found by strips and put by spot is what is found without them, and the part of `work`
-- behind the strips' room is what the other call would have been given.
use Rattle.std.proofs.Common.{◌+◌, ◌*◌, ◌≤◌, length, rules, refl, ◌∙◌, arith}
use Rattle.matching.specs.Greedy.{needed}
use Rattle.matching.proofs.Whole.{same_outcome, too_short_for_strips, by_strips, over_by_strips, given, room_again, enough_lent, placed_behind, over_behind}
use Rattle.matching.proofs.greedy_unique_matches_by_strips.Goals as goal

pub returns-then-work-room : goal.returns-then-work-room
returns-then-work-room c =
    let a = c.args in
    let s = c.new-s.ensures in
    rw (c.unordered.ensures.0, c.unordered.ensures.1)
    (too_short_for_strips a.points.now a.max_points a.predicted.now a.radius_sq a.distances.now a.indices.now a.work.now
    (rw (c.places.ensures, c.of-n.ensures.0, c.of-n.ensures.1, s.1, s.2) at c.if-work-room.true))

pub settle-requires : goal.settle-requires
settle-requires c =
    let a = c.args in
    let s = c.new-s.ensures in
    let np = c.of-n.result.spots in
    let spots = c.of-n.ensures.0 ∙ s.1 in
    let n = c.collect_by_strips in
    let p = c.put_by_spot in
    let fits : 2 * np + needed a.points.now a.max_points a.predicted.now ≤ length a.work.now =
    rw (← spots, ← s.2, ← c.of-n.ensures.1, ← c.places.ensures) c.if-work-room.false in
    let all = by_strips a.points.now a.max_points a.predicted.now a.radius_sq c.new-c.ensures.2 np spots (length a.work.now)
    (rw (s.0, ← c.of-n.ensures.0, s.2, s.3) at n.ensures.0) p.new.self n.new.work p.new.counts p.ensures.1 p.ensures.2
    (omega (arith, fits, n.auto.work)) c.in-Some.is in
    let left = room_again a.points.now a.max_points a.predicted.now a.radius_sq np spots a.work.now fits
    (rw (s.0, ← c.of-n.ensures.0) at n.ensures.1) p.ensures.2.places in
    rw (c.of-n.ensures.1, s.2) (
      enough_lent a.points.now a.max_points a.predicted.now a.radius_sq np spots a.work.now fits p.new.counts left,
      rw spots (given a.points.now a.max_points a.predicted.now a.radius_sq all),
    )

pub returns-in-Some : goal.returns-in-Some
returns-in-Some c =
    let a = c.args in
    let s = c.new-s.ensures in
    let k = c.new-c.ensures in
    let np = c.of-n.result.spots in
    let spots = c.of-n.ensures.0 ∙ s.1 in
    let n = c.collect_by_strips in
    let p = c.put_by_spot in
    let t = c.settle in
    let fits : 2 * np + needed a.points.now a.max_points a.predicted.now ≤ length a.work.now =
    rw (← spots, ← s.2, ← c.of-n.ensures.1, ← c.places.ensures) c.if-work-room.false in
    let all = by_strips a.points.now a.max_points a.predicted.now a.radius_sq k.2 np spots (length a.work.now)
    (rw (s.0, ← c.of-n.ensures.0, s.2, s.3) at n.ensures.0) p.new.self n.new.work p.new.counts p.ensures.1 p.ensures.2
    (omega (arith, fits, n.auto.work)) c.in-Some.is in
    let left = room_again a.points.now a.max_points a.predicted.now a.radius_sq np spots a.work.now fits
    (rw (s.0, ← c.of-n.ensures.0) at n.ensures.1) p.ensures.2.places in
    same_outcome refl refl (search rules) (search rules) refl
    ∙ (rw (k.0, k.1) at (placed_behind a.points.now a.max_points a.predicted.now a.radius_sq np spots a.work.now fits p.new.counts left all
    t.result.matched t.result.comparisons t.new.c.distances.now t.new.c.indices.now t.new.work
    (rw (c.of-n.ensures.1, s.2) at t.ensures.1)))

pub returns-in-None : goal.returns-in-None
returns-in-None c =
    let a = c.args in
    let s = c.new-s.ensures in
    let k = c.new-c.ensures in
    let np = c.of-n.result.spots in
    let spots = c.of-n.ensures.0 ∙ s.1 in
    let n = c.collect_by_strips in
    let t = c.too_many.ensures in
    let cap = n.ensures.0.same.cap in
    let fits : 2 * np + needed a.points.now a.max_points a.predicted.now ≤ length a.work.now =
    rw (← spots, ← s.2, ← c.of-n.ensures.1, ← c.places.ensures) c.if-work-room.false in
    let over = over_by_strips a.points.now a.max_points a.predicted.now a.radius_sq k.2 np spots (length a.work.now)
    (rw (s.0, ← c.of-n.ensures.0, s.2, s.3) at n.ensures.0) c.in-None.is in
    same_outcome refl refl (search rules) (search rules) refl
    ∙ same_outcome t.1 t.2 (rw cap at t.3) (rw cap at t.4) refl
    ∙ (rw (k.0, k.1) at (over_behind a.points.now a.max_points a.predicted.now a.radius_sq np spots a.work.now fits n.new.work
    (rw (s.0, ← c.of-n.ensures.0) at n.ensures.1) over))
