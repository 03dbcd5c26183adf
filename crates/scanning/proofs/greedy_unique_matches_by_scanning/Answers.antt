-- A `work` list that is too short is answered first, and then all that is taken.
use Rattle.std.proofs.Common.{◌≤◌, length}
use Rattle.matching.specs.Greedy.{needed}
use Rattle.scanning.proofs.Whole.{too_short, all_taken}
use Rattle.scanning.proofs.greedy_unique_matches_by_scanning.Goals as goal

pub returns-then-work-marked : goal.returns-then-work-marked
returns-then-work-marked c =
    let a = c.args in
    let s = c.new-s.ensures in
    too_short a.points.now a.max_points a.predicted.now a.radius_sq a.work.now (rw (c.min-most.ensures, s.1, s.2) at c.if-work-marked.true)

pub returns : goal.returns
returns c =
    let a = c.args in
    let s = c.new-s.ensures in
    let t = c.take_closest-t in
    let room : needed a.points.now a.max_points a.predicted.now ≤ length a.work.now = rw (c.min-most.ensures, s.1, s.2) at c.if-work-marked.false in
    all_taken a.points.now a.max_points a.predicted.now a.radius_sq a.work.now room t.result t.new.work c.clear.new.s t.auto.work
    (rw (s.0, s.1, s.2, s.3) at t.ensures.count) (rw (s.0, s.1, s.2, s.3) at t.ensures.matches) (rw (s.1, s.2) at c.clear.ensures)
