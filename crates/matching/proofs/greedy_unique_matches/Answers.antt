-- `greedy_unique_matches` meets its contract: a `work` list that is too short is answered first, and then what follows the search.
use Rattle.std.proofs.Common.{◌≤◌, length, rules, refl, ◌∙◌}
use Rattle.matching.specs.Greedy.{needed}
use Rattle.matching.proofs.Whole.{same_outcome, too_short, in_turn, over_in_turn, given, placed_whole, over_whole}
use Rattle.matching.proofs.greedy_unique_matches.Goals as goal

pub returns-then-work-places : goal.returns-then-work-places
returns-then-work-places c =
    let a = c.args in
    let s = c.new-s.ensures in
    rw (c.unordered.ensures.0, c.unordered.ensures.1)
    (too_short a.points.now a.max_points a.predicted.now a.radius_sq a.distances.now a.indices.now a.work.now
    (rw (c.places.ensures, c.of-n.ensures.0, c.of-n.ensures.1, s.1, s.2) at c.if-work-places.true))

pub settle-requires : goal.settle-requires
settle-requires c =
    let a = c.args in
    let s = c.new-s.ensures in
    let all = in_turn a.points.now a.max_points a.predicted.now a.radius_sq c.new-c.ensures.2 c.new-s.result.np s.1
    (rw (s.0, s.2, s.3) at c.collect.ensures) c.in-Some.is in (
      rw c.places.ensures at c.if-work-places.false,
      rw (c.of-n.ensures.0, c.of-n.ensures.1, s.1, s.2) (given a.points.now a.max_points a.predicted.now a.radius_sq all),
    )

pub returns-in-Some : goal.returns-in-Some
returns-in-Some c =
    let a = c.args in
    let s = c.new-s.ensures in
    let k = c.new-c.ensures in
    let all = in_turn a.points.now a.max_points a.predicted.now a.radius_sq k.2 c.new-s.result.np s.1 (rw (s.0, s.2, s.3) at c.collect.ensures) c.in-Some.is in
    let room : needed a.points.now a.max_points a.predicted.now ≤ length a.work.now =
    rw (c.places.ensures, c.of-n.ensures.0, c.of-n.ensures.1, s.1, s.2) at c.if-work-places.false in
    same_outcome refl refl (search rules) (search rules) refl
    ∙ (rw (c.of-n.ensures.0, c.of-n.ensures.1, s.1, s.2) at c.settle.ensures.1)
    ∙ (rw (k.0, k.1) at (placed_whole a.points.now a.max_points a.predicted.now a.radius_sq a.work.now room all))

pub returns-in-None : goal.returns-in-None
returns-in-None c =
    let a = c.args in
    let s = c.new-s.ensures in
    let k = c.new-c.ensures in
    let t = c.too_many.ensures in
    let cap = c.collect.ensures.same.cap in
    let over = over_in_turn a.points.now a.max_points a.predicted.now a.radius_sq k.2 c.new-s.result.np s.1
    (rw (s.0, s.2, s.3) at c.collect.ensures) c.in-None.is in
    let room : needed a.points.now a.max_points a.predicted.now ≤ length a.work.now =
    rw (c.places.ensures, c.of-n.ensures.0, c.of-n.ensures.1, s.1, s.2) at c.if-work-places.false in
    same_outcome refl refl (search rules) (search rules) refl
    ∙ same_outcome t.1 t.2 (rw cap at t.3) (rw cap at t.4) refl
    ∙ (rw (k.0, k.1) at (over_whole a.points.now a.max_points a.predicted.now a.radius_sq a.work.now room over))
