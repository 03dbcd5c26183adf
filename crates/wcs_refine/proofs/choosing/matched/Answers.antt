-- `choosing::matched` meets its contract where it scans: behind a room that is cleared. Assumes nothing.
use Rattle.std.proofs.Common.{◌∙◌}
use Rattle.lists.proofs.Clearing.{cleared_within}
use Rattle.wcs_refine.proofs.ChosenSteps.{scans_behind}
use Rattle.wcs_refine.proofs.choosing.matched.Goals as goal

pub returns-in-Scanning : goal.returns-in-Scanning
returns-in-Scanning c =
    let a = c.args in
    let room = c.min-room.ensures in
    rw c.in-Scanning.is
    (scans_behind _ c.clear.new.s a.work.now (c.clear.ensures ∙ cleared_within 0 _ a.work.now (rw (← room) at c.requires))
    a.points.now a.max_points a.predicted.now a.radius_sq a.distances.now a.indices.now _ _ (rw room) c.greedy_unique_matches_by_scanning-matched.ensures)
