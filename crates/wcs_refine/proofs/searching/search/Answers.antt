-- `searching::search` meets its contract: the matcher on what the search found. Assumes nothing.
use Rattle.std.proofs.Common.{rules}
use Rattle.wcs_refine.specs.Keeping.{state_of, SearchedTo}
use Rattle.wcs_refine.proofs.Along.{hands_on}
use Rattle.wcs_refine.proofs.Lent.{same_on}
use Rattle.wcs_refine.proofs.LookSteps.{search_refused, searches}
use Rattle.wcs_refine.proofs.searching.search.Goals as goal

pub returns-in_err-step : goal.returns-in_err-step
returns-in_err-step c =
    let w = c.args.w.now in
    let l = c.look-l.ensures in
    let s = rw l.0.course at c.in_err-step.ensures.1 in
    let left = state_of c.associate_spots.new.w in (
      same_on (same_on l.0 (search rules)) c.in_err-step.ensures.0,
      hands_on (SearchedTo left _) _ c.from_residual.ensures.1
          (search_refused w.course.k w.course.room w.course.spots.now w.course.directions.now w.held c.args.r w.numbers.now _ _ left w.used
          c.look-l.result l.1 _ s),
    )

pub returns : goal.returns
returns c =
    let w = c.args.w.now in
    let l = c.look-l.ensures in
    let s = rw l.0.course at c.in_ok-step.ensures.1 in (
      same_on (same_on l.0 (search rules)) c.in_ok-step.ensures.0,
      searches w.course.k w.course.room w.course.spots.now w.course.directions.now w.held c.args.r w.numbers.now _ _ _ w.used
          c.look-l.result l.1 c.in_ok-step.step s,
    )
