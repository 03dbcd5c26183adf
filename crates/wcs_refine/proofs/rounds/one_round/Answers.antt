-- `wcs_refine::rounds::one_round` meets its contract: whether the pose stayed within the bounds picks the definition's case. Assumes nothing.
use Rattle.std.proofs.Common.{rules}
use Rattle.wcs_refine.specs.Keeping.{state_of, RoundTo}
use Rattle.wcs_refine.proofs.Along.{hands_on}
use Rattle.wcs_refine.proofs.Lent.{same_self, same_on}
use Rattle.wcs_refine.proofs.RoundSteps.{round_unsound, round_refused, round_sound}
use Rattle.wcs_refine.proofs.rounds.one_round.Goals as goal

pub returns-in_err-w : goal.returns-in_err-w
returns-in_err-w c =
    let w = c.args.w.now in
    let f = c.fit_held-f in (
      same_self w,
      hands_on (RoundTo (state_of w) _) _ c.from_residual.ensures.1
          (round_unsound w.course.k w.course.room w.course.spots.now w.course.directions.now w.held w.numbers.now f.result f.ensures c.in_err-w.was (state_of w)),
    )

pub returns-in_err-found : goal.returns-in_err-found
returns-in_err-found c =
    let w = c.args.w.now in
    let f = c.fit_held-f in
    let s = c.in_err-found.ensures in
    let left = state_of c.renew.new.w in (
      same_on (search rules) s.0,
      hands_on (RoundTo left _) _ c.from_residual-in_err-found.ensures.1
          (round_refused w.course.k w.course.room w.course.spots.now w.course.directions.now w.held w.numbers.now f.result f.ensures left c.in_ok-w.was _ s.1),
    )

pub returns : goal.returns
returns c =
    let w = c.args.w.now in
    let f = c.fit_held-f in
    let s = c.in_ok-found.ensures in (
      same_on (search rules) s.0,
      round_sound w.course.k w.course.room w.course.spots.now w.course.directions.now w.held w.numbers.now f.result f.ensures _ c.in_ok-w.was _ s.1,
    )
