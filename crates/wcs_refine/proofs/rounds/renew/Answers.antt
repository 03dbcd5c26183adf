-- `wcs_refine::rounds::renew` meets its contract: the clip leaves the cached query, and the search goes on from the clipped matches. Assumes nothing.
use Rattle.std.proofs.Common.{◌≡◌, ◌-◌, ◌*◌, arith, rules}
use Rattle.wcs_refine.proofs.Lent.{same_on, fits_of}
use Rattle.wcs_refine.proofs.RoundSteps.{renewed}
use Rattle.wcs_refine.proofs.rounds.renew.Goals as goal

pub returns : goal.returns
returns c =
    let w = c.args.w.now in
    let t = c.trim-t in
    let m = 2 * w.held.used - 0 in
    let whole : m ≡ 2 * w.held.used = omega arith in
    let s = c.search.ensures in (
      same_on (search rules) s.0,
      renewed w.course.k w.course.room w.course.spots.now w.course.directions.now w.held w.numbers.now m _ t.result (fits_of w) w.many whole t.auto.matches t.ensures
          _ _ s.1,
    )
