-- `looking::list_cone` meets its contract: its parts give the query of the definition. Assumes nothing.
use Rattle.std.proofs.Common.{arith, rules}
use Rattle.wcs_refine.proofs.LookSteps.{cone_listed}
use Rattle.wcs_refine.proofs.looking.list_cone.Goals as goal

pub returns : goal.returns
returns c =
    let w = c.args.w.now in (
      search rules,
      cone_listed w.course.k w.course.room w.course.directions.now c.args.pose w.numbers.now c.scan_into.new.out c.scan_into.result
          w.course.count (omega (arith, w.course.fits)) w.many (rw (← c.crval.ensures.0, ← c.crval.ensures.1) c.boresight_of.ensures) c.axis32-axis.ensures c.search_radius.ensures
          c.requery_margin.ensures c.least_cos_of-least.ensures c.scan_into.ensures,
    )
