-- `looking::predict` meets its contract: the regions are apart, and the parts give the predictions of the definition. Assumes nothing.
use Rattle.std.proofs.Common.{rules}
use Rattle.wcs_refine.proofs.LookSteps.{predicts}
use Rattle.wcs_refine.proofs.looking.predict.Goals as goal

pub returns : goal.returns
returns c =
    let w = c.args.w.now in (
      search rules,
      predicts w.course.k w.course.room c.args.n w.course.directions.now c.args.rows w.numbers.now c.requires w.many
          c.predict_into.new.numbers w.floats.now c.predict_into.new.xy c.predict_into.result
          w.far c.prune_r.ensures (rw (← c.new-within.ensures) c.predict_into.ensures),
    )
