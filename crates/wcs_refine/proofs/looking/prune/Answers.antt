-- `looking::prune` meets its contract. Assumes nothing.
use Rattle.std.proofs.Common.{refl, rules}
use Rattle.wcs_refine.proofs.LookSteps.{prunes}
use Rattle.wcs_refine.proofs.looking.prune.Goals as goal

pub returns : goal.returns
returns c =
    let w = c.args.w.now in (
      search rules,
      refl,
      prunes w.course.k w.course.room c.args.n w.course.directions.now c.args.rows w.numbers.now c.requires w.many c.prune_in_place.new.listed
          c.prune_in_place.result c.keep_r.ensures c.prune_in_place.auto.listed (rw (← c.new-within.ensures) c.prune_in_place.ensures),
    )
