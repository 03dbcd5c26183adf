-- `too_many` clears the places of the pairs that the lists hold.
use Rattle.std.proofs.Common.{◌*◌, ◌∙◌, refl, arith}
use Rattle.rounding.specs.Arith.{zero64}
use Rattle.lists.proofs.Clearing.{cleared_within}
use Rattle.matching.proofs.too_many.Goals as goal

pub returns : goal.returns
returns c =
    let a = c.args.c.now in (
      record { cap = refl; distances = refl; indices = refl; distances_long = c.clear.auto.s; indices_long = c.clear-2.auto.s },
      c.unordered.ensures.0,
      c.unordered.ensures.1,
      c.clear.ensures ∙ cleared_within zero64 a.cap a.distances.now (omega (arith, a.fits)),
      c.clear-2.ensures ∙ cleared_within 0 (2 * a.cap) a.indices.now (omega (arith, a.fits)),
    )
