-- `clear_all` meets its contract: each list is cleared to its own length.
use mathlib.Core.Path.{refl, ◌∙◌}
use Rattle.rounding.specs.Arith.{zero64}
use Rattle.lists.proofs.Clearing.{cleared_whole}
use Rattle.entry.proofs.clearing.clear_all.Goals as goal

pub returns : goal.returns
returns c =
    let a = c.args in (
      c.clear.ensures ∙ cleared_whole 0 _ a.numbers.now refl,
      c.clear-2.ensures ∙ cleared_whole zero64 _ a.floats.now refl,
      c.clear-3.ensures ∙ cleared_whole zero64 _ a.distances.now refl,
      c.clear-4.ensures ∙ cleared_whole 0 _ a.indices.now refl,
    )
