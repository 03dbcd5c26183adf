use Rattle.std.proofs.Common.{arith, rules, ◌∙◌}
use Rattle.rounding.specs.Arith.{zero64}
use Rattle.lists.proofs.Clearing.{cleared_whole}
use Rattle.stats.proofs.Summary.{nothing, summary}
use Rattle.stats.proofs.median_mad_sigma.Goals as goal

pub returns-then-n-lt1 : goal.returns-then-n-lt1
returns-then-n-lt1 c = nothing _ _ c.default.ensures.0 c.default.ensures.1 c.if-n-lt1.true

pub returns : goal.returns
returns c =
    summary c.args.vals.now c.select-median.new.v c.deviate.new.vals c.select-sigma.new.v _ _ _ (omega arith)
    (search rules) (search rules) c.select-median.type_inv c.select-sigma.type_inv
    c.select-median.ensures c.deviate.ensures c.select-sigma.ensures (c.clear.ensures ∙ cleared_whole zero64 _ _ (search rules))
