-- `solve::solve::minus_from` meets its contract. The invariant: the definition from j on, of the row as it stands, is the whole. Assumes nothing.
use Rattle.solve.proofs.Elimination.{minus_next, minus_done}
use Rattle.std.proofs.Common.{sym, ◌∙◌, add-one, arith, rules}
use Rattle.solve.proofs.solve.minus_from.Goals as goal

pub loop-j-preserved : goal.loop-j-preserved
loop-j-preserved c =
    let i = c.loop-j.invariant in
    (search rules, i.1, rw add-one (minus_next _ _ _ _ (omega arith) (omega arith) ∙ i.2))

pub returns : goal.returns
returns c =
    let i = c.loop-j.invariant in
    sym (minus_done _ _ _ _ (omega arith)) ∙ i.2
