-- `solve::solve::pivot_of` meets its contract. The invariant: the best from the row i on, beginning with p, is the pivot, and p is one of the rows. Assumes nothing.
use Rattle.solve.proofs.Elimination.{best_start, best_next, best_done, better_row}
use Rattle.std.proofs.Common.{sym, ◌∙◌, add-one, arith, rules}
use Rattle.solve.proofs.solve.pivot_of.Goals as goal

pub loop-i-init : goal.loop-i-init
loop-i-init c = (search rules, rw add-one (best_start _ _ (search rules) c.abs.ensures))

pub loop-i-preserved : goal.loop-i-preserved
loop-i-preserved c =
    let i = c.loop-i.invariant in
    (rw c.better-p.ensures (better_row _ _ _ i.0 (omega arith)), rw (add-one, c.better-p.ensures) (best_next _ _ _ _ (omega arith) ∙ i.1))

pub returns : goal.returns
returns c =
    let i = c.loop-i.invariant in
    (sym (best_done _ _ _ _ (omega arith)) ∙ i.1, i.0)
