-- `solve::solve::solve_3x3` meets its contract. The invariant: the columns from `at` on, of the matrix as it stands, give the solution of the whole. Assumes nothing.
use Rattle.solve.specs.Solve.{solved_from, solve3x3}
use Rattle.solve.proofs.Elimination.{column_next, column_fails, columns_done}
use Rattle.std.proofs.Common.{◌<◌, ◌≤◌, sym, ap, ◌∙◌, add-one, arith}
use Rattle.solve.proofs.solve.solve_3x3.Goals as goal

pub returns-then-not-usable : goal.returns-then-not-usable
unfolding solve3x3
returns-then-not-usable c =
    let l = c.loop-at in
    let p = c.pivot_of-p.ensures.0 in
    let h : l.at < 3 = omega arith in
    column_fails _ _ h p (sym c.usable.ensures ∙ c.if-not-usable.true) ∙ l.invariant ∙ ap (solved_from 0 3) c.beside-m.ensures

pub loop-at-preserved : goal.loop-at-preserved
loop-at-preserved c =
    let l = c.loop-at in
    let p = c.pivot_of-p.ensures.0 in
    let h : l.at < 3 = omega arith in
    rw (add-one, c.eliminated-m.ensures, c.swapped.ensures) (column_next _ _ h p (sym c.usable.ensures ∙ c.if-not-usable.false) ∙ l.invariant)

pub returns : goal.returns
unfolding solve3x3
returns c =
    let l = c.loop-at in
    let h : 3 ≤ l.at = omega arith in
    c.substituted.ensures ∙ sym (columns_done _ _ h) ∙ l.invariant ∙ ap (solved_from 0 3) c.beside-m.ensures
