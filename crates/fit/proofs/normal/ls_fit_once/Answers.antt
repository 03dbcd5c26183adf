-- The closure brings the right side of a fit.
use Rattle.std.proofs.Common.{true, rules}
use Rattle.fit.specs.Normal.{ls_fit_once}
use Rattle.fit.proofs.normal.ls_fit_once.Goals as goal

pub returns : goal.returns
unfolding ls_fit_once
returns c = rw (c.solved_sums.ensures, c.summed.ensures true (λ s p r h. search rules), c.view_of-w.ensures)
