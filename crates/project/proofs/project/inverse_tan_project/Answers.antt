-- Off the reference point, rho and its angle are what the definition says they are.
use Rattle.project.specs.Project.{inverse_tan_project}
use Rattle.project.proofs.project.inverse_tan_project.Goals as goal

pub returns : goal.returns
unfolding inverse_tan_project
returns c = rw (c.if-rho_sq.false, ← c.sqrt-rho.ensures, ← c.atan.ensures) c.away_from.ensures
