-- Solved or not, and sound or not, picks the definition's case.
use Rattle.std.proofs.Common.{refl}
use Rattle.wcs_refine.proofs.CleanSteps.{refit_fails, refit_sound, refit_unsound}
use Rattle.wcs_refine.proofs.cleaning.refit.Goals as goal

pub returns-in_default : goal.returns-in_default
returns-in_default c = (tt, refit_fails c.args.pose c.ls_fit_once-s.ensures c.in_default.is)

pub returns-then-is_sound : goal.returns-then-is_sound
returns-then-is_sound c = (tt, λ after. refit_sound c.args.pose c.ls_fit_once-s.ensures c.in-Solved.is c.moved-q.ensures c.is_sound.ensures after c.if-is_sound.true)

pub returns-else-is_sound : goal.returns-else-is_sound
returns-else-is_sound c = (refl, λ after. refit_unsound c.args.pose c.ls_fit_once-s.ensures c.in-Solved.is c.moved-q.ensures c.is_sound.ensures after c.if-is_sound.false)
