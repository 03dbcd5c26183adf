-- Statistics or none, and what the clip answers, pick the definition's case.
use Rattle.std.proofs.Common.{subst, sym}
use Rattle.wcs_refine.specs.Cleaning.{ClippedTo}
use Rattle.wcs_refine.proofs.ClipSteps.{clip_stats, clip_missing}
use Rattle.wcs_refine.proofs.clipping.clip_round.Goals as goal

pub returns-in_default : goal.returns-in_default
returns-in_default c = clip_missing c.args.residuals.now c.args.matches.now c.args.s c.requires c.in_default.is

pub returns : goal.returns
returns c =
    subst (ClippedTo c.args.residuals.now c.args.s c.args.matches.now _) (sym c.unwrap_or.ensures)
    (clip_stats c.args.residuals.now c.args.matches.now _ _ _ c.args.s c.requires c.mad_clip_matches.ensures c.in-Some.is)
