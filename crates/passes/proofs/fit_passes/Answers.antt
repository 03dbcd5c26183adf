-- `passes::fit_passes` meets its contract. The invariant: the passes that are left, after those made, give the whole. Assumes nothing.
use mathlib.Core.Path.{sym, ◌∙◌}
use native.Mathlib.Omega.{arith}
use Rattle.passes.proofs.PassSteps.{few_rows, enough_rows, too_few, pass_fails, pass_unsound, pass_rests, pass_on, pass_ends}
use Rattle.passes.proofs.fit_passes.Goals as goal

pub returns-then-matches-lt3 : goal.returns-then-matches-lt3
returns-then-matches-lt3 c = too_few _ _ _ (few_rows _ _ _ c.if-matches-lt3.true)

pub returns-in_default : goal.returns-in_default
returns-in_default c =
    pass_fails _ _ _ _ (enough_rows _ _ _ c.if-matches-lt3.false) c.loop-i.invariant c.loop-i-test.true c.ls_fit_once-s.ensures c.in_default.is

pub returns-then-not-is_sound : goal.returns-then-not-is_sound
returns-then-not-is_sound c =
    pass_unsound _ _ _ _ (enough_rows _ _ _ c.if-matches-lt3.false) c.loop-i.invariant c.loop-i-test.true c.ls_fit_once-s.ensures c.in-Solved.is c.moved-q.ensures
    (sym c.is_sound.ensures ∙ c.if-not-is_sound.true)

pub returns-then-is_still : goal.returns-then-is_still
returns-then-is_still c =
    pass_rests _ _ _ _ (enough_rows _ _ _ c.if-matches-lt3.false) c.loop-i.invariant c.loop-i-test.true c.ls_fit_once-s.ensures c.in-Solved.is c.moved-q.ensures
    (sym c.is_sound.ensures ∙ c.if-not-is_sound.false) (sym c.is_still.ensures ∙ c.if-is_still.true)

pub loop-i-preserved : goal.loop-i-preserved
loop-i-preserved c =
    pass_on _ _ _ _ (enough_rows _ _ _ c.if-matches-lt3.false) c.loop-i.invariant c.loop-i-test.true c.ls_fit_once-s.ensures c.in-Solved.is c.moved-q.ensures
    (sym c.is_sound.ensures ∙ c.if-not-is_sound.false) (sym c.is_still.ensures ∙ c.if-is_still.false)

pub returns : goal.returns
returns c = pass_ends _ _ _ _ (enough_rows _ _ _ c.if-matches-lt3.false) c.loop-i.invariant (omega arith)
