-- `refined` meets its contract: the run, and the closing of the state that it leaves. Assumes nothing.
use Rattle.std.proofs.Common.{◌*◌, ◌≤◌, length, arith, length-take-le}
use Rattle.wcs_refine.specs.Keeping.{state_of}
use Rattle.wcs_refine.specs.Ending.{answer_of, Answered}
use Rattle.wcs_refine.specs.declared.working.Working.{Working}
use Rattle.wcs_refine.proofs.Along.{hands_on}
use Rattle.wcs_refine.proofs.Lent.{same_on}
use Rattle.wcs_refine.proofs.CallEnds.{run_refused, run_ended, run_leaves}
use Rattle.wcs_refine.proofs.refined.Goals as goal

-- the matches of a state
many : (w : Working) → length (state_of w).matches ≤ 2 * w.held.used
many w = omega (arith, length-take-le (2 * w.held.used) w.numbers.now (omega (arith, w.used, w.many)))

all : (w : Working) → 2 * w.held.used ≤ length (state_of w).matches
all w = omega (arith, length-take-le (2 * w.held.used) w.numbers.now (omega (arith, w.used, w.many)))

pub returns-in_err-counts : goal.returns-in_err-counts
returns-in_err-counts c =
    let a = c.args in
    let w = a.w.now in
    let ran = c.in_err-counts.ensures in (
      ran.0,
      hands_on (Answered (answer_of w.course a.rounds (state_of w)) a.result_list.now a.result_list.now) _ c.from_residual.ensures.1
          (run_refused w.course a.rounds (state_of w) (state_of c.run.new.w) _ ran.1 a.result_list.now),
    )

pub finish-requires : goal.finish-requires
finish-requires c =
    let a = c.args in
    let w = a.w.now in
    let ran = c.in_ok-counts.ensures in
    omega (
      arith,
      all c.run.new.w,
      run_leaves w.course a.rounds (state_of w) (state_of c.run.new.w) _ ran.1 (length a.result_list.now) c.requires.2 (omega (arith, many w, c.requires.1)),
    )

pub returns : goal.returns
returns c =
    let a = c.args in
    let w = a.w.now in
    let ran = c.in_ok-counts.ensures in
    let done = c.finish.ensures in (
      same_on ran.0 done.0,
      run_ended w.course a.rounds (state_of w) (state_of c.run.new.w) _ ran.1 (rw ran.0.course at done.1),
    )
