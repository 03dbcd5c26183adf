-- The rounds that are left, with the counts so far, give the whole.
use Rattle.std.proofs.Common.{◌≡◌, ◌-◌, ◌*◌, ◌≤◌}
use Rattle.wcs_refine.specs.Keeping.{state_of, Same}
use Rattle.wcs_refine.specs.Stepping.{loop_of}
use Rattle.wcs_refine.proofs.RunSteps.{later, totals}
use Rattle.wcs_refine.proofs.rounds.run.Given as goal

abbrev pub invariant-loop-turn : goal.invariant-loop-turn
invariant-loop-turn l =
    (l.counts.rounds ≤ l._turn) × (l.counts.passes ≤ 10 * l._turn) × (l.counts.queries ≤ l._turn)
    × Same l.fn.w l.w
    × (later l.counts (loop_of l.fn.w.course (l.rounds - l._turn) (state_of l.w)) ≡ totals (loop_of l.fn.w.course l.rounds (state_of l.fn.w)))
