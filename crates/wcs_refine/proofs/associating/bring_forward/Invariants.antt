-- The numbers brought so far, and those to come, are all.
use Rattle.std.proofs.Common.{◌+◌}
use Rattle.std.proofs.Math.Seq.{slice}
use Rattle.query.proofs.Listed.{Writing}
use Rattle.wcs_refine.proofs.associating.bring_forward.Given as goal

abbrev pub invariant-loop-i : goal.invariant-loop-i
invariant-loop-i l =
    Writing 0 l.i l.numbers l.fn.numbers (slice (l.from + l.i) (l.from + l.n) l.fn.numbers) (slice l.from (l.from + l.n) l.fn.numbers)
