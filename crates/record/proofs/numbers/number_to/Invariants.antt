use Rattle.record.proofs.NumberSteps.{Going}
use Rattle.record.proofs.numbers.number_to.Given as goal

-- The groups left to read, with what was read so far, give the number.
abbrev pub invariant-loop-i : goal.invariant-loop-i
invariant-loop-i l = Going l.bytes l.top l.v l.weight l.left l.i
