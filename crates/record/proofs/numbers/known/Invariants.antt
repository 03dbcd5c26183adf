use Rattle.std.proofs.Common.{◌-◌, ◌≡◌, length, get_or}
use Rattle.record.proofs.KnownSteps.{Knowing}
use Rattle.record.proofs.numbers.known.Given as goal

-- What is left to read, with what was read so far, gives the number.
abbrev pub invariant-loop-b : goal.invariant-loop-b
invariant-loop-b l = Knowing l.bytes l.v l.weight l.i × (l.b ≡ get_or l.bytes l.i 0)

abbrev pub decreases-loop-b : goal.decreases-loop-b
decreases-loop-b l = length l.bytes - l.i
