use Rattle.record.proofs.HeadSteps.{Heading}
use Rattle.record.proofs.heads.read_head.Given as goal

-- The numbers read so far stand before what is left to read.
abbrev pub invariant-loop-i : goal.invariant-loop-i
invariant-loop-i l = Heading l.bytes l.numbers l.rest l.i
