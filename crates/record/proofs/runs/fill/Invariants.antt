use Rattle.record.proofs.RunSteps.{Filling}
use Rattle.record.proofs.runs.fill.Given as goal

-- The first places of the list hold what the numbers read so far stand for.
abbrev pub invariant-loop-x : goal.invariant-loop-x
invariant-loop-x g l = Filling g.F.Field.of_number g.F.Field.bits l.bytes l.rest l.x-index l.fn.list l.list
