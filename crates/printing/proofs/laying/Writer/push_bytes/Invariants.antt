use Rattle.std.proofs.Common.{take}
use Rattle.printing.specs.Laying.{Writes}
use Rattle.printing.proofs.laying.Writer.push_bytes.Given as goal

abbrev pub invariant-loop-b : goal.invariant-loop-b
invariant-loop-b l = Writes (take l.b-index l.text) l.fn.self l.self
