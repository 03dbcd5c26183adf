use Rattle.std.proofs.Common.{take}
use Rattle.printing.specs.Text.{spaced}
use Rattle.printing.specs.Laying.{Writes}
use Rattle.printing.proofs.laying.Writer.push_all.Given as goal

abbrev pub invariant-loop-x : goal.invariant-loop-x
invariant-loop-x g l = Writes (spaced g.T.Shown.text (take l.x-index l.xs)) l.fn.self l.self
