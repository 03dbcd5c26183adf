use Rattle.std.proofs.Common.{take}
use Rattle.printing.specs.Laying.{Writes}
use Rattle.printing.proofs.LineText.{pair_lines}
use Rattle.printing.proofs.laying.Writer.match_lines.Given as goal

abbrev pub invariant-loop-m : goal.invariant-loop-m
invariant-loop-m l = Writes (pair_lines (take l.m-index l.m-items)) l.fn.self l.self
