-- `tally` goes on behind each entry. Assumes nothing.
use Rattle.std.proofs.Common.{length}
use Rattle.replay.proofs.entries.tally.Given as goal

abbrev pub decreases-loop-rest : goal.decreases-loop-rest
decreases-loop-rest l = length l.rest
