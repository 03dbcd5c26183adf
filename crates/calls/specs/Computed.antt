-- What an equation of a whole call opens when the check computes it. Definitions only. Assumes nothing.
use Rattle.rounding.specs.Computed.{arithmetic}
use Rattle.solve.specs.Covariance.{unconstrained}
use Rattle.entry.specs.Arguments.{Call}
use Rattle.entry.specs.Check.{refusal}
use Rattle.entry.specs.Fixed.{fixed}
use Rattle.wcs_refine.specs.Call.{start, queries, outcome}

-- Named on an `unfolding` line, this opens the checks of a call and what its run starts from.
unfoldable pub checks : Call → Call
unfolding refusal fixed start arithmetic
checks c = c

-- And this a whole call: its queries, its answer, and the lists that it leaves.
unfoldable pub everything : Call → Call
unfolding queries outcome unconstrained checks
everything c = c
