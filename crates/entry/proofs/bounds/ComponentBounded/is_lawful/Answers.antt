-- A component's own test is that of its range, whose ends are the same numbers in either width. Assumes nothing.
use lib.Ieee.{of_bits, neg}
use Rattle.entry.specs.Check.{between}
use Rattle.entry.proofs.bounds.ComponentBounded.is_lawful.Goals as goal

pub returns-then-x : goal.returns-then-x
unfolding between of_bits neg
returns-then-x c = rw c.if-x.true

pub returns-else-x : goal.returns-else-x
unfolding between of_bits neg
returns-else-x c = rw c.if-x.false
