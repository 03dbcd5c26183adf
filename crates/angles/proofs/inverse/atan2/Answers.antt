-- `angles::inverse::atan2` meets its contract: the tests pick the definition's case. Assumes nothing.
use lib.Ieee.{div, of_bits}
use Rattle.angles.specs.Inverse.{atan2}
use Rattle.angles.proofs.inverse.atan2.Goals as goal
use Rattle.angles.proofs.inverse.atan2.Goals.{then-is_nan-via-then-is_nan, then-is_nan-via-else-is_nan+then-is_nan-2}

pub returns-then-is_nan : goal.returns-then-is_nan
unfolding atan2 div of_bits
returns-then-is_nan c = elim c.then-is_nan.branch [
  | then-is_nan-via-then-is_nan w ↦ rw (← c.is_nan.ensures, w.if-is_nan.true)
  | then-is_nan-via-else-is_nan+then-is_nan-2 w ↦ rw (← c.is_nan.ensures, w.if-is_nan.false, ← w.is_nan-else-is_nan.ensures, w.if-is_nan-2.true)
]
