-- What is laid so far stands at the front, and with the rest it is all.
use Rattle.std.proofs.Common.{◌≡◌, length, drop}
use Rattle.query.proofs.Listed.{Writing}
use Rattle.wcs_refine.proofs.finishing.lay_over.Given as goal

abbrev pub invariant-loop-i : goal.invariant-loop-i
invariant-loop-i l = (length l.l ≡ length l.fn.l) × Writing 0 l.i l.l l.fn.l (drop l.i l.new) l.new
