-- What is stored so far, with the rest, is all.
use Rattle.std.proofs.Common.{◌≡◌, drop}
use Rattle.exports.specs.Refined.{set_from}
use Rattle.exports.proofs.places.put_all.Given as goal

abbrev pub invariant-loop-i : goal.invariant-loop-i
invariant-loop-i g l = set_from l.i (drop l.i l.xs) l.l ≡ set_from 0 l.xs l.fn.l
