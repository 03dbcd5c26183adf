-- What was taken, with what is still to be offered, is what it is to be in the end.
use Rattle.std.proofs.Common.{◌≡◌, ◌+◌, ◌-◌, ◌≤◌}
use Rattle.matching.specs.Layout.{marks, taking, offers}
use Rattle.matching.proofs.assign.assign.Given as goal

abbrev pub invariant-loop-k : goal.invariant-loop-k
invariant-loop-k l =
    (l.t ≤ l.k - l.from)
    × (offers l.n.spots (marks l.n) l.c.indices.now l.k (l.from + l.c.n - l.k) (taking l.t l.work)
    ≡ offers l.n.spots (marks l.n) l.c.indices.now l.from l.c.n (taking 0 l.initial.work))
