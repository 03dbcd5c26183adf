-- The clips that are left, on what is left, give the whole.
use Rattle.std.proofs.Common.{◌≡◌, ◌-◌, ◌*◌, ◌≤◌, length, take}
use Rattle.entry.specs.Fixed.{Fixed}
use Rattle.wcs_refine.specs.Closing.{cleaned}
use Rattle.wcs_refine.proofs.cleaning.clean.Given as goal

abbrev pub invariant-loop-turn : goal.invariant-loop-turn
invariant-loop-turn l =
    (l.n ≤ l.used) × (length l.matches ≡ length l.fn.matches) × (length l.floats ≡ length l.fn.floats)
    × ((k : Fixed) → k.cut ≡ l.course.k.cut
    → cleaned k l.course.spots.now l.course.directions.now (3 - l._turn) l.p (take (2 * l.n) l.matches)
    ≡ cleaned k l.course.spots.now l.course.directions.now 3 l.fn.pose (take (2 * l.used) l.fn.matches))
