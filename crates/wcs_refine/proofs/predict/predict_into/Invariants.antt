-- Those that reach the panel so far stand where they are to, as their points do, and with those to come they are all.
use Rattle.std.proofs.Common.{◌+◌, ◌*◌, ◌≤◌}
use Rattle.std.proofs.Math.Seq.{slice}
use Rattle.query.specs.Listing.{falls, standing}
use Rattle.wcs_refine.specs.Listing.{points}
use Rattle.query.proofs.Listed.{Writing}
use Rattle.wcs_refine.proofs.predict.predict_into.Given as goal

abbrev pub invariant-loop-i : goal.invariant-loop-i
invariant-loop-i l =
    (l.i ≤ l.n) × (l.k ≤ l.i)
    × Writing l.to l.k l.numbers l.fn.numbers
    (standing (falls l.projection) (slice (l.from + l.i) (l.from + l.n) l.fn.numbers))
    (standing (falls l.projection) (slice l.from (l.from + l.n) l.fn.numbers))
    × Writing 0 (2 * l.k) l.xy l.fn.xy
    (points (falls l.projection) (slice (l.from + l.i) (l.from + l.n) l.fn.numbers))
    (points (falls l.projection) (slice l.from (l.from + l.n) l.fn.numbers))
