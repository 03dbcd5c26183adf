-- First, the table and the new matches to come tell of all new ones; then the present ones to come are to be taken from those that the table still tells of.
use Rattle.std.proofs.Common.{◌≡◌, ◌+◌, ◌*◌, ◌≤◌, length, take}
use Rattle.std.proofs.Math.Seq.{slice}
use Rattle.wcs_refine.specs.Associate.{links, same_matches}
use Rattle.wcs_refine.proofs.TableSteps.{Marking, Striking}
use Rattle.wcs_refine.proofs.comparing.same_matches.Given as goal

abbrev pub invariant-loop-i : goal.invariant-loop-i
invariant-loop-i l =
    (l.i ≤ l.at.t)
    × Marking l.at.base l.at.n l.at.start l.at.t l.numbers l.fn.numbers (links (slice (l.at.start + 2 * l.i) (l.at.start + 2 * l.at.t) l.fn.numbers))
    (links (slice l.at.start (l.at.start + 2 * l.at.t) l.fn.numbers))

abbrev pub invariant-loop-j : goal.invariant-loop-j
invariant-loop-j l =
    (l.j ≤ l.at.t) × (length l.numbers ≡ length l.fn.numbers)
    × Striking l.at.base l.at.n l.at.start l.at.t l.numbers l.fn.numbers (links (slice (0 + 2 * l.j) (0 + 2 * l.at.t) l.fn.numbers))
    (same_matches (slice l.at.start (l.at.start + 2 * l.at.t) l.fn.numbers) (take (2 * l.used) l.fn.numbers))
