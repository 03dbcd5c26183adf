-- The matches renamed so far stand at the front, and with those to come they are all.
use Rattle.std.proofs.Common.{◌+◌, ◌*◌, ◌/◌, length}
use Rattle.std.proofs.Math.Seq.{slice}
use Rattle.wcs_refine.specs.Listing.{renamed_by}
use Rattle.query.proofs.Listed.{Writing}
use Rattle.wcs_refine.proofs.rename.renamed_into.Given as goal

abbrev pub invariant-loop-i : goal.invariant-loop-i
invariant-loop-i l =
    Writing 0 (2 * l.i) l.new l.fn.new (renamed_by l.ids (slice (0 + 2 * l.i) (0 + 2 * (length l.matches / 2)) l.matches))
    (renamed_by l.ids (slice 0 (0 + 2 * (length l.matches / 2)) l.matches))
