use Prim.Native.Nat.{◌≤◌}
use lib.Seq.{slice}
use Rattle.query.specs.Listing.{falls, standing}
use Rattle.query.proofs.Listed.{Writing}
use Rattle.query.proofs.Projection.prune_in_place.Given as goal

abbrev pub invariant-loop-i : goal.invariant-loop-i
invariant-loop-i l = (l.k ≤ l.i) × Writing 0 l.k l.listed l.initial.listed (standing (falls l.self) (slice l.i l.i-end l.initial.listed)) (standing (falls l.self) l.initial.listed)
