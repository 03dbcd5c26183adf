-- Where a run starts that faces exactly backwards: specs/Backwards.antt has the statement. Assumes nothing.
use mathlib.Core.Path.{ap, ◌∙◌}
use lib.Ieee.{Float}
use Rattle.angles.specs.Inverse.{atan2}
use Rattle.angles.proofs.Theorems.{atan2_special_values}
use Rattle.solve.specs.Vector.{entry}
use Rattle.entry.specs.Fixed.{start_pose_of}
use Rattle.entry.specs.Backwards.{FacesBackwards}

pub faces_backwards : FacesBackwards
unfolding start_pose_of
faces_backwards rotation scale s below zero =
    ap (λ (y : Float). atan2 y (entry rotation 2 0)) zero ∙ atan2_special_values.zero_below s (entry rotation 2 0) below
