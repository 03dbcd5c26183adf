-- 02, CR 6, of crystals facing exactly backwards. Definitions only; `proofs/Backwards.antt` proves the statement as `faces_backwards`. Assumes nothing.
use Rattle.std.specs.Prelude.{◌≡◌, Bool, true, List, Float}
use Rattle.std.specs.Float.Ieee.{lt}
use Rattle.rounding.specs.Arith.{zero64}
use Rattle.angles.specs.Constants.{pi}
use Rattle.angles.specs.Special.{signed}
use Rattle.solve.specs.Vector.{entry}
use Rattle.entry.specs.Fixed.{start_pose_of}

-- Of the boresight, the rotation's third row, the first component is below zero and the second is a zero: the right ascension that the run starts
-- from is half a turn, with the sign of that zero.
abbrev pub FacesBackwards : Type 0
FacesBackwards = (rotation : List (List Float)) (scale : Float) (s : Bool) →
    lt (entry rotation 2 0) zero64 ≡ true → entry rotation 2 1 ≡ signed s zero64 →
    (start_pose_of rotation scale).ra ≡ signed s pi
