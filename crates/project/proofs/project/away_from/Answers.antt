-- The sines and cosines are those of `sin_cos`, and -1.0 has the definition's bits.
use lib.Ieee.{neg, of_bits}
use Rattle.angles.specs.SinCos.{sin, cos}
use Rattle.project.specs.Project.{away_from}
use Rattle.project.proofs.project.away_from.Goals as goal

pub returns : goal.returns
unfolding away_from sin cos neg of_bits
returns c = rw (c.asin.ensures, c.clamp-sin_dec.ensures, c.atan2-turn.ensures, c.sin_cos-t.ensures, c.sin_cos-d0.ensures)
