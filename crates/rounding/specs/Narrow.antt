-- 01, "Narrowing f64 to f32 the same": Rust's `x as f32`. Definitions only.
-- Widening, Rust's `x as f64` of an f32, needs no definition: the wider format holds every value of the narrower, so the result is x. Assumes nothing.
use Rattle.std.specs.Prelude.{◌*◌, Float}
use Rattle.std.specs.Float.{nan, inf, fin, binary32}
use Rattle.std.specs.Float.Ieee.{up, down, round}

-- `round` of lib.Ieee takes a fraction to the nearest value of a format, a tie to the one whose last digit is even.
unfoldable pub narrowed : Float → Float
unfolding round
narrowed nan = nan
narrowed (inf s) = inf s
narrowed (fin s m e) = round binary32 s (m * up e) (down e)
