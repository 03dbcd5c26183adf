-- The constants of the angle functions, each by its bits with the paper's decimal beside it. Definitions only. Assumes nothing.
use Rattle.std.specs.Prelude.{Float}
use Rattle.rounding.specs.Arith.{f64}

-- 0.6366197723675814, 2 / π
abbrev pub two_over_pi : Float
two_over_pi = f64 0x3FE45F306DC9C883

-- 6755399441055744, 1.5 * 2 ^ 52: a sum with it has no fraction left
abbrev pub shift : Float
shift = f64 0x4338000000000000

-- P1 (01 gives its bits): the front of π / 2, short enough that k × P1 is exact
abbrev pub P1 : Float
P1 = f64 0x3FF921FB54400000

-- P2 (01 gives its bits): what P1 leaves of π / 2
abbrev pub P2 : Float
P2 = f64 0x3DD0B4611A626331

-- 1,024: beyond it there is neither sine nor cosine
abbrev pub reach : Float
reach = f64 0x4090000000000000

-- 1.5707963267948966, π / 2
abbrev pub half_pi : Float
half_pi = f64 0x3FF921FB54442D18

-- 3.141592653589793, π
abbrev pub pi : Float
pi = f64 0x400921FB54442D18

-- 8: the arc tangent's argument is halved three times, as an angle
abbrev pub eight : Float
eight = f64 0x4020000000000000
