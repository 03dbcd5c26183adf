-- The constants of wcs_refine.rs below its loop, each by its bits with the decimal beside it. Definitions only. Assumes nothing.
use Rattle.std.specs.Prelude.{Float}
use Rattle.rounding.specs.Arith.{f64}

-- 1e-12: 01's plane cut, which `tan_project` keeps. In a run the cut is a number of the call (02, CR 2).
abbrev pub plane_cut : Float
plane_cut = f64 0x3D719799812DEA11

-- 1e-30: the least magnitude of a pivot, and of a squared offset that counts
abbrev pub tiny : Float
tiny = f64 0x39B4484BFEEBC2A0

-- 3.0, CLIP_NSIGMA
abbrev pub clip_nsigma : Float
clip_nsigma = f64 0x4008000000000000

-- 0.5
abbrev pub half : Float
half = f64 0x3FE0000000000000

-- 2.0
abbrev pub two : Float
two = f64 0x4000000000000000

-- -1.0
abbrev pub minus_one : Float
minus_one = f64 0xBFF0000000000000

-- f64::INFINITY
abbrev pub infinity : Float
infinity = f64 0x7FF0000000000000
