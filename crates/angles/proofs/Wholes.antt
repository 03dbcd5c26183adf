-- The whole numbers of the formulas are the floats that the code writes: computed, a formula at a time. Assumes nothing.
use Rattle.std.proofs.Common.{◌≡◌, refl}
use lib.Ieee.{of_int, of_bits, div}
use Rattle.rounding.specs.Arith.{f64, one64}
use Rattle.angles.specs.SinCos.{whole}
use Rattle.angles.specs.Inverse.{part}

pub sine_divisors :
    (whole 6 ≡ f64 0x4018000000000000) × (whole 20 ≡ f64 0x4034000000000000) × (whole 42 ≡ f64 0x4045000000000000) ×
    (whole 72 ≡ f64 0x4052000000000000) × (whole 110 ≡ f64 0x405B800000000000) × (whole 156 ≡ f64 0x4063800000000000) ×
    (whole 210 ≡ f64 0x406A400000000000)
unfolding of_int of_bits
sine_divisors = (refl, refl, refl, refl, refl, refl, refl)

pub cosine_divisors :
    (whole 2 ≡ f64 0x4000000000000000) × (whole 12 ≡ f64 0x4028000000000000) × (whole 30 ≡ f64 0x403E000000000000) ×
    (whole 56 ≡ f64 0x404C000000000000) × (whole 90 ≡ f64 0x4056800000000000) × (whole 132 ≡ f64 0x4060800000000000) ×
    (whole 182 ≡ f64 0x4066C00000000000) × (whole 240 ≡ f64 0x406E000000000000)
unfolding of_int of_bits
cosine_divisors = (refl, refl, refl, refl, refl, refl, refl, refl)

-- 1/1 among them, which the code writes as 1
pub series_divisors :
    (part 1 ≡ one64) × (whole 3 ≡ f64 0x4008000000000000) × (whole 5 ≡ f64 0x4014000000000000) × (whole 7 ≡ f64 0x401C000000000000) ×
    (whole 9 ≡ f64 0x4022000000000000) × (whole 11 ≡ f64 0x4026000000000000) × (whole 13 ≡ f64 0x402A000000000000) ×
    (whole 15 ≡ f64 0x402E000000000000)
unfolding of_int of_bits div
series_divisors = (refl, refl, refl, refl, refl, refl, refl, refl)
