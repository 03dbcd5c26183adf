-- What is printed of 01's sample answer, of a refusal and of two matches, computed by the check. Assumes nothing.
use Rattle.std.specs.Prelude.{◌≡◌, refl, List, [], ◌∷◌, ◌++◌, ℕ, Float}
use Prim.Native.Char.{code}
use Prim.Native.String.{String, [] as []ˢ, ◌∷◌ as ◌∷ˢ◌}
use Rattle.std.specs.Float.Ieee.{of_bits, to_bits}
use Rattle.rounding.specs.Arith.{f64, zero64}
use Rattle.wcs_refine.specs.Returned.{Values}
use Rattle.printing.specs.Text.{refused_text, match_lines, answer_text}

-- The bytes of a text; each character of the sample is one byte.
unfoldable pub bytes_of : String → List ℕ
bytes_of []ˢ = []
bytes_of (c ∷ˢ s) = code c ∷ bytes_of s

-- ---- the sample: the answer, and the five lines that 01 gives

-- the scale of the sample, 2^-10, and infinity
abbrev pub tick : Float
tick = f64 0x3F50000000000000

abbrev pub endless : Float
endless = f64 0x7FF0000000000000

-- What the call on 01's sample record answers: no spots, matches or directions, so the start pose is handed back.
abbrev pub sample_answer : Values
sample_answer = record {
  refusal = 0;
  matches = 0;
  rounds = 0;
  passes = 0;
  queries = 0;
  comparisons = 0;
  pose = record { theta = zero64; ra = zero64; dec = zero64; scale = tick };
  cd = (tick ∷ f64 0x8000000000000000 ∷ []) ∷ (zero64 ∷ tick ∷ []) ∷ [];
  rmse_rad = zero64;
  cov = (endless ∷ zero64 ∷ zero64 ∷ []) ∷ (zero64 ∷ endless ∷ zero64 ∷ []) ∷ (zero64 ∷ zero64 ∷ endless ∷ []) ∷ [];
}

-- 01's five lines.
pub sample_text : answer_text sample_answer [] ≡
    bytes_of "ok 0 0 0 0\n"
    ++ bytes_of "pose 0000000000000000 0000000000000000 0000000000000000 3F50000000000000\n"
    ++ bytes_of "cd 3F50000000000000 8000000000000000 0000000000000000 3F50000000000000\n"
    ++ bytes_of "rms 0000000000000000\n"
    ++ bytes_of "cov 7FF0000000000000 0000000000000000 0000000000000000"
    ++ bytes_of " 0000000000000000 7FF0000000000000 0000000000000000"
    ++ bytes_of " 0000000000000000 0000000000000000 7FF0000000000000\n"
unfolding answer_text bytes_of of_bits to_bits
sample_text = refl

-- A refusal, and two matches: decimal digits.
pub refused_text_lem : refused_text 13 ≡ bytes_of "no 13\n"
unfolding refused_text bytes_of
refused_text_lem = refl

-- "Then a line `m`, spot, direction for each match."
pub matches_text : match_lines (0 ∷ 65535 ∷ 4095 ∷ 10 ∷ []) ≡ bytes_of "m 0 65535\nm 4095 10\n"
unfolding match_lines bytes_of
matches_text = refl
