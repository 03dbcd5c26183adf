-- What the program prints of an answer, byte by byte: 01, "The program `refine` reads a record on standard input and prints." Definitions only. Assumes nothing.
use Rattle.std.specs.Prelude.{ℕ, zero, suc, ◌+◌, ◌/◌, ◌%◌, cond, List, [], ◌∷◌, ◌++◌, ltb, set, Float}
use Rattle.std.specs.Float.{binary64}
use Rattle.std.specs.Float.Ieee.{to_bits}
use Rattle.solve.specs.Vector.{entry}
use Rattle.wcs_refine.specs.Returned.{Values}

-- ---- numbers

-- "Counts and indices are decimal": the digits of n before those that stand already; twenty hold every number of 64 bits.
unfoldable pub decimal_from : ℕ → ℕ → List ℕ → List ℕ
decimal_from zero n after = (48 + n % 10) ∷ after
decimal_from (suc k) n after = cond (ltb n 10) ((48 + n) ∷ after) (decimal_from k (n / 10) ((48 + n % 10) ∷ after))

-- A number in decimal.
unfoldable pub decimal : ℕ → List ℕ
unfolding decimal_from
decimal n = decimal_from 19 n []

-- One hexadecimal digit, in upper case.
unfoldable pub hex_digit : ℕ → ℕ
hex_digit d = cond (ltb d 10) (48 + d) (55 + d)

-- The k lowest hexadecimal digits of n, before those that stand already.
unfoldable pub hex_from : ℕ → ℕ → List ℕ → List ℕ
unfolding hex_digit
hex_from zero n after = after
hex_from (suc k) n after = hex_from k (n / 16) (hex_digit (n % 16) ∷ after)

-- "floats are hexadecimal bits": sixteen digits; a NaN has those of the one made here.
unfoldable pub bits_text : Float → List ℕ
unfolding hex_from
bits_text x = hex_from 16 (to_bits binary64 x) []

-- ---- lines

-- The bytes between fields and at the end of a line.
abbrev pub space : ℕ
space = 32

abbrev pub newline : ℕ
newline = 10

-- A space before the text of each.
unfoldable pub spaced : {A : Type 0} → (A → List ℕ) → List A → List ℕ
spaced text [] = []
spaced text (x ∷ xs) = space ∷ text x ++ spaced text xs

-- Numbers, a space before each.
abbrev pub counts : List ℕ → List ℕ
counts ns = spaced decimal ns

-- The same of floats.
abbrev pub floats : List Float → List ℕ
floats xs = spaced bits_text xs

-- A line: its word, what follows, and the end of the line.
abbrev pub line : List ℕ → List ℕ → List ℕ
line word more = word ++ more ++ newline ∷ []

-- "Then a line `m`, spot, direction for each match."
unfoldable pub match_lines : List ℕ → List ℕ
unfolding spaced decimal
match_lines [] = []
match_lines (s ∷ []) = []
match_lines (s ∷ d ∷ ms) = line (109 ∷ []) (counts (s ∷ d ∷ [])) ++ match_lines ms

-- ---- an answer

-- the words `ok`, `pose`, `cd`, `rms`, `cov` and `no`
abbrev pub ok_word : List ℕ
ok_word = 111 ∷ 107 ∷ []

abbrev pub pose_word : List ℕ
pose_word = 112 ∷ 111 ∷ 115 ∷ 101 ∷ []

abbrev pub cd_word : List ℕ
cd_word = 99 ∷ 100 ∷ []

abbrev pub rms_word : List ℕ
rms_word = 114 ∷ 109 ∷ 115 ∷ []

abbrev pub cov_word : List ℕ
cov_word = 99 ∷ 111 ∷ 118 ∷ []

abbrev pub no_word : List ℕ
no_word = 110 ∷ 111 ∷ []

-- "Refused: `no` and the number."
unfoldable pub refused_text : ℕ → List ℕ
unfolding spaced decimal
refused_text n = line no_word (counts (n ∷ []))

-- "Fields: matches, rounds, passes, queries; theta, RA, Dec, scale; `rms` gives the error, `rmse_rad`; `cd` and `cov` give the two matrices by rows."
unfoldable pub accepted_text : Values → List ℕ → List ℕ
unfolding spaced decimal bits_text match_lines
accepted_text r ms =
    line ok_word (counts (r.matches ∷ r.rounds ∷ r.passes ∷ r.queries ∷ []))
    ++ line pose_word (floats (r.pose.theta ∷ r.pose.ra ∷ r.pose.dec ∷ r.pose.scale ∷ []))
    ++ line cd_word (floats (entry r.cd 0 0 ∷ entry r.cd 0 1 ∷ entry r.cd 1 0 ∷ entry r.cd 1 1 ∷ []))
    ++ line rms_word (floats (r.rmse_rad ∷ []))
    ++ line cov_word (floats (entry r.cov 0 0 ∷ entry r.cov 0 1 ∷ entry r.cov 0 2
    ∷ entry r.cov 1 0 ∷ entry r.cov 1 1 ∷ entry r.cov 1 2
    ∷ entry r.cov 2 0 ∷ entry r.cov 2 1 ∷ entry r.cov 2 2 ∷ []))
    ++ match_lines ms

-- The text of an answer, with the matches that it reports.
unfoldable pub answer_text : Values → List ℕ → List ℕ
unfolding refused_text accepted_text
answer_text r ms = cond (ltb 0 r.refusal) (refused_text r.refusal) (accepted_text r ms)

-- ---- written into a list

-- From place i on, byte after byte, as far as the list has the places.
unfoldable pub set_from : ℕ → List ℕ → List ℕ → List ℕ
set_from i [] l = l
set_from i (b ∷ bs) l = set_from (suc i) bs (set l i b)
