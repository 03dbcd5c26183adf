-- The lists that the program `refine` holds, and what it prints with them. Definitions only; the proofs are in proofs/Programs.antt. Assumes nothing.
use Rattle.std.specs.Prelude.{◌≡◌, ℕ, suc, ◌+◌, ◌*◌, List, length, replicate}
use Rattle.rounding.specs.Arith.{zero64}
use Rattle.panel.specs.Spots.{spot_numbers}
use Rattle.entry.specs.Arguments.{Lent}
use Rattle.entry.specs.Check.{refusal}
use Rattle.wcs_refine.specs.Returned.{lists}
use Rattle.record.specs.Reading.{most_bytes}
use Rattle.record.specs.Header.{Intake, read_record}
use Rattle.response.specs.Response.{asked, response}

-- 01: "It holds 64 spots, 64 matches, 256 directions, 4,096 candidate distances and 8,192 candidate indices; a record free of 1 to 4 that counts more
-- prints `no 11` without a call."
abbrev pub held_spots : ℕ
held_spots = 64

abbrev pub held_matches : ℕ
held_matches = 64

abbrev pub held_directions : ℕ
held_directions = 256

abbrev pub held_distances : ℕ
held_distances = 4096

abbrev pub held_indices : ℕ
held_indices = 8192

-- 01, refusal 11: working lists as long as a call on all of that needs, and a result list likewise (as many spots as matches are held).
abbrev pub held_work : ℕ
held_work = 16 * (held_spots + held_matches + held_directions)

abbrev pub held_result : ℕ
held_result = 2 * held_spots

-- The lists of the program, as it lends them: all zero.
unfoldable pub program_lent : Lent
program_lent =
    lists (replicate held_work 0) (replicate held_work zero64)
    (replicate held_distances zero64) (replicate held_indices 0) (replicate held_result 0)

-- What the program holds once it has read a record.
abbrev pub program_intake : List ℕ → Intake
program_intake bytes =
    read_record bytes
    (replicate (spot_numbers * held_spots) zero64) (replicate (2 * held_matches) 0) (replicate (3 * held_directions) zero64)

-- What the program prints of the bytes that it reads.
unfoldable pub program_text : List ℕ → List ℕ
unfolding response program_lent
program_text bytes = (response (program_intake bytes) program_lent).text

-- The room for reading: one byte more than a record may have, so that a longer input is seen to be too long.
abbrev pub room_bytes : ℕ
room_bytes = suc most_bytes

-- The program's own lists are long enough for all that it holds: whatever its lists of spots, matches and directions were filled with, no call on
-- them is refused with 11. So its `no 11` comes from the reader, of a record that counts more than is held.
abbrev pub NeverShort : Type 0
NeverShort =
    (i : Intake)
    → length i.spots ≡ spot_numbers * held_spots → length i.matches ≡ 2 * held_matches
    → length i.directions ≡ 3 * held_directions
    → refusal (asked i program_lent) ≡ 11 → ⊥
