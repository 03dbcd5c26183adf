-- Demand 3 of records: nothing unseen shows in the text. Definitions only; the proofs are in proofs/Agreeing.antt. Assumes nothing.
use Rattle.std.specs.Prelude.{◌≡◌, ℕ, List, Float}
use Rattle.entry.specs.Arguments.{Lent}
use Rattle.wcs_refine.specs.Unseen.{Alike, OnlyUnseen}
use Rattle.record.specs.Header.{Intake, read_record}
use Rattle.response.specs.Response.{asked, response_to}
use Rattle.response.specs.Printed.{Printed}
use Rattle.response.specs.Program.{program_lent, program_intake, program_text}

-- Two records, read into the same lists, differ only in what is unseen: both are refused with the same number, or the calls that they ask for are
-- alike in all but unseen directions and spots.
pub record OnlyUnseenRead (x y : Intake) (lent : Lent) : Type 0 where
  pub refusal : x.header.refusal ≡ y.header.refusal
  pub alike : x.header.refusal ≡ 0 → Alike (asked x lent) (asked y lent)
  pub unseen : x.header.refusal ≡ 0 → OnlyUnseen (asked x lent) (asked y lent)

-- Demand 3 of records: the same text, and the lists that the call was lent alike. (The lists that the records are read into hold what the records
-- hold, so they differ where the records do.)
abbrev pub UnseenShowsNothing : Type 0
UnseenShowsNothing =
    (a b : List ℕ) (spots : List Float) (matches : List ℕ) (directions : List Float) (lent : Lent)
    → OnlyUnseenRead (read_record a spots matches directions) (read_record b spots matches directions) lent
    → ((response_to a spots matches directions lent).text ≡ (response_to b spots matches directions lent).text)
    × ((response_to a spots matches directions lent).lent ≡ (response_to b spots matches directions lent).lent)

-- The same of the code, whose contract is `Printed`: as many bytes, the same text in `out`, and the same lists of the call.
abbrev pub RecordsAgree : Type 0
RecordsAgree =
    (a b : List ℕ) (spots : List Float) (matches : List ℕ) (directions : List Float) (lent l m : Lent)
    (n k : ℕ) (out out_a out_b : List ℕ) (spots_a spots_b : List Float) (matches_a matches_b : List ℕ)
    (directions_a directions_b : List Float)
    → OnlyUnseenRead (read_record a spots matches directions) (read_record b spots matches directions) lent
    → Printed (response_to a spots matches directions lent) n out out_a spots_a matches_a directions_a l
    → Printed (response_to b spots matches directions lent) k out out_b spots_b matches_b directions_b m
    → (n ≡ k) × (out_a ≡ out_b) × (l ≡ m)

-- The same of the program `refine`.
abbrev pub ProgramShowsNothing : Type 0
ProgramShowsNothing =
    (a b : List ℕ) → OnlyUnseenRead (program_intake a) (program_intake b) program_lent → program_text a ≡ program_text b
