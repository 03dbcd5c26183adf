-- 01's values for each case of the matcher's answer; its number is `number_given` of the refusals. Definitions only. Assumes nothing.
use Rattle.std.specs.Prelude.{ℕ, Result, Ok, Err}
use Rattle.refusal.specs.declared.Refusal.{Refusal}

-- How many matches are answered; none where it is refused: with 13 where a round finds more pairs than the candidate lists hold, and with 11 where the
-- work list is shorter than its marks and matches need.
abbrev pub count_of : Result ℕ Refusal → ℕ
count_of (Ok n) = n
count_of (Err r) = 0
