-- The numbers of the refusals: 01, "Refusals", and 02 for 14 and 17. Definitions only. Assumes nothing.
use Rattle.std.specs.Prelude.{ℕ, Result, Ok, Err}
use Rattle.refusal.specs.declared.Refusal.{Refusal}
use Rattle.refusal.specs.declared.Refusal.TheVariants.{LongRecord, EndsEarly, WrongNumber, BytesAfter, Uneven, TooMany, Scale, Radius, Coordinate, UnknownMatch, ShortList, Unsound, ManyPairs, Cut, Weight}

-- "A refusal gives its number".
abbrev pub number_of : Refusal → ℕ
number_of LongRecord = 1
number_of EndsEarly = 2
number_of WrongNumber = 3
number_of BytesAfter = 4
number_of Uneven = 5
number_of TooMany = 6
number_of Scale = 7
number_of Radius = 8
number_of Coordinate = 9
number_of UnknownMatch = 10
number_of ShortList = 11
number_of Unsound = 12
number_of ManyPairs = 13
number_of Cut = 14
number_of Weight = 17

-- The number of an answer: 0 where nothing was refused.
abbrev pub number_given : {A : Type 0} → Result A Refusal → ℕ
number_given (Ok a) = 0
number_given (Err r) = number_of r
