-- 01: "Whole numbers in groups of seven bits, lowest group first, top bit set on all but the last byte." Definitions only. Assumes nothing.
use Rattle.std.specs.Prelude.{ℕ, zero, suc, ◌+◌, ◌*◌, ◌/◌, ◌%◌, ◌^◌, Bool, cond, ◌&&◌, ◌||◌, List, [], ◌∷◌, ltb, eqb, Result, Ok, Err}
use Rattle.refusal.specs.declared.Refusal.{Refusal}
use Rattle.refusal.specs.declared.Refusal.TheVariants.{EndsEarly, WrongNumber}
use Rattle.record.specs.declared.Number.{Number}

-- ---- the layout

-- The bytes of a number in its shortest form; ten hold every number of 64 bits.
unfoldable pub groups : ℕ → ℕ → List ℕ
groups zero n = n ∷ []
groups (suc k) n = cond (ltb n 128) (n ∷ []) ((128 + n % 128) ∷ groups k (n / 128))

-- A number as a record has it.
unfoldable pub written : ℕ → List ℕ
unfolding groups
written n = groups 9 n

-- ---- reading

-- A number that was read: its value, and how many bytes it took.
abbrev pub numbered : ℕ → ℕ → Result Number Refusal
numbered v n = Ok (record { value = v; bytes = n })

-- Whether a last byte ends the number lawfully: it is not a needless 0, and the number stays below `most`. The groups before it give v.
unfoldable pub ends : ℕ → ℕ → ℕ → ℕ → Bool
ends most v weight b = (ltb 0 b || eqb weight 1) && ltb (v + b * weight) most

-- Whether a byte that is not the last leaves a lawful ending: the least that can follow is a 1 in the next group.
unfoldable pub leaves : ℕ → ℕ → ℕ → ℕ → Bool
leaves most v weight b = ltb (v + b % 128 * weight + 128 * weight) most

-- The value and how many bytes it took, refusal 2 (the bytes end inside the number) or refusal 3 (a byte leaves no lawful ending).
unfoldable pub number_from : List ℕ → ℕ → ℕ → ℕ → ℕ → Result Number Refusal
unfolding ends leaves
number_from [] most v weight n = Err EndsEarly
number_from (b ∷ bs) most v weight n =
    cond (ltb b 128)
    (cond (ends most v weight b) (numbered (v + b * weight) (suc n)) (Err WrongNumber))
    (cond (leaves most v weight b) (number_from bs most (v + b % 128 * weight) (128 * weight) (suc n)) (Err WrongNumber))

-- A number of so many bits at the front of the bytes.
unfoldable pub number : ℕ → List ℕ → Result Number Refusal
unfolding number_from
number bits bytes = number_from bytes (2 ^ bits) 0 1 0
