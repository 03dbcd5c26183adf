use Rattle.std.proofs.Common.{◌+◌, ◌^◌, ◌≡◌, ◌≤◌, length, ℕ, List}
use Rattle.record.proofs.RunSteps.{past, Passing}
use Rattle.record.proofs.runs.skip.Given as goal

-- What is read so far stands before what is left to read.
abbrev pub invariant-loop : goal.invariant-loop
invariant-loop l =
    (l.at ≤ length l.bytes) × ((bits : ℕ) → l.top + 1 ≡ 2 ^ bits → (done : List ℕ) × Passing bits l.count l.bytes (past l.at l.bytes) l.counter done)
