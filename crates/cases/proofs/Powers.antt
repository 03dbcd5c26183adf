-- The rows of `Ceilings`: that b is the least whole number with 2^b at least n is seen by two comparisons. Assumes nothing.
use Rattle.std.proofs.Common.{refl, ℕ, suc, ◌^◌, ◌<◌, ◌≤◌, ⊎_elim, arith}
use native.Mathlib.Nat.{pow-le-pow_right}
use Rattle.lists.proofs.Cases.{below_or}
use Rattle.matching.specs.Comparisons.{LeastPower}
use Rattle.cases.specs.Orderings.{Ceilings}

pub least_power : (n b : ℕ) → 2 ^ b < n → n ≤ 2 ^ suc b → LeastPower n (suc b)
least_power n b above reaches = record {
  reaches = reaches;
  least = λ k h. ⊎_elim (λ (p : b < k). omega (arith, p)) (λ (p : k ≤ b). absurd (omega (arith, pow-le-pow_right {n = 2} (omega arith) p, h, above))) (below_or b k);
}

pub no_power : (n : ℕ) → n ≤ 1 → LeastPower n 0
no_power n h = record { reaches = omega (arith, h); least = λ k p. omega arith }

pub ceilings : Ceilings
ceilings = record {
  of_0 = no_power 0 (omega arith);
  of_1 = no_power 1 (omega arith);
  of_2 = least_power 2 0 (omega arith) (omega arith);
  of_3 = least_power 3 1 (omega arith) (omega arith);
  of_5 = least_power 5 2 (omega arith) (omega arith);
  of_8 = least_power 8 2 (omega arith) (omega arith);
  program_holds = refl;
  program = least_power 2048 10 (omega arith) (omega arith);
  program_most = refl;
  example_holds = refl;
  example = least_power 65536 15 (omega arith) (omega arith);
  example_most = refl;
  all_pairs = refl;
  all = least_power 268435456 27 (omega arith) (omega arith);
  all_most = refl;
}
