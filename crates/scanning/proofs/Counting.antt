-- How many of the first n places do not pass a test, and that they grow fewer as more places pass. Assumes nothing.
use Rattle.std.proofs.Common.{◌≡◌, ℕ, zero, suc, ◌+◌, ◌<◌, ◌≤◌, Bool, true, false, cond, arith}

unfoldable pub left : (ℕ → Bool) → ℕ → ℕ
left g zero = 0
left g (suc n) = cond (g n) 0 1 + left g n

pub left_most : (g : ℕ → Bool) (n : ℕ) → left g n ≤ n
unfolding left
left_most g zero = omega arith
left_most g (suc n) = grind (arith, left_most g n)

module _ (g h : ℕ → Bool) where
  pub left_fewer : (n : ℕ) → ((i : ℕ) → i < n → g i ≡ true → h i ≡ true) → left h n ≤ left g n
  unfolding left
  left_fewer zero k = omega arith
  left_fewer (suc n) k = grind (arith, k n, left_fewer n (λ i u. k i (omega arith)))

  -- one place more passes
  pub left_one : (n : ℕ) → ((i : ℕ) → i < n → g i ≡ true → h i ≡ true) → (i : ℕ) → i < n → g i ≡ false → h i ≡ true → left h n < left g n
  unfolding left
  left_one zero k i u e f = absurd (omega arith)
  left_one (suc n) k i u e f = grind (arith, k n, left_one n (λ j w. k j (omega arith)) i, left_fewer n (λ j w. k j (omega arith)))
