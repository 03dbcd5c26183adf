-- Two cases: of the values that a test picks from, and of two numbers. Assumes nothing.
use mathlib.Core.Path.{◌≡◌, refl}
use mathlib.Core.Bool.{Bool, true, false, cond}
use mathlib.Core.Logic.{◌⊎◌, inl, inr}
use Prim.Native.Nat.{ℕ, ◌<◌, ◌≤◌}
use borrow.Author.Tests.{ltb-true, ltb-false}
use lib.Dec.{ltb}

-- what holds of both holds of the one that is picked
pub either : {A : Type 0} (P : A → Type 0) (b : Bool) {x y : A} → P x → P y → P (cond b x y)
either P true p q = p
either P false p q = q

pub below_or : (i m : ℕ) → (i < m) ⊎ (m ≤ i)
below_or i m = by (ltb i m) refl
  where
    by : (b : Bool) → ltb i m ≡ b → (i < m) ⊎ (m ≤ i)
    by true p = inl (ltb-true i m p)
    by false p = inr (ltb-false i m p)
