-- A list seen as chunks of two: what a chunk holds by the places of the list. Assumes nothing.
use mathlib.Core.Path.{◌≡◌, ◌∙◌, ap, refl}
use mathlib.Core.List.{List, [], ◌∷◌}
use Prim.Native.Nat.{ℕ, zero, suc, ◌+◌, ◌*◌, ◌<◌}
use native.Mathlib.Omega.{arith}
use lib.ListN.{take, drop, get_or}
use Rattle.std.specs.Simd.{first_chunks}

module _ {A : Type 0} (d : A) where
  in_front : (xs : List A) → (get_or (take 2 xs) 0 d ≡ get_or xs 0 d) × (get_or (take 2 xs) 1 d ≡ get_or xs 1 d)
  in_front [] = (refl, refl)
  in_front (x ∷ []) = (refl, refl)
  in_front (x ∷ y ∷ xs) = (refl, refl)

  two_on : (xs : List A) (j : ℕ) → get_or (drop 2 xs) j d ≡ get_or xs (suc (suc j)) d
  two_on [] j = refl
  two_on (x ∷ []) j = refl
  two_on (x ∷ y ∷ xs) j = refl

  -- the first and the second of chunk i
  pub pair_at : (k : ℕ) (xs : List A) (i : ℕ) → i < k
      → (get_or (get_or (first_chunks 2 k xs) i []) 0 d ≡ get_or xs (2 * i) d)
      × (get_or (get_or (first_chunks 2 k xs) i []) 1 d ≡ get_or xs (2 * i + 1) d)
  pair_at zero xs i h = absurd (omega arith)
  pair_at (suc k) xs zero h = in_front xs
  pair_at (suc k) xs (suc i) h =
      let r = pair_at k (drop 2 xs) i (omega arith) in
      let e : suc (suc (2 * i)) ≡ 2 * suc i = omega arith in
      let f : suc (suc (2 * i + 1)) ≡ 2 * suc i + 1 = omega arith in
      (r.0 ∙ two_on xs (2 * i) ∙ ap (λ (j : ℕ). get_or xs j d) e, r.1 ∙ two_on xs (2 * i + 1) ∙ ap (λ (j : ℕ). get_or xs j d) f)
