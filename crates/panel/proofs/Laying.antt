-- The points of spots: how many, one more at the end, and the same in two lists whose spots are. Assumes nothing.
use mathlib.Core.Path.{◌≡◌, refl, sym, ap, ◌∙◌}
use mathlib.Core.List.{List, [], ◌∷◌, ◌++◌}
use Prim.Native.Nat.{ℕ, zero, suc, ◌+◌, ◌*◌, ◌/◌, ◌<◌, min}
use native.Mathlib.Omega.{arith}
use lib.ListN.{length, set, drop}
use lib.Ieee.{Float}
use Rattle.lists.proofs.Fronts.{grow_two}
use Rattle.panel.specs.Spots.{spot_numbers, spot_at}
use Rattle.panel.specs.Points.{coordinates, within_limit, points_of}
use Rattle.panel.specs.declared.Spot.{Spot}

pub coordinates_many : (spots : List Float) (i k : ℕ) → length (coordinates spots i k) ≡ 2 * k
unfolding coordinates
coordinates_many spots i zero = refl
coordinates_many spots i (suc k) = omega (arith, coordinates_many spots (suc i) k)

-- one spot more
coordinates_more : (spots : List Float) (i k : ℕ)
    → coordinates spots i (suc k) ≡ coordinates spots i k ++ ((spot_at spots (i + k)).px ∷ (spot_at spots (i + k)).py ∷ [])
unfolding coordinates
coordinates_more spots i zero =
    let e : i ≡ i + 0 = omega arith in
    ap (λ (j : ℕ). (spot_at spots j).px ∷ (spot_at spots j).py ∷ []) e
coordinates_more spots i (suc k) =
    let e : suc i + k ≡ i + suc k = omega arith in
    ap (λ (l : List Float). (spot_at spots i).px ∷ (spot_at spots i).py ∷ l)
    (coordinates_more spots (suc i) k
    ∙ ap (λ (j : ℕ). coordinates spots (suc i) k ++ ((spot_at spots j).px ∷ (spot_at spots j).py ∷ [])) e)

-- ---- how a loop over the spots lays them

-- With the points of i spots at the front, those of one more.
pub lay_next : (spots o : List Float) (i : ℕ) {m : List Float} {s : Spot} → m ≡ coordinates spots 0 i ++ drop (2 * i) o
    → 2 * i + 1 < length o → s ≡ spot_at spots i
    → set (set m (2 * i) s.px) (2 * i + 1) s.py ≡ coordinates spots 0 (i + 1) ++ drop (2 * (i + 1)) o
lay_next spots o i {m} {s} e h p =
    let next : i + 1 ≡ suc i = omega arith in
    let two : 2 * i + 2 ≡ 2 * (i + 1) = omega arith in
    let more : coordinates spots 0 i ++ (s.px ∷ s.py ∷ []) ≡ coordinates spots 0 (i + 1) =
    ap (λ (t : Spot). coordinates spots 0 i ++ (t.px ∷ t.py ∷ [])) p
    ∙ ap (λ (j : ℕ). coordinates spots 0 i ++ ((spot_at spots j).px ∷ (spot_at spots j).py ∷ [])) (omega arith)
    ∙ sym (coordinates_more spots 0 i) ∙ ap (coordinates spots 0) (sym next) in
    ap (λ (l : List Float). set (set l (2 * i) s.px) (2 * i + 1) s.py) e
    ∙ grow_two (coordinates spots 0 i) o (2 * i) s.px s.py (coordinates_many spots 0 i) h
    ∙ ap (λ (l : List Float). l ++ drop (2 * i + 2) o) more
    ∙ ap (λ (j : ℕ). coordinates spots 0 (i + 1) ++ drop j o) two

-- ---- in two lists
module _ (sa sb : List Float) where
  coordinates_same : (i k : ℕ) → ((n : ℕ) → n < i + k → spot_at sa n ≡ spot_at sb n)
      → coordinates sa i k ≡ coordinates sb i k
  unfolding coordinates
  coordinates_same i zero h = refl
  coordinates_same i (suc k) h = λ t.
      let s = h i (omega arith) t in
      s.px ∷ s.py ∷ coordinates_same (suc i) k (λ n l. h n (omega arith)) t

  -- Where the spots within the limit are the same, so is what the matcher is given.
  pub points_same : length sa ≡ length sb → (limit : ℕ)
      → ((n : ℕ) → n < within_limit sa limit → spot_at sa n ≡ spot_at sb n) → points_of sa limit ≡ points_of sb limit
  unfolding points_of
  points_same e limit h =
      coordinates_same 0 (within_limit sa limit) (λ n l. h n (omega arith))
      ∙ ap (λ (n : ℕ). coordinates sb 0 (min (n / spot_numbers) limit)) e
