-- The greatest distance is the same, bit for bit, where each spot that differs is no farther than one that does not. Assumes nothing.
use Rattle.std.proofs.Common.{◌≡◌, ℕ, zero, suc, ◌+◌, ◌<◌, ◌≤◌, max, T, List, sym, refl, ap, ◌∙◌, subst, inl, inr, le_antisymm, eq-or-lt_of_le, arith}
use lib.Ieee.{Float, nan, inf, fin, le, neg}
use lib.Ieee.Fits.{and_l, and_r}
use Rattle.rounding.specs.Arith.{◌⊕◌, ◌⊗◌, zero64}
use Rattle.rounding.specs.Methods.{max_f}
use Rattle.panel.specs.Spots.{spot_at}
use Rattle.panel.specs.declared.Spot.{Spot}
use Rattle.entry.specs.Check.{between, far_spot, lawful_coordinate}
use Rattle.entry.specs.Fixed.{distance, farthest}
use Rattle.wcs_refine.specs.Unseen.{LawfulSpot}
use Rattle.wcs_refine.proofs.BitOrder.{Plain, bits, numeric, by_bits, le_bits, max_plain, zero_plain, square_plain, add_plain, root_plain}

-- ---- a lawful spot's distance
between_numeric : (lo x hi : Float) → T (between lo x hi) → T (numeric x)
unfolding between le
between_numeric lo nan hi t = absurd (and_r (le lo nan) (le nan hi) t)
between_numeric lo (inf s) hi t = tt
between_numeric lo (fin s m e) hi t = tt

pub distance_plain : (s : Spot) → LawfulSpot s → Plain (distance s)
unfolding distance
distance_plain s t =
    let x = s.px in
    let y = s.py in
    root_plain (x ⊗ x ⊕ y ⊗ y)
    (add_plain (x ⊗ x) (y ⊗ y) (square_plain x (between_numeric (neg far_spot) x far_spot (and_l (lawful_coordinate x) (lawful_coordinate y) t.0)))
    (square_plain y (between_numeric (neg far_spot) y far_spot (and_r (lawful_coordinate x) (lawful_coordinate y) t.0))))

-- ---- the greatest of whole numbers
greatest : (ℕ → ℕ) → ℕ → ℕ → ℕ → ℕ
greatest d i zero m = m
greatest d i (suc k) m = greatest d (suc i) k (max m (d i))

greatest_start : (d : ℕ → ℕ) (i k m : ℕ) → m ≤ greatest d i k m
unfolding greatest
greatest_start d i zero m = omega arith
greatest_start d i (suc k) m = omega (arith, greatest_start d (suc i) k (max m (d i)))

greatest_each : (d : ℕ → ℕ) (i k m j : ℕ) → i ≤ j → j < i + k → d j ≤ greatest d i k m
unfolding greatest
greatest_each d i zero m j p q = absurd (omega arith)
greatest_each d i (suc k) m j p q = elim (eq-or-lt_of_le p) [
  | inl e ↦ subst (λ (x : ℕ). d x ≤ greatest d (suc i) k (max m (d i))) e (omega (arith, greatest_start d (suc i) k (max m (d i))))
  | inr l ↦ greatest_each d (suc i) k (max m (d i)) j l (omega arith)
]

greatest_least : (d : ℕ → ℕ) (i k m u : ℕ) → ((j : ℕ) → j < i + k → d j ≤ u) → m ≤ u → greatest d i k m ≤ u
unfolding greatest
greatest_least d i zero m u h l = l
greatest_least d i (suc k) m u h l = greatest_least d (suc i) k (max m (d i)) u (λ j g. h j (omega arith)) (omega (arith, h i (omega arith)))

-- each number of d is at most one that e has at the same place
greatest_le : (d e : ℕ → ℕ) (n m : ℕ) → ((i : ℕ) → i < n → (k : ℕ) × (k < n) × (d k ≡ e k) × (d i ≤ d k)) → greatest d 0 n m ≤ greatest e 0 n m
greatest_le d e n m h =
    greatest_least d 0 n m (greatest e 0 n m)
    (λ j l. let (k, g, s, t) = h j (omega arith) in omega (arith, t, s, greatest_each e 0 n m k (omega arith) (omega arith)))
    (greatest_start e 0 n m)

-- ---- of distances
abbrev pub at : List Float → ℕ → Float
at spots i = distance (spot_at spots i)

farthest_bits : (spots : List Float) (i k : ℕ) (far : Float) → ((j : ℕ) → j < i + k → Plain (at spots j)) → Plain far
    → Plain (farthest spots i k far) × (bits (farthest spots i k far) ≡ greatest (λ j. bits (at spots j)) i k (bits far))
unfolding farthest greatest
farthest_bits spots i zero far h p = (p, refl)
farthest_bits spots i (suc k) far h p =
    let m = max_plain far (at spots i) p (h i (omega arith)) in
    let r = farthest_bits spots (suc i) k (max_f far (at spots i)) (λ j l. h j (omega arith)) m.0 in
    (r.0, r.1 ∙ ap (greatest (λ j. bits (at spots j)) (suc i) k) m.1)

-- The spots of one list that the other does not have are no farther than one that both have.
abbrev pub Reached : List Float → List Float → ℕ → Type 0
Reached sa sb n = (i : ℕ) → i < n → (k : ℕ) × (k < n) × (at sa k ≡ at sb k) × T (le (at sa i) (at sa k))

module _ (sa sb : List Float) (n : ℕ) (pa : (j : ℕ) → j < n → Plain (at sa j)) where
  in_bits : Reached sa sb n → (i : ℕ) → i < n → (k : ℕ) × (k < n) × (bits (at sa k) ≡ bits (at sb k)) × (bits (at sa i) ≤ bits (at sa k))
  in_bits h i l = let (k, g, s, t) = h i l in (k, g, ap bits s, le_bits (at sa i) (at sa k) (pa i l) (pa k g) t)

pub farthest_same : (sa sb : List Float) (n : ℕ) → ((j : ℕ) → j < n → Plain (at sa j)) → ((j : ℕ) → j < n → Plain (at sb j)) → Reached sa sb n → Reached sb sa n
    → farthest sa 0 n zero64 ≡ farthest sb 0 n zero64
farthest_same sa sb n pa pb ha hb =
    let d : ℕ → ℕ = λ j. bits (at sa j) in
    let e : ℕ → ℕ = λ j. bits (at sb j) in
    let x = farthest_bits sa 0 n zero64 (λ j l. pa j (omega arith)) zero_plain in
    let y = farthest_bits sb 0 n zero64 (λ j l. pb j (omega arith)) zero_plain in
    by_bits _ _ x.0 y.0
    (x.1 ∙ le_antisymm (greatest_le d e n (bits zero64) (in_bits sa sb n pa ha)) (greatest_le e d n (bits zero64) (in_bits sb sa n pb hb)) ∙ sym y.1)
