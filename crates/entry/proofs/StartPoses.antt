-- The start pose step by step, and the greatest distance spot by spot. Assumes nothing.
use mathlib.Core.Path.{◌≡◌, ◌∙◌, sym, ap, refl, subst}
use mathlib.Core.List.{List, [], ◌∷◌}
use Prim.Native.Nat.{ℕ, suc, ◌+◌, ◌-◌, ◌≤◌, ◌<◌}
use native.Mathlib.Numerals.{add-one}
use native.Mathlib.Omega.{arith}
use lib.Ieee.{Float, binary64, neg, of_bits}
use Rattle.rounding.specs.Arith.{◌⊕◌, ◌⊗◌, one64}
use Rattle.rounding.specs.Methods.{max_f, clamp_f}
use Rattle.rounding.specs.Root.{root}
use Rattle.rounding.proofs.RootMax.{Plain, root_max, plain_max, plain_squares}
use Rattle.angles.specs.Inverse.{asin, atan2}
use Rattle.solve.specs.Constants.{minus_one}
use Rattle.solve.specs.Vector.{at, row, entry, dot}
use Rattle.project.specs.Camera.{east, north}
use Rattle.panel.specs.Spots.{spot_at}
use Rattle.fit.specs.declared.Pose.{Pose}
use Rattle.panel.specs.declared.Spot.{Spot}
use Rattle.entry.specs.Fixed.{distance, farthest, start_pose_of}

-- ---- the greatest distance

-- the greatest square so far, and the distances of the spots from i on
module _ (spots : List Float) (n i : ℕ) (square : Float) (plain : Plain binary64 square) {all : Float} (left : farthest spots i (n - i) (root binary64 square) ≡ all) where
  pub far_next : i < n → {s : Spot} {next : Float} → s ≡ spot_at spots i → next ≡ max_f square (s.px ⊗ s.px ⊕ s.py ⊗ s.py)
      → Plain binary64 next × (farthest spots (i + 1) (n - (i + 1)) (root binary64 next) ≡ all)
  unfolding farthest distance
  far_next h {s} {next} es en =
      let q = s.px ⊗ s.px ⊕ s.py ⊗ s.py in
      let P : Plain binary64 q = plain_squares binary64 s.px s.py in
      let far = root binary64 square in
      let e : n - i ≡ suc (n - (i + 1)) = omega arith in
      let t : farthest spots i (n - i) far ≡ farthest spots (suc i) (n - (i + 1)) (max_f far (distance (spot_at spots i))) = ap (λ (k : ℕ). farthest spots i k far) e in
      let m : max_f far (distance (spot_at spots i)) ≡ root binary64 next =
      ap (λ (s : Spot). max_f far (distance s)) (sym es) ∙ root_max binary64 square q plain P ∙ ap (root binary64) (sym en) in
      let b : i + 1 ≡ suc i = add-one i in (
        subst (Plain binary64) (sym en) (plain_max binary64 square q plain P),
        ap (λ (j : ℕ). farthest spots j (n - (i + 1)) (root binary64 next)) b ∙ ap (farthest spots (suc i) (n - (i + 1))) (sym m) ∙ sym t ∙ left,
      )

  pub far_done : n ≤ i → {r : Float} → r ≡ root binary64 square → r ≡ all
  unfolding farthest
  far_done h {r} er =
      let e : n - i ≡ 0 = omega arith in
      let s : farthest spots i (n - i) (root binary64 square) ≡ root binary64 square = ap (λ (k : ℕ). farthest spots i k (root binary64 square)) e in
      er ∙ sym s ∙ left

-- ---- the pose

made : List (List Float) → Float → Float → Float → Pose
made m scale ra dec = record {
  theta = atan2 (dot (row m 0) (north ra dec)) (dot (row m 0) (east ra));
  ra = ra;
  dec = dec;
  scale = scale;
}

start_made : (m : List (List Float)) (scale : Float)
    → made m scale (atan2 (entry m 2 1) (entry m 2 0)) (asin (clamp_f (entry m 2 2) minus_one one64)) ≡ start_pose_of m scale
unfolding start_pose_of made
start_made m scale = refl

minus_one_lem : neg one64 ≡ minus_one
unfolding of_bits neg
minus_one_lem = refl

-- a row of f32 numbers, widened, is the same row
widened_dot : {x : List Float} (v n : List Float) → x ≡ at v 0 ∷ at v 1 ∷ at v 2 ∷ [] → dot x n ≡ dot v n
unfolding dot
widened_dot v n e = ap (λ (w : List Float). dot w n) e

module _ (m : List (List Float)) {z x : List Float} (ez : z ≡ entry m 2 0 ∷ entry m 2 1 ∷ entry m 2 2 ∷ []) (ex : x ≡ entry m 0 0 ∷ entry m 0 1 ∷ entry m 0 2 ∷ []) where
  pub posed : {ra held dec : Float} → ra ≡ atan2 (at z 1) (at z 0) → held ≡ clamp_f (at z 2) (neg one64) one64 → dec ≡ asin held
      → {n e : List Float} → n ≡ north ra dec → e ≡ east ra
      → {a b theta : Float} → a ≡ dot x n → b ≡ dot x e → theta ≡ atan2 a b
      → {scale : Float} → ◌≡◌ {A = Pose} (record { theta = theta; ra = ra; dec = dec; scale = scale }) (start_pose_of m scale)
  unfolding made
  posed {ra} {held} {dec} er eh ed {n} {e} en ee {a} {b} {theta} ea eb et {scale} =
      let r : ra ≡ atan2 (entry m 2 1) (entry m 2 0) = er ∙ ap (λ (v : List Float). atan2 (at v 1) (at v 0)) ez in
      let h : held ≡ clamp_f (entry m 2 2) minus_one one64 = eh ∙ (ap (λ (v : List Float). clamp_f (at v 2) (neg one64) one64) ez ∙ ap (λ (y : Float). clamp_f (entry m 2 2) y one64) minus_one_lem) in
      let wa : dot x n ≡ dot (row m 0) n = widened_dot (row m 0) n ex in
      let wb : dot x e ≡ dot (row m 0) e = widened_dot (row m 0) e ex in
      let t : theta ≡ atan2 (dot (row m 0) (north ra dec)) (dot (row m 0) (east ra)) = cc in
      let p : ◌≡◌ {A = Pose} (record { theta = theta; ra = ra; dec = dec; scale = scale }) (made m scale ra dec) = ap (λ (y : Float). record { theta = y; ra = ra; dec = dec; scale = scale }) t in
      let q : made m scale ra dec ≡ made m scale (atan2 (entry m 2 1) (entry m 2 0)) (asin (clamp_f (entry m 2 2) minus_one one64)) = cc in
      p ∙ (q ∙ start_made m scale)
