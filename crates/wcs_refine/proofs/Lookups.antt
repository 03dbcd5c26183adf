-- Rows, predictions and scans of two calls are the same where what they look up is the same. Assumes nothing.
use Rattle.std.proofs.Common.{◌≡◌, ℕ, zero, suc, ◌+◌, ◌/◌, ◌≤◌, Bool, true, false, cond, List, [], ◌∷◌, length, refl, ap, true≢false, arith}
use mathlib.Core.Bool.{false≢true}
use lib.Ieee.{Float, le}
use Rattle.panel.specs.Spots.{spot_at}
use Rattle.fit.specs.Rows.{direction_at, row_at, rows_from, rows}
use Rattle.project.specs.Camera.{boresight}
use Rattle.fit.specs.declared.Pose.{Pose}
use Rattle.entry.specs.Fixed.{Fixed, prune_r, keep_r}
use Rattle.query.specs.Query.{dot32, axis32, least_cos, scanned, query, predicted, reaches, predictions, pruned}
use Rattle.wcs_refine.specs.Associate.{links}
use Rattle.wcs_refine.proofs.Along.{All}
use Rattle.wcs_refine.proofs.Remaining.{Both, match_at}

-- Spots and directions of two calls: the same spot i, the same direction j.
abbrev pub SameSpot : List Float → List Float → ℕ → Type 0
SameSpot sa sb i = spot_at sa i ≡ spot_at sb i

abbrev pub SameDirection : List Float → List Float → ℕ → Type 0
SameDirection da db j = direction_at da j ≡ direction_at db j

-- Every match of a flat list names the same spot and the same direction in both.
abbrev pub Shared : List Float → List Float → List Float → List Float → List ℕ → Type 0
Shared sa sb da db ms = All (Both (SameSpot sa sb) (SameDirection da db)) (links ms)

-- ---- the fit reads the matched spots and directions
module _ (sa sb da db : List Float) where
  rows_from_same : (ms : List ℕ) → Shared sa sb da db ms → (k n : ℕ) → k + n ≤ length ms / 2 → rows_from sa da ms k n ≡ rows_from sb db ms k n
  unfolding rows_from row_at
  rows_from_same ms h k zero l = refl
  rows_from_same ms h k (suc n) l =
      let m = match_at (SameSpot sa sb) (SameDirection da db) ms h k (omega arith) in
      λ t. record { spot = m.0 t; direction = m.1 t } ∷ rows_from_same ms h (suc k) n (omega arith) t

  pub rows_same : (ms : List ℕ) → Shared sa sb da db ms → rows sa da ms ≡ rows sb db ms
  unfolding rows
  rows_same ms h = rows_from_same ms h 0 (length ms / 2) (omega arith)

-- ---- a list is made by a test, at each direction that it looks up
module _ (Q : ℕ → Type 0) where
  chosen_same : (j : ℕ) (x y : Bool) (t u : List ℕ) → (Q j → x ≡ y) → All Q (cond x (j ∷ t) t) → All Q (cond y (j ∷ u) u) → (All Q t → All Q u → t ≡ u)
      → cond x (j ∷ t) t ≡ cond y (j ∷ u) u
  chosen_same j true true t u e h k r = ap {B = List ℕ} (λ l. j ∷ l) (r h.1 k.1)
  chosen_same j true false t u e h k r = absurd (true≢false (e h.0))
  chosen_same j false true t u e h k r = absurd (false≢true (e k.0))
  chosen_same j false false t u e h k r = r h k

module _ (da db : List Float) (k : Fixed) where
  abbrev Q : ℕ → Type 0
  Q = SameDirection da db

  -- two scans list the same, since each lists only what is the same in both
  scanned_same : (axis : List Float) (c : Float) (j n : ℕ) → All Q (scanned da axis c j n) → All Q (scanned db axis c j n) → scanned da axis c j n ≡ scanned db axis c j n
  unfolding scanned
  scanned_same axis c j zero h g = refl
  scanned_same axis c j (suc n) h g =
      chosen_same Q j (le c (dot32 axis (direction_at da j))) (le c (dot32 axis (direction_at db j))) (scanned da axis c (suc j) n) (scanned db axis c (suc j) n)
      (λ e. ap (λ (v : List Float). le c (dot32 axis v)) e) h g (scanned_same axis c (suc j) n)

  pub query_same : (p : Pose) → All Q (query k da p) → All Q (query k db p) → query k da p ≡ query k db p
  unfolding query
  query_same p = scanned_same (axis32 (boresight p.ra p.dec)) (least_cos k) 0 k.count

  pub predictions_same : (axes : List (List Float)) (l : List ℕ) → All Q l → predictions k da axes l ≡ predictions k db axes l
  unfolding predictions
  predictions_same axes [] h = refl
  predictions_same axes (j ∷ js) h = λ t.
      let q = predicted k axes j (h.0 t) in
      let more = predictions_same axes js h.1 t in
      cond (reaches k axes (h.0 t) (prune_r k) q) (q ∷ more) more

  pub pruned_same : (axes : List (List Float)) (l : List ℕ) → All Q l → pruned k da axes l ≡ pruned k db axes l
  unfolding pruned
  pruned_same axes [] h = refl
  pruned_same axes (j ∷ js) h = λ t.
      let more = pruned_same axes js h.1 t in
      cond (reaches k axes (h.0 t) (keep_r k) (predicted k axes j (h.0 t))) (j ∷ more) more
