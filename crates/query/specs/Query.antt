-- 01, "Cone query", the cached query and the predictions: the first half of Phase D. Definitions only. Assumes nothing.
use Rattle.std.specs.Prelude.{ℕ, zero, suc, Bool, cond, not, ◌&&◌, ◌||◌, List, [], ◌∷◌, Float}
use Rattle.std.specs.Float.{binary32}
use Rattle.std.specs.Float.Ieee.{add, mul, div, lt, le}
use Rattle.rounding.specs.Arith.{◌⊕◌, ◌⊖◌, ◌⊗◌, ◌⊘◌, f32, zero64, one64}
use Rattle.rounding.specs.Root.{root}
use Rattle.rounding.specs.Narrow.{narrowed}
use Rattle.rounding.specs.Methods.{abs_f, clamp_f}
use Rattle.angles.specs.SinCos.{cos32}
use Rattle.solve.specs.Vector.{at, row, dot}
use Rattle.project.specs.Camera.{boresight}
use Rattle.fit.specs.Rows.{direction_at}
use Rattle.fit.specs.declared.Pose.{Pose}
use Rattle.entry.specs.Fixed.{Fixed, search_radius, requery_margin, requery_cos, prune_r, keep_r, theta_margin}

-- ---- the scan, in f32

-- "dot is (a0b0 + a1b1) + a2b2", in f32.
unfoldable pub dot32 : List Float → List Float → Float
dot32 a b =
    add binary32 (add binary32 (mul binary32 (at a 0) (at b 0)) (mul binary32 (at a 1) (at b 1)))
    (mul binary32 (at a 2) (at b 2))

-- "the normalised boresight": its components are narrowed first, and a norm that is not above zero falls back to (1, 0, 0), as in the Rust's
-- `normalize_or_fallback`.
unfoldable pub axis32 : List Float → List Float
unfolding narrowed dot32 root
axis32 b =
    let v = narrowed (at b 0) ∷ narrowed (at b 1) ∷ narrowed (at b 2) ∷ [] in
    let n = root binary32 (dot32 v v) in
    cond (lt zero64 n)
    (div binary32 (at v 0) n ∷ div binary32 (at v 1) n ∷ div binary32 (at v 2) n ∷ [])
    (one64 ∷ zero64 ∷ zero64 ∷ [])

-- 3.14159274, "the f32 PI"
abbrev pub pi32 : Float
pi32 = f32 0x40490FDB

-- "the cosine of the radius, clamped to 0 and the f32 PI": the radius is (search_radius + requery_margin) as f32.
unfoldable pub least_cos : Fixed → Float
unfolding cos32 clamp_f narrowed search_radius requery_margin
least_cos k = cos32 (clamp_f (narrowed (search_radius k ⊕ requery_margin k)) zero64 pi32)

-- "a scan that lists, ascending, every direction whose f32 dot product with the normalised boresight is at least the cosine": of the n directions
-- from j on.
unfoldable pub scanned : List Float → List Float → Float → ℕ → ℕ → List ℕ
unfolding dot32 direction_at
scanned directions axis least_c j zero = []
scanned directions axis least_c j (suc n) =
    let more = scanned directions axis least_c (suc j) n in
    cond (le least_c (dot32 axis (direction_at directions j))) (j ∷ more) more

-- 01, "Cone query", at the boresight of a pose: it stands for `query_indices_from_uvec_cached` of Phase D.
unfoldable pub query : Fixed → List Float → Pose → List ℕ
unfolding scanned axis32 least_cos boresight
query k directions p = scanned directions (axis32 (boresight p.ra p.dec)) (least_cos k) 0 k.count

-- ---- the cached query

-- `reassoc_cache`: None, or the boresight and the theta of the last query, and the directions kept of it.
pub data Cache : Type 0 where
  empty : Cache
  full : List Float → Float → List ℕ → Cache

-- `need_query` where a query is cached, at boresight b and roll theta: "re-query when either drifts past its margin".
unfoldable pub drifted : Fixed → Pose → List Float → Float → Bool
unfolding dot boresight requery_cos theta_margin abs_f
drifted k p b theta =
    lt (dot b (boresight p.ra p.dec)) (requery_cos k) || lt (theta_margin k) (abs_f (p.theta ⊖ theta))

-- ---- predictions: where a direction falls on the panel

-- One of the Rust's `predicted`: (cat_idx, pred_x, pred_y).
pub record Prediction : Type 0 where
  pub direction : ℕ
  pub x : Float
  pub y : Float

-- pred_x and pred_y of the direction j, whose components are v: inv_ps * (row_x · v) / z and inv_ps * (row_y · v) / z, where z is row_z · v.
unfoldable pub predicted : Fixed → List (List Float) → ℕ → List Float → Prediction
unfolding dot
predicted k rows j v =
    let z = dot (row rows 2) v in
    let inv = one64 ⊘ k.scale in
    record { direction = j; x = inv ⊗ dot (row rows 0) v ⊘ z; y = inv ⊗ dot (row rows 1) v ⊘ z }

-- Not `z <= 1e-12`, and `r2 <= prune_r2` or `keep_r2`: in front of the plane, and within the radius r of the optical centre.
unfoldable pub reaches : Fixed → List (List Float) → List Float → Float → Prediction → Bool
unfolding dot
reaches k rows v r q = not (le (dot (row rows 2) v) k.cut) && le (q.x ⊗ q.x ⊕ q.y ⊗ q.y) (r ⊗ r)

-- The Rust's `predicted`: the predictions of the listed directions that lie within prune_r.
unfoldable pub predictions : Fixed → List Float → List (List Float) → List ℕ → List Prediction
unfolding predicted reaches direction_at prune_r
predictions k directions rows [] = []
predictions k directions rows (j ∷ js) =
    let v = direction_at directions j in
    let q = predicted k rows j v in
    let more = predictions k directions rows js in
    cond (reaches k rows v (prune_r k) q) (q ∷ more) more

-- `nearby_indices` after a fresh query: the listed directions that lie within keep_r stay cached.
unfoldable pub pruned : Fixed → List Float → List (List Float) → List ℕ → List ℕ
unfolding predicted reaches direction_at keep_r
pruned k directions rows [] = []
pruned k directions rows (j ∷ js) =
    let v = direction_at directions j in
    let more = pruned k directions rows js in
    cond (reaches k rows v (keep_r k) (predicted k rows j v)) (j ∷ more) more
