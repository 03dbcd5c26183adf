-- The query and what it keeps as the code's parts compute them, on the numbers that the definitions read from `Fixed`. Definitions only.
-- proofs/Meant.antt shows that they are those of Query. Assumes nothing.
use Rattle.std.specs.Prelude.{ℕ, ◌≡◌, cond, not, ◌&&◌, List, [], ◌∷◌, length, Float}
use Rattle.std.specs.Float.Ieee.{le}
use Rattle.lists.specs.Fronted.{fronted}
use Rattle.rounding.specs.Arith.{◌⊕◌, ◌⊗◌, ◌⊘◌, zero64, one64}
use Rattle.rounding.specs.Narrow.{narrowed}
use Rattle.rounding.specs.Methods.{clamp_f}
use Rattle.angles.specs.SinCos.{cos32}
use Rattle.solve.specs.Vector.{row, dot}
use Rattle.fit.specs.Rows.{direction_at}
use Rattle.query.specs.Query.{pi32}
use Rattle.query.specs.declared.Fall.{Fall}
use Rattle.query.specs.declared.Projection.{Projection}

-- ---- the query

-- `least_cos` of a search radius and a margin.
unfoldable pub least_cos_of : Float → Float → Float
least_cos_of search margin = cos32 (clamp_f (narrowed (search ⊕ margin)) zero64 pi32)

-- So many new ones stand at the front of the list, and what stands after them is as it was.
pub record Fronted (new was now : List ℕ) (r : ℕ) : Type 0 where
  pub count : r ≡ length new
  pub list : now ≡ fronted new was

-- ---- where directions fall

-- Where a direction falls on the panel, and whether it reaches it: in front of the plane, and within a radius of the optical centre.
unfoldable pub fall_of : Float → Float → Float → List (List Float) → List Float → Fall
fall_of inv cut r rows v =
    let z = dot (row rows 2) v in
    let x = inv ⊗ dot (row rows 0) v ⊘ z in
    let y = inv ⊗ dot (row rows 1) v ⊘ z in
    record { x = x; y = y; inside = not (le z cut) && le (x ⊗ x ⊕ y ⊗ y) (r ⊗ r) }

-- The same of a direction by its number, at a scale.
abbrev pub falling : Float → Float → Float → List Float → List (List Float) → ℕ → Fall
falling scale cut r directions rows j = fall_of (one64 ⊘ scale) cut r rows (direction_at directions j)

-- The same of what directions fall on.
abbrev pub falls : Projection → ℕ → Fall
falls p j = fall_of p.inv p.cut p.r p.rows (direction_at p.directions.now j)

-- The listed directions that reach the panel.
unfoldable pub standing : (ℕ → Fall) → List ℕ → List ℕ
standing f [] = []
standing f (j ∷ js) = cond (f j).inside (j ∷ standing f js) (standing f js)
