-- The predictions, and the matches by their directions, as the code's parts compute them. Definitions only.
-- proofs/Meant.antt shows that they are those of Query and Associate. Assumes nothing.
use Rattle.std.specs.Prelude.{◌≡◌, ℕ, ◌+◌, cond, List, [], ◌∷◌, ◌++◌, length, take, drop, slice_index, Float}
use Rattle.std.proofs.Math.Seq.{slice}
use Rattle.query.specs.Query.{Prediction}
use Rattle.lists.specs.Fronted.{fronted}
use Rattle.query.specs.Listing.{standing}
use Rattle.query.specs.declared.Fall.{Fall}

-- The points of the listed directions that reach the panel, x then y.
unfoldable pub points : (ℕ → Fall) → List ℕ → List Float
points f [] = []
points f (j ∷ js) = cond (f j).inside ((f j).x ∷ (f j).y ∷ points f js) (points f js)

-- The directions of predictions.
unfoldable pub ids_of : List Prediction → List ℕ
ids_of [] = []
ids_of (q ∷ qs) = q.direction ∷ ids_of qs

-- Matches laid flat, spot and place, with the direction that stands at the place; 0 past the end.
unfoldable pub renamed_by : List ℕ → List ℕ → List ℕ
renamed_by ids [] = []
renamed_by ids (s ∷ []) = []
renamed_by ids (s ∷ p ∷ ms) = s ∷ slice_index ids p ∷ renamed_by ids ms

-- Of the n numbers from a place on, those that reach the panel stand from another place on, and their points at the front of a list of floats;
-- the n numbers and all else are as they were.
pub record Told (f : ℕ → Fall) (start n to : ℕ) (was now : List ℕ) (xy_was xy_now : List Float) (r : ℕ) : Type 0 where
  pub count : r ≡ length (standing f (slice start (start + n) was))
  pub ids : now ≡ take to was ++ standing f (slice start (start + n) was) ++ drop (to + r) was
  pub xy : xy_now ≡ fronted (points f (slice start (start + n) was)) xy_was
  pub unchanged : slice start (start + n) now ≡ slice start (start + n) was
