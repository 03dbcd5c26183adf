-- The parts' definitions, on the numbers of a Fixed, are those of Query. Assumes nothing.
use mathlib.Core.Path.{◌≡◌, refl, ap}
use mathlib.Core.Bool.{cond}
use mathlib.Core.List.{List, [], ◌∷◌}
use Prim.Native.Nat.{ℕ}
use lib.Ieee.{Float}
use Rattle.fit.specs.Rows.{direction_at}
use Rattle.entry.specs.Fixed.{Fixed, search_radius, requery_margin, keep_r}
use Rattle.query.specs.Query.{least_cos, predicted, reaches, pruned}
use Rattle.query.specs.Listing.{least_cos_of, fall_of, falling, standing}

pub least_cos_is : (k : Fixed) → least_cos_of (search_radius k) (requery_margin k) ≡ least_cos k
unfolding least_cos_of least_cos
least_cos_is k = refl

module _ (k : Fixed) (ds : List Float) (rows : List (List Float)) where
  pub pruned_is : (js : List ℕ) → standing (falling k.scale k.cut (keep_r k) ds rows) js ≡ pruned k ds rows js
  unfolding standing pruned fall_of predicted reaches
  pruned_is [] = refl
  pruned_is (j ∷ js) =
      ap (λ (more : List ℕ). cond (reaches k rows (direction_at ds j) (keep_r k) (predicted k rows j (direction_at ds j))) (j ∷ more) more) (pruned_is js)
