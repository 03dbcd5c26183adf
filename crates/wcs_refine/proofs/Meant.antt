-- The parts' definitions of the predictions and of the matches are those of Query and Associate. Assumes nothing.
use Rattle.std.proofs.Common.{◌≡◌, ℕ, zero, suc, Bool, true, false, cond, List, [], ◌∷◌, get_or, sym, refl, ap, ◌∙◌}
use lib.Ieee.{Float}
use Rattle.fit.specs.Rows.{direction_at}
use Rattle.matching.specs.Greedy.{Match, flat}
use Rattle.entry.specs.Fixed.{Fixed, prune_r}
use Rattle.query.specs.Query.{Prediction, predicted, reaches, predictions}
use Rattle.query.specs.Listing.{fall_of, falling, standing}
use Rattle.wcs_refine.specs.Associate.{laid, direction_of, renamed}
use Rattle.wcs_refine.specs.Listing.{points, ids_of, renamed_by}

module _ (k : Fixed) (ds : List Float) (rows : List (List Float)) where
  -- a prediction that is taken or left
  ids_cond : (b : Bool) (q : Prediction) (qs : List Prediction) → ids_of (cond b (q ∷ qs) qs) ≡ cond b (q.direction ∷ ids_of qs) (ids_of qs)
  unfolding ids_of
  ids_cond true q qs = refl
  ids_cond false q qs = refl

  laid_cond : (b : Bool) (q : Prediction) (qs : List Prediction) → laid (cond b (q ∷ qs) qs) ≡ cond b (q.x ∷ q.y ∷ laid qs) (laid qs)
  unfolding laid
  laid_cond true q qs = refl
  laid_cond false q qs = refl

  pub ids_are : (js : List ℕ) → standing (falling k.scale k.cut (prune_r k) ds rows) js ≡ ids_of (predictions k ds rows js)
  unfolding standing predictions fall_of predicted reaches ids_of
  ids_are [] = refl
  ids_are (j ∷ js) =
      ap (λ (more : List ℕ). cond (reaches k rows (direction_at ds j) (prune_r k) (predicted k rows j (direction_at ds j))) (j ∷ more) more) (ids_are js)
      ∙ sym (ids_cond (reaches k rows (direction_at ds j) (prune_r k) (predicted k rows j (direction_at ds j))) (predicted k rows j (direction_at ds j)) (predictions k ds rows js))

  pub points_are : (js : List ℕ) → points (falling k.scale k.cut (prune_r k) ds rows) js ≡ laid (predictions k ds rows js)
  unfolding points predictions fall_of predicted reaches laid
  points_are [] = refl
  points_are (j ∷ js) =
      ap (λ (more : List Float). cond (reaches k rows (direction_at ds j) (prune_r k) (predicted k rows j (direction_at ds j)))
      ((predicted k rows j (direction_at ds j)).x ∷ (predicted k rows j (direction_at ds j)).y ∷ more) more) (points_are js)
      ∙ sym (laid_cond (reaches k rows (direction_at ds j) (prune_r k) (predicted k rows j (direction_at ds j))) (predicted k rows j (direction_at ds j)) (predictions k ds rows js))

pub direction_is : (qs : List Prediction) (n : ℕ) → get_or (ids_of qs) n 0 ≡ direction_of qs n
unfolding ids_of direction_of
direction_is [] n = refl
direction_is (q ∷ qs) zero = refl
direction_is (q ∷ qs) (suc n) = direction_is qs n

pub renamed_is : (qs : List Prediction) (ms : List Match) → renamed_by (ids_of qs) (flat ms) ≡ renamed qs ms
unfolding renamed_by flat renamed
renamed_is qs [] = refl
renamed_is qs (m ∷ ms) =
    ap (λ (l : List ℕ). m.spot ∷ get_or (ids_of qs) m.prediction 0 ∷ l) (renamed_is qs ms)
    ∙ ap (λ (d : ℕ). m.spot ∷ d ∷ renamed qs ms) (direction_is qs m.prediction)
