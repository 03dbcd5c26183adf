-- The points of the listed directions, one more. Assumes nothing.
use Rattle.std.proofs.Common.{◌≡◌, ℕ, ◌+◌, ◌<◌, ◌≤◌, true, false, List, ◌∷◌, length, get_or, ap, ◌∙◌}
use lib.Seq.{slice}
use Rattle.query.specs.declared.Fall.{Fall}
use Rattle.query.proofs.Listed.{cut_next}
use Rattle.wcs_refine.specs.Listing.{points}

module _ (f : ℕ → Fall) (j : ℕ) (js : List ℕ) where
  pub point_stands : (f j).inside ≡ true → points f (j ∷ js) ≡ (f j).x ∷ (f j).y ∷ points f js
  unfolding points
  point_stands b = rw b

  pub point_off : (f j).inside ≡ false → points f (j ∷ js) ≡ points f js
  unfolding points
  point_off b = rw b

module _ (f : ℕ → Fall) (e i : ℕ) (o : List ℕ) (h : i < e) (fits : e ≤ length o) where
  pub next_points : (f (get_or o i 0)).inside ≡ true → points f (slice i e o) ≡ (f (get_or o i 0)).x ∷ (f (get_or o i 0)).y ∷ points f (slice (i + 1) e o)
  next_points b = ap (points f) (cut_next f e i o h fits) ∙ point_stands f (get_or o i 0) (slice (i + 1) e o) b

  pub next_no_points : (f (get_or o i 0)).inside ≡ false → points f (slice i e o) ≡ points f (slice (i + 1) e o)
  next_no_points b = ap (points f) (cut_next f e i o h fits) ∙ point_off f (get_or o i 0) (slice (i + 1) e o) b
