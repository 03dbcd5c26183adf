-- The sum of the squares one residual at a time, and what is reported. Assumes nothing.
use Rattle.std.proofs.Common.{◌≡◌, ℕ, ◌+◌, ◌<◌, ◌≤◌, Bool, true, false, cond, ltb, List, ◌∷◌, length, get_or, drop, pos, sym, refl, ap, ◌∙◌, add-one, drop_of_length-le, drop-cons}
use lib.Ieee.{Float, nan, eq, binary64, of_int}
use Rattle.rounding.specs.Arith.{◌⊕◌, ◌⊗◌, ◌⊘◌, zero64}
use Rattle.rounding.specs.Root.{root}
use Rattle.solve.specs.Constants.{minus_one}
use Rattle.fit.specs.Normal.{normal_matrix}
use Rattle.project.specs.Project.{cd_from_theta}
use Rattle.residuals.specs.Residual.{in_front, residuals}
use Rattle.fit.specs.Rows.{Row, view_of}
use Rattle.fit.specs.declared.Pose.{Pose}
use Rattle.wcs_refine.specs.Closing.{sum_squares, root_mean, Report, reported}
use Rattle.entry.specs.Fixed.{Fixed}
use Rattle.wcs_refine.specs.Cleaning.{covariance_of}

front_in : (x : Float) (xs : List Float) → eq x minus_one ≡ false → in_front (x ∷ xs) ≡ x ∷ in_front xs
unfolding in_front
front_in x xs h = ap (λ (b : Bool). cond b (in_front xs) (x ∷ in_front xs)) h

front_out : (x : Float) (xs : List Float) → eq x minus_one ≡ true → in_front (x ∷ xs) ≡ in_front xs
unfolding in_front
front_out x xs h = ap (λ (b : Bool). cond b (in_front xs) (x ∷ in_front xs)) h

-- What is left to sum gives the whole.
module _ (l : List Float) (i : ℕ) (s : Float) {whole : Float} (left : sum_squares (in_front (drop i l)) s ≡ whole) where
  first : i < length l → drop i l ≡ get_or l i nan ∷ drop (i + 1) l
  first h = drop-cons l i nan h ∙ ap (λ (j : ℕ). get_or l i nan ∷ drop j l) (sym (add-one i))

  pub squares_more : i < length l → eq (get_or l i nan) minus_one ≡ false
      → sum_squares (in_front (drop (i + 1) l)) (s ⊕ get_or l i nan ⊗ get_or l i nan) ≡ whole
  unfolding sum_squares
  squares_more h e =
      sym (ap (λ (xs : List Float). sum_squares xs s) (ap in_front (first h) ∙ front_in (get_or l i nan) (drop (i + 1) l) e)) ∙ left

  pub squares_same : i < length l → eq (get_or l i nan) minus_one ≡ true → sum_squares (in_front (drop (i + 1) l)) s ≡ whole
  squares_same h e =
      sym (ap (λ (xs : List Float). sum_squares xs s) (ap in_front (first h) ∙ front_out (get_or l i nan) (drop (i + 1) l) e)) ∙ left

  pub squares_done : length l ≤ i → s ≡ whole
  unfolding sum_squares in_front
  squares_done h = sym (ap (λ (xs : List Float). sum_squares (in_front xs) s) (drop_of_length-le l h)) ∙ left

-- ---- the report

module _ (p : Pose) (ms : List ℕ) (rs : List Row) where
  -- what is reported, by the three numbers of Fixed that it reads
  abbrev numbers : Float → Float → Bool → Report
  numbers cut scale mirror = record {
    pose = p;
    cd = cd_from_theta p.theta scale mirror;
    rms = root_mean (sum_squares (in_front (residuals (view_of p cut) rs)) zero64) (in_front (residuals (view_of p cut) rs));
    covariance = covariance_of (normal_matrix (view_of p cut) rs) (sum_squares (in_front (residuals (view_of p cut) rs)) zero64);
    matches = ms;
  }

  numbers_reported : (k : Fixed) → numbers k.cut k.scale k.mirror ≡ reported k p ms rs
  unfolding reported covariance_of
  numbers_reported k = refl

  abbrev built : List (List Float) → Float → List (List Float) → Report
  built cd rms cov = record { pose = p; cd = cd; rms = rms; covariance = cov; matches = ms }

  module _ (k : Fixed) (front : List Float) (count : ℕ) (sum rms : Float) (cov cd : List (List Float))
      (written : front ≡ residuals (view_of p k.cut) rs) (counted : count ≡ length (in_front (residuals (view_of p k.cut) rs)))
      (summed : sum ≡ sum_squares (in_front front) zero64) (rooted : rms ≡ cond (ltb count 1) zero64 (root binary64 (sum ⊘ of_int binary64 (pos count))))
      (spread : cov ≡ covariance_of (normal_matrix (view_of p k.cut) rs) sum) (turned : cd ≡ cd_from_theta p.theta k.scale k.mirror) where
    sum_is : sum ≡ sum_squares (in_front (residuals (view_of p k.cut) rs)) zero64
    sum_is = summed ∙ ap (λ (l : List Float). sum_squares (in_front l) zero64) written

    rms_is : rms ≡ root_mean (sum_squares (in_front (residuals (view_of p k.cut) rs)) zero64) (in_front (residuals (view_of p k.cut) rs))
    unfolding root_mean
    rms_is =
        rooted ∙ ap (λ (n : ℕ). cond (ltb n 1) zero64 (root binary64 (sum ⊘ of_int binary64 (pos n)))) counted
        ∙ ap (λ (x : Float). root_mean x (in_front (residuals (view_of p k.cut) rs))) sum_is

    cov_is : cov ≡ covariance_of (normal_matrix (view_of p k.cut) rs) (sum_squares (in_front (residuals (view_of p k.cut) rs)) zero64)
    cov_is = spread ∙ ap (covariance_of (normal_matrix (view_of p k.cut) rs)) sum_is

    pub report_is : built cd rms cov ≡ reported k p ms rs
    report_is =
        ap (λ (x : List (List Float)). built x rms cov) turned
        ∙ ap (λ (x : Float). built (cd_from_theta p.theta k.scale k.mirror) x cov) rms_is
        ∙ ap (λ (x : List (List Float)). built (cd_from_theta p.theta k.scale k.mirror) (root_mean (sum_squares (in_front (residuals (view_of p k.cut) rs)) zero64) (in_front (residuals (view_of p k.cut) rs))) x) cov_is
        ∙ numbers_reported k
