-- The values that a run fixes, with another matcher: all of a run's definitions but the matcher's own two read the other values alone, and so come to the
-- same. Assumes nothing.
use Rattle.std.specs.Prelude.{Option, Some, None}
use Rattle.std.proofs.Common.{◌≡◌, ℕ, zero, suc, ◌/◌, cond, ltb, List, [], ◌∷◌, length, refl, ◌∙◌}
use lib.Ieee.{Float}
use Rattle.fit.specs.Rows.{Row, rows, view_of, direction_at}
use Rattle.residuals.specs.Residual.{residuals, mad_clip_matches}
use Rattle.fit.specs.declared.Pose.{Pose}
use Rattle.stats.specs.declared.MedianSigma.{MedianSigma}
use Rattle.entry.specs.Fixed.{Fixed, requery_margin, search_radius, requery_cos, radius_px, prune_r, margin_px, keep_r, theta_margin}
use Rattle.entry.specs.declared.Matcher.{Matcher}
use Rattle.query.specs.Query.{least_cos, query, drifted, predicted, reaches, predictions, pruned}
use Rattle.wcs_refine.specs.Clip.{statistics}
use Rattle.wcs_refine.specs.Associate.{adaptive_px}
use Rattle.wcs_refine.specs.Closing.{Closed, fine, recleaned, cleaned_by, cleaned, reported}

abbrev pub with_matcher : Matcher → Fixed → Fixed
with_matcher m k = record {
  scale = k.scale;
  mirror = k.mirror;
  radius = k.radius;
  limit = k.limit;
  matcher = m;
  count = k.count;
  capacity = k.capacity;
  cut = k.cut;
  far = k.far;
}

module _ (m : Matcher) (k : Fixed) where
  abbrev other : Fixed
  other = with_matcher m k

  -- ---- the search

  pub query_kept : (directions : List Float) (p : Pose) → query other directions p ≡ query k directions p
  unfolding query least_cos search_radius requery_margin
  query_kept directions p = refl

  pub drifted_kept : (p : Pose) (b : List Float) (theta : Float) → drifted other p b theta ≡ drifted k p b theta
  unfolding drifted requery_cos theta_margin keep_r prune_r margin_px radius_px requery_margin
  drifted_kept p b theta = refl

  pub radius_kept : (t : Option MedianSigma) → adaptive_px other t ≡ adaptive_px k t
  unfolding adaptive_px radius_px
  radius_kept None = refl
  radius_kept (Some t) = refl

  pub predictions_kept : (directions : List Float) (axes : List (List Float)) (listed : List ℕ)
      → predictions other directions axes listed ≡ predictions k directions axes listed
  unfolding predictions predicted reaches prune_r radius_px
  predictions_kept directions axes [] = refl
  predictions_kept directions axes (j ∷ js) = λ i.
      let v = direction_at directions j in
      let q = predicted k axes j v in
      let more = predictions_kept directions axes js i in
      cond (reaches k axes v (prune_r k) q) (q ∷ more) more

  pub pruned_kept : (directions : List Float) (axes : List (List Float)) (listed : List ℕ) → pruned other directions axes listed ≡ pruned k directions axes listed
  unfolding pruned predicted reaches keep_r prune_r margin_px radius_px requery_margin
  pruned_kept directions axes [] = refl
  pruned_kept directions axes (j ∷ js) = λ i.
      let v = direction_at directions j in
      let more = pruned_kept directions axes js i in
      cond (reaches k axes v (keep_r k) (predicted k axes j v)) (j ∷ more) more

  -- ---- the closing

  module _ (spots directions : List Float) where
    recleaned_kept : (p : Pose) (ms : List ℕ) (c : Option ℕ) (new : List ℕ) (after : Pose → List ℕ → Closed)
        → recleaned other spots directions p ms c new after ≡ recleaned k spots directions p ms c new after
    unfolding recleaned
    recleaned_kept p ms None new after = refl
    recleaned_kept p ms (Some n) new after = refl

    cleaned_by_kept : (p : Pose) (ms : List ℕ) (rs : List Float) (t : Option MedianSigma) (after : Pose → List ℕ → Closed)
        → cleaned_by other spots directions p ms rs t after ≡ cleaned_by k spots directions p ms rs t after
    unfolding cleaned_by
    cleaned_by_kept p ms rs None after = refl
    cleaned_by_kept p ms rs (Some t) after =
        let x = mad_clip_matches rs ms t.median t.sigma in
        recleaned_kept p ms x.answer x.matches after

    pub cleaned_kept : (n : ℕ) (p : Pose) (ms : List ℕ) → cleaned other spots directions n p ms ≡ cleaned k spots directions n p ms
    unfolding cleaned
    cleaned_kept zero p ms = refl
    cleaned_kept (suc n) p ms =
        let rs = residuals (view_of p k.cut) (rows spots directions ms) in
        let few = ltb (length ms / 2) 6 in
        (λ i. cond few (fine p ms) (cleaned_by_kept p ms rs (statistics rs) (λ q l. cleaned other spots directions n q l) i))
        ∙ (λ i. cond few (fine p ms) (cleaned_by k spots directions p ms rs (statistics rs) (λ q l. cleaned_kept n q l i)))

  pub reported_kept : (p : Pose) (ms : List ℕ) (rs : List Row) → reported other p ms rs ≡ reported k p ms rs
  unfolding reported
  reported_kept p ms rs = refl
