-- What a run computes once from its arguments: the head of `wcs_refine`, and the radii of its re-association, which are the same in every round.
-- Definitions only. Assumes nothing.
use Rattle.std.specs.Prelude.{ℕ, zero, suc, ◌/◌, Bool, List, length, Float}
use Rattle.std.specs.Float.{binary64}
use Rattle.rounding.specs.Arith.{◌⊕◌, ◌⊗◌, ◌⊘◌, f64, zero64, one64}
use Rattle.rounding.specs.Root.{root}
use Rattle.rounding.specs.Methods.{max_f, clamp_f}
use Rattle.angles.specs.SinCos.{cos}
use Rattle.angles.specs.Inverse.{asin, atan2}
use Rattle.pairs.specs.Candidates.{capacity_of}
use Rattle.solve.specs.Constants.{minus_one, two}
use Rattle.solve.specs.Vector.{row, entry, dot}
use Rattle.project.specs.Camera.{east, north}
use Rattle.panel.specs.Spots.{spot_numbers, spot_at}
use Rattle.panel.specs.declared.Spot.{Spot}
use Rattle.fit.specs.declared.Pose.{Pose}
use Rattle.entry.specs.Arguments.{Call, Given}
use Rattle.entry.specs.declared.Matcher.{Matcher}

-- 01: "A spot's distance .. is the rounded sqrt(x × x + y × y)."
unfoldable pub distance : Spot → Float
unfolding root
distance s = root binary64 (s.px ⊗ s.px ⊕ s.py ⊗ s.py)

-- "The run takes the greatest over all spots, those beyond the matching limit included, or 0 if there are none": of the spots from i on, k of them.
unfoldable pub farthest : List Float → ℕ → ℕ → Float → Float
unfolding distance spot_at max_f
farthest spots i zero far = far
farthest spots i (suc k) far = farthest spots (suc i) k (max_f far (distance (spot_at spots i)))

-- All that the rounds read beside spots, directions and their state: `ps`, `parity_flip`, `match_radius_rad as f64`, `max_match_centroids`, the
-- matcher, how many directions there are, how many pairs the candidate lists hold, the plane cut, and `max_cent_dist_px`.
pub record Fixed : Type 0 where
  pub scale : Float
  pub mirror : Bool
  pub radius : Float
  pub limit : ℕ
  pub matcher : Matcher
  pub count : ℕ
  pub capacity : ℕ
  pub cut : Float
  pub far : Float

-- What the head of `wcs_refine` makes of its arguments. Of the directions and of the candidate lists only the lengths count.
unfoldable pub fixed_from : List Float → ℕ → Float → Bool → Float → Float → ℕ → Matcher → ℕ → ℕ → Fixed
unfolding farthest
fixed_from spots directions scale mirror radius cut limit matcher distances indices = record {
  scale = scale;
  mirror = mirror;
  radius = radius;
  limit = limit;
  matcher = matcher;
  count = directions / 3;
  capacity = capacity_of distances indices;
  cut = cut;
  far = farthest spots 0 (length spots / spot_numbers) zero64;
}

-- The same of a call: what its run reads in every round.
unfoldable pub fixed : Call → Fixed
unfolding fixed_from
fixed c =
    fixed_from c.spots (length c.directions) c.given.scale c.given.mirror c.given.radius
    c.given.cut c.given.limit c.given.matcher (length c.given.lent.distances) (length c.given.lent.indices)

-- 1.5, how much wider than the field is searched, and 3.0, how many margins beyond the field a direction stays cached
abbrev pub field_factor : Float
field_factor = f64 0x3FF8000000000000

abbrev pub margins_kept : Float
margins_kept = f64 0x4008000000000000

-- requery_margin: match_radius_rad as f64 * 2.0
unfoldable pub requery_margin : Fixed → Float
requery_margin k = k.radius ⊗ two

-- search_radius: (ps * max_cent_dist_px * 1.5).max(match_radius_rad as f64 * 2.0)
unfoldable pub search_radius : Fixed → Float
unfolding max_f
search_radius k = max_f (k.scale ⊗ k.far ⊗ field_factor) (k.radius ⊗ two)

-- requery_cos: requery_margin.cos()
unfoldable pub requery_cos : Fixed → Float
unfolding requery_margin cos
requery_cos k = cos (requery_margin k)

-- radius_px: match_radius_rad as f64 / ps
unfoldable pub radius_px : Fixed → Float
radius_px k = k.radius ⊘ k.scale

-- prune_r: max_cent_dist_px + radius_px
unfoldable pub prune_r : Fixed → Float
unfolding radius_px
prune_r k = k.far ⊕ radius_px k

-- margin_px: requery_margin / ps
unfoldable pub margin_px : Fixed → Float
unfolding requery_margin
margin_px k = requery_margin k ⊘ k.scale

-- keep_r: prune_r + 3.0 * margin_px
unfoldable pub keep_r : Fixed → Float
unfolding prune_r margin_px
keep_r k = prune_r k ⊕ margins_kept ⊗ margin_px k

-- theta_margin: margin_px / keep_r
unfoldable pub theta_margin : Fixed → Float
unfolding keep_r margin_px
theta_margin k = margin_px k ⊘ keep_r k

-- Step 0 of `wcs_refine`, "Extract initial CRVAL and θ": from the third row of the rotation, the boresight, and its first, the camera's x axis.
unfoldable pub start_pose_of : List (List Float) → Float → Pose
unfolding atan2 asin clamp_f east north dot
start_pose_of rotation scale =
    let ra = atan2 (entry rotation 2 1) (entry rotation 2 0) in
    let dec = asin (clamp_f (entry rotation 2 2) minus_one one64) in
    record {
      theta = atan2 (dot (row rotation 0) (north ra dec)) (dot (row rotation 0) (east ra));
      ra = ra;
      dec = dec;
      scale = scale;
    }

-- The same of a call's arguments.
unfoldable pub start_pose : Given → Pose
unfolding start_pose_of
start_pose g = start_pose_of g.rotation g.scale
