-- The points of the spots in their regions, and the matcher on them. Assumes nothing.
use Rattle.std.proofs.Common.{◌≡◌, ℕ, ◌+◌, ◌-◌, ◌*◌, ◌/◌, ◌≤◌, min, List, [], ◌++◌, length, take, drop, sym, ap, ◌∙◌, append_assoc, append-nil, arith, length-append, length-drop, drop_of_length-le, length-take, length-take-le, take_at}
use lib.Seq.{slice}
use lib.Ieee.{Float}
use Rattle.lists.specs.Fronted.{fronted}
use Rattle.pairs.specs.Pairs.{spots_within}
use Rattle.panel.specs.Points.{coordinates, within_limit, points_of}
use Rattle.panel.proofs.Laying.{coordinates_many}
use Rattle.entry.specs.declared.Settings.{Settings}
use Rattle.entry.specs.Entry.{fixed_of}
use Rattle.query.specs.declared.Held.{Held}
use Rattle.query.specs.Query.{Prediction}
use Rattle.wcs_refine.specs.Round.{State, associated, compared}
use Rattle.wcs_refine.specs.Keeping.{held_cache, held_matches, PointsAt, points_at, Predicted, AssociatedTo}
use Rattle.std.specs.Prelude.{Result}
use Rattle.std.proofs.lemmas.Result.{MatchResult-weaker}
use Rattle.refusal.specs.declared.Refusal.{Refusal}
use Rattle.wcs_refine.specs.declared.associating.Step.{Step}
use Rattle.wcs_refine.proofs.FindSteps.{slice_at, slice_front}

-- The matcher looks at all of the points.
pub points_within : (spots : List Float) (limit : ℕ) → spots_within (points_of spots limit) limit ≡ within_limit spots limit
unfolding points_of
points_within spots limit = omega (arith, coordinates_many spots 0 (within_limit spots limit))

-- The list with a part of it, just long enough for the points of k spots, laid out and back in its place.
module _ (spots floats : List Float) (to k : ℕ) (fits : to + 2 * k ≤ length floats) where
  abbrev part : List Float
  part = take (to + 2 * k - to) (drop to floats)

  abbrev rest : List Float
  rest = drop (to + 2 * k - to) (drop to floats)

  part_long : length part ≡ 2 * k
  part_long = omega (arith, length-take (to + 2 * k - to) (drop to floats), length-drop to floats)

  pub laid_out : {w after : List Float} → w ≡ fronted (coordinates spots 0 (min k (length part / 2))) part
      → after ≡ take to floats ++ (w ++ rest) → PointsAt spots k to floats after
  laid_out {w} {after} did back =
      let all : min k (length part / 2) ≡ k = omega (arith, part_long) in
      let many : length (coordinates spots 0 k) ≡ 2 * k = coordinates_many spots 0 k in
      let past : length part ≤ length (coordinates spots 0 k) = omega (arith, many, part_long) in
      let none : drop (length (coordinates spots 0 k)) part ≡ [] = drop_of_length-le part past in
      let is : w ≡ coordinates spots 0 k =
      did ∙ ap (λ (j : ℕ). fronted (coordinates spots 0 j) part) all
      ∙ ap (λ (l : List Float). coordinates spots 0 k ++ l) none ∙ append-nil (coordinates spots 0 k) in
      let front : length (take to floats) ≡ to = length-take-le to floats (omega arith) in
      let as_long : length w ≡ 2 * k = ap length is ∙ many in
      record {
        long =
            omega (
              arith,
              ap length back,
              length-append (take to floats) (w ++ rest),
              length-append w rest,
              as_long,
              front,
              length-drop (to + 2 * k - to) (drop to floats),
              length-drop to floats,
            );
        points =
            ap (slice to (to + 2 * k)) (back ∙ sym (append_assoc (take to floats) w rest))
            ∙ slice_at (take to floats) w rest to (2 * k) front as_long ∙ is;
        front = λ a e h. slice_front a e to after floats h (ap (take to) back ∙ take_at (take to floats) (w ++ rest) to front);
      }

-- ---- the matcher on the points, which stand in their regions

pub spots_associated : (k : Settings) (n q within : ℕ) (spots floats laid : List Float) (h : Held) (r : Float) (before : List ℕ) (left : State) (s : Result Step Refusal) → q ≤ n
    → within ≡ within_limit spots k.limit → PointsAt spots within (4 * n) floats laid
    → AssociatedTo k n (points_at n within laid) h r q before laid left s
    → AssociatedTo k n (points_of spots k.limit) h r q before floats left s
unfolding points_of
spots_associated k n q within spots floats laid h r before left s few e p a =
    let same : points_at n within laid ≡ coordinates spots 0 (within_limit spots k.limit) = p.points ∙ ap (coordinates spots 0) e in
    let there : (qs : List Prediction) → Predicted n q before floats qs → Predicted n q before laid qs =
    λ qs w. record { ids = w.ids; points = w.points ∙ sym (p.front (2 * n) (2 * n + 2 * q) (omega arith)) } in
    let is : (qs : List Prediction) → associated (fixed_of k) (points_at n within laid) h.pose (held_matches h before) (held_cache n h before) r qs
    ≡ associated (fixed_of k) (coordinates spots 0 (within_limit spots k.limit)) h.pose (held_matches h before) (held_cache n h before) r qs =
    λ qs. ap (λ (l : List Float). associated (fixed_of k) l h.pose (held_matches h before) (held_cache n h before) r qs) same in
    MatchResult-weaker s a
    (λ t b. record {
      next = λ qs w. b.next qs (there qs w) ∙ is qs;
      comparisons = λ qs w. b.comparisons qs (there qs w) ∙ ap (λ (l : List Float). compared (fixed_of k) l r qs) same;
    })
    (λ x b qs w. b qs (there qs w) ∙ is qs)
