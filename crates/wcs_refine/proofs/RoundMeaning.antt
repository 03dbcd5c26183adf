-- What the matches of a round mean: `RoundMeant` of `specs/Meaning.antt`. The search of a round comes down to `associated` in each of its cases. Assumes
-- nothing.
use Rattle.std.proofs.Common.{◌≡◌, ◌⊎◌, ℕ, ◌<◌, ◌≤◌, Bool, true, false, cond, ltb, List, inl, inr, refl, sym, subst}
use borrow.Author.Tests.{ltb-true, ltb-false}
use lib.Ieee.{Float}
use Rattle.rounding.specs.Arith.{◌⊗◌}
use Rattle.matching.specs.Greedy.{matches_of}
use Rattle.matching.proofs.Meaning.{matcher_meant}
use Rattle.project.specs.Camera.{boresight, camera_rows}
use Rattle.panel.specs.Points.{points_of}
use Rattle.fit.specs.declared.Pose.{Pose}
use Rattle.entry.specs.Fixed.{Fixed}
use Rattle.entry.specs.declared.Matcher.{Matcher}
use Rattle.entry.specs.declared.Matcher.TheVariants.{Listing, Scanning}
use Rattle.query.specs.Query.{Cache, empty, full, query, drifted, Prediction, predictions, pruned}
use Rattle.wcs_refine.specs.Clip.{clipped}
use Rattle.wcs_refine.specs.Associate.{laid, renamed}
use Rattle.wcs_refine.specs.Round.{State, Next, refuse, settled, too_many, associated, fresh, reused, searched, rest, fitted, round}
use Rattle.wcs_refine.specs.Meaning.{fit, measured, spread, radius, listed_by, predicted, frame, found, Searched, RoundMeant}
use Rattle.wcs_refine.proofs.RoundPlaces.{places}

module _ (k : Fixed) (spots directions : List Float) (s : State) where
  -- what the clip leaves of the matches
  abbrev kept : List ℕ
  kept = clipped (measured k spots directions s) (spread k spots directions s) s.matches

  abbrev pose : Pose
  pose = (fit k spots directions s).pose

  abbrev px : Float
  px = radius k spots directions s

  abbrev seen : List Prediction
  seen = predicted k spots directions s

  -- the association on the predictions of the round, whatever is cached after it
  associated_meant : (c : Cache) → Searched k spots directions s (associated k (points_of spots k.limit) pose kept c px seen)
  unfolding associated too_many
  associated_meant c = record {
    places = places k spots directions s;
    list = matches_of (points_of spots k.limit) k.limit (laid seen) (px ⊗ px);
    the = matcher_meant (frame k spots directions s);
    cache = c;
    follows = by k.matcher;
  }
    where
      next : Next
      next = settled pose kept c (renamed seen (matches_of (points_of spots k.limit) k.limit (laid seen) (px ⊗ px)))

      Follows : Matcher → Next → Type 0
      Follows m n =
          ((m ≡ Listing) × (k.capacity < found k spots directions s) × (n ≡ refuse 13))
          ⊎ (((m ≡ Scanning) ⊎ (found k spots directions s ≤ k.capacity)) × (n ≡ next))

      listed : (b : Bool) → ltb k.capacity (found k spots directions s) ≡ b → Follows Listing (cond b (refuse 13) next)
      listed true e = inl (refl, ltb-true k.capacity (found k spots directions s) e, refl)
      listed false e = inr (inr (ltb-false k.capacity (found k spots directions s) e), refl)

      by : (m : Matcher) → Follows m (cond (too_many m k.capacity (found k spots directions s)) (refuse 13) next)
      by Listing = listed (ltb k.capacity (found k spots directions s)) refl
      by Scanning = inr (inl refl, refl)

  abbrev axes : List (List Float)
  axes = camera_rows pose.theta pose.ra pose.dec

  -- ---- the search, by what is cached

  abbrev seen_of : List ℕ → List Prediction
  seen_of listed = predictions k directions axes listed

  fresh_is : (listed : List ℕ) → (fresh k spots directions pose kept px listed).next
      ≡ associated k (points_of spots k.limit) pose kept (full (boresight pose.ra pose.dec) pose.theta (pruned k directions axes listed)) px (seen_of listed)
  unfolding fresh
  fresh_is listed = refl

  -- a search that comes to the association on the predictions of what is listed
  Reaches : Next → List ℕ → Type 0
  Reaches next listed = (c : Cache) × (next ≡ associated k (points_of spots k.limit) pose kept c px (seen_of listed))

  reused_reaches : (b : List Float) (theta : Float) (listed : List ℕ) (due : Bool)
      → Reaches (reused k spots directions pose kept px b theta listed due).next (cond due (query k directions pose) listed)
  unfolding reused Reaches
  reused_reaches b theta listed true = (_, fresh_is (query k directions pose))
  reused_reaches b theta listed false = (full b theta listed, refl)

  searched_reaches : (c : Cache) → Reaches (searched k spots directions pose kept px c).next (listed_by k spots directions s c)
  unfolding searched Reaches
  searched_reaches empty = (_, fresh_is (query k directions pose))
  searched_reaches (full b theta listed) = reused_reaches b theta listed (drifted k pose b theta)

  searched_meant : Searched k spots directions s (searched k spots directions pose kept px s.cache).next
  unfolding Reaches
  searched_meant =
      let r = searched_reaches s.cache in
      subst (Searched k spots directions s) (sym r.1) (associated_meant r.0)

pub round_meant : RoundMeant
unfolding round fitted rest
round_meant k spots directions s fine = rw fine (searched_meant k spots directions s)
