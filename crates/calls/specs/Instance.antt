-- An instance of demand 3 (`specs/Unseen.antt` of wcs_refine): two calls that differ in the place of a spot, in the weight of another and in a
-- direction, meet its premises, and so come to the same outcome, which is an answer and no refusal; with either matcher. The queries and the outcome are
-- computed. Assumes nothing.
use Rattle.std.specs.Prelude.{◌≡◌, refl, false, List, [], ◌∷◌, ℕ, zero, suc, ◌<◌, replicate, Float}
use Rattle.std.proofs.Common.{ap, subst, true≢false, inl, inr, arith}
use Rattle.std.specs.Float.Ieee.{neg, lt}
use Rattle.rounding.specs.Arith.{f64, zero64, one64}
use Rattle.solve.specs.Covariance.{unconstrained}
use Rattle.panel.specs.Spots.{spot_at}
use Rattle.fit.specs.Rows.{direction_at}
use Rattle.solve.specs.Vector.{at}
use Rattle.panel.specs.declared.Spot.{Spot}
use Rattle.entry.specs.Arguments.{Call, Given}
use Rattle.entry.specs.declared.Matcher.{Matcher}
use Rattle.entry.specs.declared.Matcher.TheVariants.{Listing, Scanning}
use Rattle.entry.specs.Check.{least_cut, least_weight, most_weight, between, every}
use Rattle.entry.specs.Fixed.{distance}
use Rattle.wcs_refine.specs.Associate.{links}
use Rattle.wcs_refine.specs.Call.{Outcome, ok, outcome, queries}
use Rattle.wcs_refine.specs.Unseen.{Alike, OnlyUnseen, SpotUnchanged, DirectionUnchanged, DirectionUnseen, SpotUnseen, Listed}
use Rattle.rounding.specs.Computed.{arithmetic}
use Rattle.calls.specs.Computed.{everything}
use Rattle.wcs_refine.proofs.TwoCalls.{unseen_changes_nothing}

-- The camera looks along (1, 0, 0), at 2^-10 radians per pixel and with a radius of 2^-7. Only the first spot is within the matching limit, and
-- there is no starting match. The working list of whole numbers has n places; with three spots and two directions 80 are enough.
abbrev given : Matcher → ℕ → Given
given m n = record {
  matches = [];
  rotation = (zero64 ∷ one64 ∷ zero64 ∷ []) ∷ (zero64 ∷ zero64 ∷ one64 ∷ []) ∷ (one64 ∷ zero64 ∷ zero64 ∷ []) ∷ [];
  scale = f64 0x3F50000000000000;
  mirror = false;
  radius = f64 0x3F80000000000000;
  cut = least_cut;
  limit = 1;
  rounds = 1;
  matcher = m;
  lent = record {
    numbers = replicate n 7;
    floats = replicate 80 one64;
    distances = one64 ∷ one64 ∷ [];
    indices = 1 ∷ 2 ∷ 3 ∷ 4 ∷ [];
    result = 9 ∷ 9 ∷ [];
  };
}

-- Spots (5, 0) and (x, y), both with the weight 1, and (2, 0) with the weight w; directions (1, 0, 0) and (u, v, 0).
abbrev pub with : Matcher → ℕ → Float → Float → Float → Float → Float → Call
with m n x y w u v = record {
  spots =
      f64 0x4014000000000000 ∷ zero64 ∷ one64
      ∷ x ∷ y ∷ one64
      ∷ f64 0x4000000000000000 ∷ zero64 ∷ w
      ∷ [];
  directions = one64 ∷ zero64 ∷ zero64 ∷ u ∷ v ∷ zero64 ∷ [];
  given = given m n;
}

-- The second spot is (3, 0) before and (0, 4) after; the third has the least weight before and the greatest after; the second direction is
-- (-1, 0, 0) before and (0, 1, 0) after.
abbrev pub before : Matcher → Call
before m = with m 80 (f64 0x4008000000000000) zero64 least_weight (neg one64) zero64

abbrev pub after : Matcher → Call
after m = with m 80 zero64 (f64 0x4010000000000000) most_weight zero64 one64

-- What both come to.
abbrev pub expected : Outcome
expected = record {
  answer = ok (record {
    pose = record { theta = zero64; ra = zero64; dec = zero64; scale = f64 0x3F50000000000000 };
    cd = (f64 0x3F50000000000000 ∷ f64 0x8000000000000000 ∷ []) ∷ (zero64 ∷ f64 0x3F50000000000000 ∷ []) ∷ [];
    rms = zero64;
    covariance = unconstrained;
    matches = [];
  }) 1 0 1 0;
  lent = record {
    numbers = replicate 80 0;
    floats = replicate 80 zero64;
    distances = replicate 2 zero64;
    indices = replicate 4 0;
    result = 9 ∷ 9 ∷ [];
  };
}

-- Demand 3 of these two calls: its premises, what it claims, and the outcome itself.
pub record Instance (m : Matcher) : Type 0 where
  -- The second spot, the third and the second direction really differ; the third spot does so in its weight alone.
  pub spot_differs : SpotUnchanged (before m) (after m) 1 → ⊥
  pub weight_differs : SpotUnchanged (before m) (after m) 2 → ⊥
  pub same_x : (spot_at (before m).spots 2).px ≡ (spot_at (after m).spots 2).px
  pub same_y : (spot_at (before m).spots 2).py ≡ (spot_at (after m).spots 2).py
  pub direction_differs : DirectionUnchanged (before m) (after m) 1 → ⊥
  -- Each call makes one query, which lists the first direction alone.
  pub queries_before : queries (before m) ≡ (0 ∷ []) ∷ []
  pub queries_after : queries (after m) ≡ (0 ∷ []) ∷ []
  -- The premises of demand 3.
  pub alike : Alike (before m) (after m)
  pub only_unseen : OnlyUnseen (before m) (after m)
  -- What demand 3 then says of these calls.
  pub same : outcome (before m) ≡ outcome (after m)
  -- The outcome itself, computed: accepted after one round, no fit pass and one query, with the start pose and no match.
  pub computed : outcome (before m) ≡ expected

spot_apart : (m : Matcher) → SpotUnchanged (before m) (after m) 1 → ⊥
unfolding spot_at arithmetic
spot_apart m e = true≢false (ap (λ (s : Spot). lt zero64 s.px) e)

weight_apart : (m : Matcher) → SpotUnchanged (before m) (after m) 2 → ⊥
unfolding spot_at arithmetic
weight_apart m e = true≢false (ap (λ (s : Spot). lt s.weight one64) e)

same_across : (m : Matcher) → (spot_at (before m).spots 2).px ≡ (spot_at (after m).spots 2).px
unfolding spot_at
same_across m = refl

same_upward : (m : Matcher) → (spot_at (before m).spots 2).py ≡ (spot_at (after m).spots 2).py
unfolding spot_at
same_upward m = refl

direction_apart : (m : Matcher) → DirectionUnchanged (before m) (after m) 1 → ⊥
unfolding direction_at arithmetic
direction_apart m e = true≢false (ap (λ (v : List Float). lt (at v 0) zero64) e)

queried_before : (m : Matcher) → queries (before m) ≡ (0 ∷ []) ∷ []
unfolding everything
queried_before Listing = refl
queried_before Scanning = refl

queried_after : (m : Matcher) → queries (after m) ≡ (0 ∷ []) ∷ []
unfolding everything
queried_after Listing = refl
queried_after Scanning = refl

unlisted : (qs : List (List ℕ)) → qs ≡ (0 ∷ []) ∷ [] → Listed 1 qs → ⊥
unlisted qs e h = go (subst (Listed 1) e h)
  where
    go : Listed 1 ((0 ∷ []) ∷ []) → ⊥
    go (inl (inl p)) = omega arith
    go (inl (inr p)) = elim p [ ]
    go (inr p) = elim p [ ]

only : (m : Matcher) → OnlyUnseen (before m) (after m)
unfolding spot_at direction_at links distance between every arithmetic
only m = record {
  direction = directions;
  spot = spots;
}
  where
    directions : (j : ℕ) → j < 2 → (DirectionUnchanged (before m) (after m) j → ⊥) →
        DirectionUnseen (before m) j × DirectionUnseen (after m) j
    directions zero h d = absurd (d refl)
    directions (suc zero) h d = (
      record { unnamed = λ n. n; unlisted = unlisted (queries (before m)) (queried_before m); lawful = tt },
      record { unnamed = λ n. n; unlisted = unlisted (queries (after m)) (queried_after m); lawful = tt },
    )
    directions (suc (suc j)) h d = absurd (omega arith)

    spots : (i : ℕ) → i < 3 → (SpotUnchanged (before m) (after m) i → ⊥) → SpotUnseen (before m) (after m) i × SpotUnseen (after m) (before m) i
    spots zero h d = absurd (d refl)
    spots (suc zero) h d = (
      record { beyond = omega arith; unnamed = λ n. n; nearer = (0, omega arith, refl, tt); lawful = (tt, tt) },
      record { beyond = omega arith; unnamed = λ n. n; nearer = (0, omega arith, refl, tt); lawful = (tt, tt) },
    )
    spots (suc (suc zero)) h d = (
      record { beyond = omega arith; unnamed = λ n. n; nearer = (0, omega arith, refl, tt); lawful = (tt, tt) },
      record { beyond = omega arith; unnamed = λ n. n; nearer = (0, omega arith, refl, tt); lawful = (tt, tt) },
    )
    spots (suc (suc (suc i))) h d = absurd (omega arith)

computed_before : (m : Matcher) → outcome (before m) ≡ expected
unfolding everything
computed_before Listing = refl
computed_before Scanning = refl

-- Demand 3 is not empty, whichever matcher is chosen.
pub instance : (m : Matcher) → Instance m
instance m = record {
  spot_differs = spot_apart m;
  weight_differs = weight_apart m;
  same_x = same_across m;
  same_y = same_upward m;
  direction_differs = direction_apart m;
  queries_before = queried_before m;
  queries_after = queried_after m;
  alike = record { spots = refl; directions = refl; given = refl };
  only_unseen = only m;
  same = unseen_changes_nothing (before m) (after m) (record { spots = refl; directions = refl; given = refl }) (only m);
  computed = computed_before m;
}
