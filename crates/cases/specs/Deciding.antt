-- The properties of a match list, and its order, as tests that the check can compute; `proofs/Deciding.antt` shows that each test is true just where its
-- property of crate `matching`'s `Meaning.antt` holds. Definitions only. Assumes nothing.
use Rattle.std.specs.Bool.{Decides}
use Rattle.std.specs.Prelude.{ℕ, zero, suc, ◌/◌, Bool, true, false, not, ◌&&◌, ◌||◌, List, [], ◌∷◌, length, ◌==◌, nat_lt}
use Rattle.std.specs.Float.Ieee.{lt, eq, le}
use Rattle.pairs.specs.Pairs.{spots_within}
use Rattle.matching.specs.Greedy.{Match}
use Rattle.matching.specs.Meaning.{Frame, apart, Once, AllNear, Rising, Explained, Ordered}

-- A test holds of one of a list, of all of a list, of every number below n. (std's words for the first two cannot be computed with.)
unfoldable pub any_of : {A : Type 0} → (A → Bool) → List A → Bool
any_of t [] = false
any_of t (x ∷ l) = t x || any_of t l

unfoldable pub all_of : {A : Type 0} → (A → Bool) → List A → Bool
all_of t [] = true
all_of t (x ∷ l) = t x && all_of t l

unfoldable pub below : ℕ → (ℕ → Bool) → Bool
below zero t = true
below (suc n) t = t n && below n t

-- Each of a list to the next.
unfoldable pub stepwise : {A : Type 0} → (A → A → Bool) → List A → Bool
stepwise t [] = true
stepwise t (x ∷ []) = true
stepwise t (x ∷ y ∷ l) = t x y && stepwise t (y ∷ l)

unfoldable pub same : Match → Match → Bool
same m n = m.spot == n.spot && m.prediction == n.prediction

unfoldable pub shares : Match → Match → Bool
shares m n = m.spot == n.spot || m.prediction == n.prediction

unfoldable pub used_once : List Match → Bool
unfolding any_of shares
used_once [] = true
used_once (m ∷ ms) = not (any_of (shares m) ms) && used_once ms

-- What the tests say of a list.
pub record Verdict : Type 0 where
  pub once : Bool
  pub near : Bool
  pub rising : Bool
  pub explained : Bool
  pub ordered : Bool

module _ (f : Frame) where
  unfoldable pub is_near : Match → Bool
  is_near m =
      nat_lt m.spot (spots_within f.points f.limit) && nat_lt m.prediction (length f.predicted / 2)
      && le (apart f m) f.radius_sq

  unfoldable pub is_earlier : Match → Match → Bool
  is_earlier m n =
      lt (apart f m) (apart f n)
      || (eq (apart f m) (apart f n)
      && (nat_lt m.spot n.spot || (m.spot == n.spot && nat_lt m.prediction n.prediction)))

  -- The pair is not within the radius, or it was taken, or a taken one that comes earlier shares something with it.
  unfoldable pub accounted : List Match → Match → Bool
  unfolding is_near any_of same shares is_earlier
  accounted ms m = not (is_near m) || (any_of (same m) ms || any_of (λ n. shares m n && is_earlier n m) ms)

  unfoldable pub verdict : List Match → Verdict
  unfolding used_once is_near all_of stepwise accounted below is_earlier
  verdict ms = record {
    once = used_once ms;
    near = all_of is_near ms;
    rising = stepwise (λ m n. le (apart f m) (apart f n)) ms;
    explained = below (spots_within f.points f.limit)
        (λ i. below (length f.predicted / 2) (λ j. accounted ms (record { spot = i; prediction = j })));
    ordered = stepwise is_earlier ms;
  }

-- Each test is true just where its property holds.
pub record Told (f : Frame) (ms : List Match) : Type 0 where
  pub once : Decides (verdict f ms).once (Once f ms)
  pub near : Decides (verdict f ms).near (AllNear f ms)
  pub rising : Decides (verdict f ms).rising (Rising f ms)
  pub explained : Decides (verdict f ms).explained (Explained f ms)
  pub ordered : Decides (verdict f ms).ordered (Ordered f ms)

abbrev pub VerdictsDecide : Type 0
VerdictsDecide = (f : Frame) (ms : List Match) → Told f ms
