-- What a match list means, without an algorithm. 02, CR 9: "Crystallographers cite our matches in papers and need a statement without an algorithm in it."
-- Four properties, the order of pairs, and that exactly one list has them; in plain words, with a picture, in docs/MATCHES.md. Definitions only. Assumes
-- nothing. A pair is a spot and a prediction by their places, from 0: two predictions that fall on one point are two.
use Rattle.std.specs.Prelude.{◌≡◌, ℕ, zero, suc, ◌/◌, ◌<◌, true, ◌⊎◌, List, [], ◌∷◌, length, Float}
use Rattle.std.specs.Float.Ieee.{lt, eq, le}
use Rattle.pairs.specs.Pairs.{point_at, squared, spots_within}
use Rattle.matching.specs.Greedy.{Match}

-- What is matched: spots and predictions, x then y of each, the matching limit, and the squared radius.
pub record Frame : Type 0 where
  pub points : List Float
  pub limit : ℕ
  pub predicted : List Float
  pub radius_sq : Float

-- Place i of a list, from 0, holds the pair m.
unfoldable pub At : List Match → ℕ → Match → Type 0
At [] i m = ⊥
At (x ∷ l) zero m = x ≡ m
At (x ∷ l) (suc i) m = At l i m

-- The pair m was taken: it stands somewhere in the list.
abbrev pub Taken : List Match → Match → Type 0
Taken ms m = (i : ℕ) × At ms i m

-- Two pairs have the same spot, or the same prediction.
abbrev pub Share : Match → Match → Type 0
Share m n = (m.spot ≡ n.spot) ⊎ (m.prediction ≡ n.prediction)

module _ (f : Frame) where
  -- "Distance is here the matcher's rounded squared distance":
  abbrev pub apart : Match → Float
  apart m = squared (point_at f.points m.spot) (point_at f.predicted m.prediction)

  -- A pair within the radius: of one of "the spots within the matching limit" and a prediction, their distance at most the squared radius "it is compared
  -- with". A distance that is no number never is.
  pub record Near (m : Match) : Type 0 where
    pub spot : m.spot < spots_within f.points f.limit
    pub prediction : m.prediction < length f.predicted / 2
    pub distance : le (apart m) f.radius_sq ≡ true

  -- 01: "Pairs are ordered by squared distance, then spot, then prediction."
  abbrev pub Earlier : Match → Match → Type 0
  Earlier m n =
      (lt (apart m) (apart n) ≡ true)
      ⊎ ((eq (apart m) (apart n) ≡ true)
      × ((m.spot < n.spot) ⊎ ((m.spot ≡ n.spot) × (m.prediction < n.prediction))))

  -- "No spot and no prediction is used twice;
  abbrev pub Once : List Match → Type 0
  Once ms = (i j : ℕ) (m n : Match) → At ms i m → At ms j n → Share m n → i ≡ j

  -- each pair is within the radius;
  abbrev pub AllNear : List Match → Type 0
  AllNear ms = (i : ℕ) (m : Match) → At ms i m → Near m

  -- distances do not fall along the list;
  abbrev pub Rising : List Match → Type 0
  Rising ms = (i : ℕ) (m n : Match) → At ms i m → At ms (suc i) n → le (apart m) (apart n) ≡ true

  -- and each pair within the radius that was not taken shares its spot or prediction with a taken pair that comes earlier under the order of document 01."
  abbrev pub Explained : List Match → Type 0
  Explained ms = (m : Match) → Near m → Taken ms m ⊎ ((n : Match) × Taken ms n × Share m n × Earlier n m)

  -- The four properties.
  pub record Meant (ms : List Match) : Type 0 where
    pub once : Once ms
    pub near : AllNear ms
    pub rising : Rising ms
    pub explained : Explained ms

  -- "Its pairs also stand in that order": each is earlier than the next.
  abbrev pub Ordered : List Match → Type 0
  Ordered ms = (i : ℕ) (m n : Match) → At ms i m → At ms (suc i) n → Earlier m n

  -- "Exactly one list has these four properties when its pairs also stand in that order", and `ms` is that list.
  pub record TheMatches (ms : List Match) : Type 0 where
    pub meant : Meant ms
    pub ordered : Ordered ms
    pub only : (other : List Match) → Meant other → Ordered other → other ≡ ms

-- For every frame there is exactly one.
abbrev pub ExactlyOne : Type 0
ExactlyOne = (f : Frame) → (ms : List Match) × TheMatches f ms

-- Which pairs are taken is settled without the order: lists that have the four properties take the same.
abbrev pub SamePairs : Type 0
SamePairs = (f : Frame) (ms ns : List Match) → Meant f ms → Meant f ns → (m : Match) → Taken ms m → Taken ns m
