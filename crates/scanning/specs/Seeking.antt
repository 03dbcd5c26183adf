-- What a scan finds, and how the marks go on: what the private functions' contracts cite. Definitions only. Assumes nothing.
use Rattle.std.specs.Prelude.{◌≡◌, ℕ, ◌+◌, ◌*◌, ◌/◌, ◌<◌, Bool, true, cond, not, ◌&&◌, List, ◌++◌, length, drop, slice_index, Option, Some, None, MatchOption, ◌==◌}
use Rattle.std.specs.Float.Ieee.{lt, le}
use Rattle.pairs.specs.Pairs.{Pair}
use Rattle.pairs.specs.Candidates.{pair}
use Rattle.pairs.specs.declared.search.Search.{Search}
use Rattle.matching.specs.Merge.{not_after}
use Rattle.matching.specs.Greedy.{Match, matches_of, flat}
use Rattle.matching.specs.Meaning.{Frame, apart, Near}
use Rattle.scanning.specs.declared.scan.Found.{Found}

-- What is asked for, as a frame of crate `matching`'s Meaning.antt. Its spots are those within the limit.
abbrev pub frame_of : Search → Frame
frame_of s = record { points = s.points.now; limit = s.np; predicted = s.predicted.now; radius_sq = s.radius_sq }

-- The predictions asked for, and the places of the marks: of the spots, and behind them of the predictions.
abbrev pub predictions : Search → ℕ
predictions s = length s.predicted.now / 2

abbrev pub marks : Search → ℕ
marks s = s.np + predictions s

-- ---- marks

-- What the mark at a place says: gone, that is taken or not to be matched any more; or seen, of a prediction within the radius of a free spot.
abbrev pub gone : List ℕ → ℕ → Bool
gone w i = slice_index w i == 1

abbrev pub seen : List ℕ → ℕ → Bool
seen w i = slice_index w i == 2

-- A pair may be taken: neither its spot nor its prediction is gone.
unfoldable pub free : Search → List ℕ → Match → Bool
free s w m = not (gone w m.spot) && not (gone w (s.np + m.prediction))

-- A free pair within the radius.
pub record Takeable (s : Search) (w : List ℕ) (m : Match) : Type 0 where
  pub near : Near (frame_of s) m
  pub free : free s w m ≡ true

-- Behind the marks nothing was written.
pub record Behind (s : Search) (w w' : List ℕ) : Type 0 where
  pub long : length w' ≡ length w
  pub beyond : drop (marks s) w' ≡ drop (marks s) w

-- ---- what was found

-- A pair as a match, and in the order of pairs.
abbrev pub match_at : Found → Match
match_at n = record { spot = n.spot; prediction = n.prediction }

abbrev pub pair_at : Found → Pair
pair_at n = pair n.d2 n.spot n.prediction

-- The best pair so far and the next one: the next takes its place where it is nearer.
unfoldable pub closer : Option Found → Found → Option Found
closer None n = Some n
closer (Some b) n = cond (lt n.d2 b.d2) (Some n) (Some b)

-- It is one of some pairs, and after none of them.
pub record FirstOf (f : Frame) (P : Match → Type 0) (n : Found) : Type 0 where
  pub distance : n.d2 ≡ apart f (match_at n)
  pub among : P (match_at n)
  pub first : (m : Match) → P m → not_after (pair_at n) (pair (apart f m) m.spot m.prediction) ≡ true

-- The first of some pairs, or nothing where there are none.
abbrev pub BestOf : Frame → (Match → Type 0) → Option Found → Type 0
BestOf f P r = MatchOption r ((m : Match) → P m → ⊥) (FirstOf f P)

-- The pairs of one spot that may be taken.
pub record OfSpot (s : Search) (i : ℕ) (w : List ℕ) (m : Match) : Type 0 where
  pub spot : m.spot ≡ i
  pub takeable : Takeable s w m

-- A spot that is not gone was looked at: the free predictions within its radius are marked as seen, and no other mark was written.
pub record Looked (s : Search) (spot : ℕ) (w w' : List ℕ) : Type 0 where
  pub behind : Behind s w w'
  pub spots : (i : ℕ) → i < s.np → slice_index w' i ≡ slice_index w i
  pub predictions : (j : ℕ) → j < predictions s → let m : Match = record { spot = spot; prediction = j } in
      slice_index w' (s.np + j)
      ≡ cond (not (gone w (s.np + j)) && le (apart (frame_of s) m) s.radius_sq) 2 (slice_index w (s.np + j))

-- After a scan: what was gone is gone, and every pair that could be taken still can be. A spot or a prediction that is in no such pair may have gone.
pub record Sifted (s : Search) (w w' : List ℕ) : Type 0 where
  pub behind : Behind s w w'
  pub gone : (i : ℕ) → i < marks s → gone w i ≡ true → gone w' i ≡ true
  pub free : (m : Match) → Takeable s w m → free s w' m ≡ true

-- The marks of predictions are put right after a scan: what was seen is free, what was not is gone.
pub record Settled (s : Search) (w w' : List ℕ) : Type 0 where
  pub behind : Behind s w w'
  pub spots : (i : ℕ) → i < s.np → slice_index w' i ≡ slice_index w i
  pub predictions : (j : ℕ) → j < predictions s → slice_index w' (s.np + j) ≡ cond (seen w (s.np + j)) 0 1

-- ---- what was taken

-- All matches were taken: so many, and they stand flat behind the marks.
pub record Took (s : Search) (w : List ℕ) (t : ℕ) (w' : List ℕ) : Type 0 where
  pub count : t ≡ length (matches_of s.points.now s.np s.predicted.now s.radius_sq)
  pub matches : drop (marks s) w' ≡ flat (matches_of s.points.now s.np s.predicted.now s.radius_sq) ++ drop (marks s + 2 * t) w
