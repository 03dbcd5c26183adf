-- 01, "Words of demand 3", and the claim. Definitions only; the proof is `proofs/TwoCalls.antt`. Assumes nothing.
use Rattle.std.specs.Prelude.{◌≡◌, ℕ, ◌<◌, ◌≤◌, T, ◌⊎◌, List, [], ◌∷◌, length, Float}
use Rattle.std.specs.Float.Ieee.{le}
use Rattle.panel.specs.Spots.{spot_at}
use Rattle.panel.specs.declared.Spot.{Spot}
use Rattle.fit.specs.Rows.{direction_at}
use Rattle.entry.specs.Arguments.{Call, Lent, spot_count, direction_count}
use Rattle.entry.specs.Check.{lawful_place, lawful_weight, lawful_component, every}
use Rattle.entry.specs.Fixed.{distance}
use Rattle.wcs_refine.specs.Associate.{Link, links}
use Rattle.wcs_refine.specs.Call.{queries, outcome}
use Rattle.wcs_refine.specs.Returned.{Answers}
use Rattle.wcs_refine.specs.declared.WcsRefineResult.{WcsRefineResult}
use Rattle.refusal.specs.declared.Refusal.{Refusal}
use Rattle.std.specs.Prelude.{Result}

-- "Alike: equal list lengths, other arguments equal bit for bit, and lists written to holding the same bits before the call."
pub record Alike (a b : Call) : Type 0 where
  pub spots : length a.spots ≡ length b.spots
  pub directions : length a.directions ≡ length b.directions
  pub given : a.given ≡ b.given

-- "Unchanged: the same bits in both calls", of a spot, its weight among them, and of a direction. A float that is no NaN is determined by its bits,
-- and a lawful number is no NaN.
abbrev pub SpotUnchanged : Call → Call → ℕ → Type 0
SpotUnchanged a b i = spot_at a.spots i ≡ spot_at b.spots i

abbrev pub DirectionUnchanged : Call → Call → ℕ → Type 0
DirectionUnchanged a b j = direction_at a.directions j ≡ direction_at b.directions j

-- A starting match names a spot, a direction.
abbrev pub NamesSpot : ℕ → List Link → Type 0
NamesSpot i [] = ⊥
NamesSpot i (m ∷ ms) = (i ≡ m.spot) ⊎ NamesSpot i ms

abbrev pub NamesDirection : ℕ → List Link → Type 0
NamesDirection j [] = ⊥
NamesDirection j (m ∷ ms) = (j ≡ m.direction) ⊎ NamesDirection j ms

-- A cone query lists a direction, and one of several queries does.
abbrev pub In : ℕ → List ℕ → Type 0
In j [] = ⊥
In j (x ∷ l) = (j ≡ x) ⊎ In j l

abbrev pub Listed : ℕ → List (List ℕ) → Type 0
Listed j [] = ⊥
Listed j (q ∷ qs) = In j q ⊎ Listed j qs

-- "Lawful: each number within its range in the refusals": of a spot, of a direction.
abbrev pub LawfulSpot : Spot → Type 0
LawfulSpot s = T (lawful_place s) × T (lawful_weight s)

abbrev pub LawfulDirection : List Float → Type 0
LawfulDirection v = T (every lawful_component v)

-- "Beyond the limit: the spot's number, from 0, is at least the limit."
abbrev pub Beyond : Call → ℕ → Type 0
Beyond a i = a.given.limit ≤ i

-- "no farther by the run's distance than some unchanged spot"
abbrev pub NoFarther : Call → Call → ℕ → Type 0
NoFarther a b i =
    (k : ℕ) × (k < spot_count a) × SpotUnchanged a b k
    × T (le (distance (spot_at a.spots i)) (distance (spot_at a.spots k)))

-- A direction is unseen in a call when no starting match names it and no cone query of the call lists it.
pub record DirectionUnseen (a : Call) (j : ℕ) : Type 0 where
  pub unnamed : NamesDirection j (links a.given.matches) → ⊥
  pub unlisted : Listed j (queries a) → ⊥
  pub lawful : LawfulDirection (direction_at a.directions j)

-- A spot is unseen in a call when it lies beyond the matching limit, no starting match names it, and it is no farther than some unchanged spot.
pub record SpotUnseen (a b : Call) (i : ℕ) : Type 0 where
  pub beyond : Beyond a i
  pub unnamed : NamesSpot i (links a.given.matches) → ⊥
  pub nearer : NoFarther a b i
  pub lawful : LawfulSpot (spot_at a.spots i)

-- Whatever differs is unseen in both calls.
pub record OnlyUnseen (a b : Call) : Type 0 where
  pub direction : (j : ℕ) → j < direction_count a → (DirectionUnchanged a b j → ⊥)
      → DirectionUnseen a j × DirectionUnseen b j
  pub spot : (i : ℕ) → i < spot_count a → (SpotUnchanged a b i → ⊥) → SpotUnseen a b i × SpotUnseen b a i

-- Demand 3: "give the same refusal or the same answer, every bit and every count, and leave every lent list written to with the same contents".
abbrev pub UnseenChangesNothing : Type 0
UnseenChangesNothing = (a b : Call) → Alike a b → OnlyUnseen a b → outcome a ≡ outcome b

-- The same of the code, whose contract is `Answers`: two such calls hand back the same, and leave every list that they write to alike.
abbrev pub CallsAgree : Type 0
CallsAgree =
    (a b : Call) (r s : Result WcsRefineResult Refusal) (l m : Lent) → Alike a b → OnlyUnseen a b → Answers a r l → Answers b s m
    → (r ≡ s) × (l ≡ m)
