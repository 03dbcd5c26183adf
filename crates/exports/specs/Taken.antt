-- The record reader as numbers and lists, for callers in C. Definitions only. Assumes nothing.
use Rattle.std.specs.Prelude.{◌≡◌, ℕ, cond, List, [], ◌∷◌, Float}
use Rattle.solve.specs.Vector.{entry}
use Rattle.record.specs.Header.{Handed, Intake}
use Rattle.exports.specs.Refined.{set_from}

-- The counts of spots, matches and directions, the mirror as 1 or 0, the matching limit, the rounds.
abbrev pub choices : Handed → List ℕ
choices h = h.spots ∷ h.matches ∷ h.directions ∷ cond h.mirror 1 0 ∷ h.limit ∷ h.rounds ∷ []

-- The scale, the radius and the plane cut.
abbrev pub measures : Handed → List Float
measures h = h.scale ∷ h.radius ∷ h.cut ∷ []

-- The rotation by rows.
abbrev pub entries : Handed → List Float
entries h =
    entry h.rotation 0 0 ∷ entry h.rotation 0 1 ∷ entry h.rotation 0 2
    ∷ entry h.rotation 1 0 ∷ entry h.rotation 1 1 ∷ entry h.rotation 1 2
    ∷ entry h.rotation 2 0 ∷ entry h.rotation 2 1 ∷ entry h.rotation 2 2
    ∷ []

-- The number handed back, the lists that the record was read into, and the three lists of the header's values.
pub record TakenTo (i : Intake) (r : ℕ) (spots : List Float) (matches : List ℕ) (directions : List Float)
    (choices_before choices_after : List ℕ) (measures_before measures_after rotation_before rotation_after : List Float)
    : Type 0 where
  pub refusal : r ≡ i.header.refusal
  pub read_spots : spots ≡ i.spots
  pub read_matches : matches ≡ i.matches
  pub read_directions : directions ≡ i.directions
  pub chosen : choices_after ≡ set_from 0 (choices i.header) choices_before
  pub measured : measures_after ≡ set_from 0 (measures i.header) measures_before
  pub turned : rotation_after ≡ set_from 0 (entries i.header) rotation_before
