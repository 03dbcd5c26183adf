-- The arguments of a refinement call. Definitions only. Assumes nothing.
use Rattle.std.specs.Prelude.{ℕ, ◌+◌, ◌*◌, ◌/◌, min, max, Bool, List, length, Float}
use Rattle.panel.specs.Spots.{spot_numbers}
use Rattle.entry.specs.declared.Matcher.{Matcher}

-- "Lists written to are all that the call may write, here the result, working and candidate lists": the working lists of whole numbers and of
-- floats, the distances and the indices of the candidate list, and the result list.
pub record Lent : Type 0 where
  pub numbers : List ℕ
  pub floats : List Float
  pub distances : List Float
  pub indices : List ℕ
  pub result : List ℕ

-- The arguments of `wcs_refine` beside spots and directions: starting matches, rotation, pixel scale, `parity_flip`, match radius, plane cut (02, CR 2:
-- "a number given with the call"), matching limit, most rounds, the matcher (CR 7: "The caller chooses the matcher"), and the lent lists.
pub record Given : Type 0 where
  pub matches : List ℕ
  pub rotation : List (List Float)
  pub scale : Float
  pub mirror : Bool
  pub radius : Float
  pub cut : Float
  pub limit : ℕ
  pub rounds : ℕ
  pub matcher : Matcher
  pub lent : Lent

-- A call of `wcs_refine`. Its lists are flat: a spot is x, y and weight, a match a spot and a direction, a direction three components.
pub record Call : Type 0 where
  pub spots : List Float
  pub directions : List Float
  pub given : Given

-- How many spots, starting matches and directions a call has.
abbrev pub spot_count : Call → ℕ
spot_count c = length c.spots / spot_numbers

abbrev pub match_count : Call → ℕ
match_count c = length c.given.matches / 2

abbrev pub direction_count : Call → ℕ
direction_count c = length c.directions / 3

-- 01, refusal 11: the places that a working list must have, "16 × (spots + matches + directions)", for so many of each.
abbrev pub work_for : ℕ → ℕ → ℕ → ℕ
work_for s m d = 16 * (s + m + d)

-- "or the result list than twice the larger of the match count and min(spots, matching limit)"
abbrev pub result_for : ℕ → ℕ → ℕ → ℕ
result_for s m limit = 2 * max m (min s limit)

-- The same of a call: all that it has together, the places of a working list, those of the result list.
abbrev pub total : Call → ℕ
total c = spot_count c + match_count c + direction_count c

abbrev pub work_places : Call → ℕ
work_places c = work_for (spot_count c) (match_count c) (direction_count c)

abbrev pub result_places : Call → ℕ
result_places c = result_for (spot_count c) (match_count c) c.given.limit
