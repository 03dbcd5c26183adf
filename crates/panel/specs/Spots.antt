-- A spot of the panel, as it lies in a list. Definitions only. Assumes nothing.
use Rattle.std.specs.Prelude.{ℕ, ◌+◌, ◌*◌, List, get_or, Float}
use Rattle.std.specs.Float.{nan}
use Rattle.panel.specs.declared.Spot.{Spot}

-- 02, CR 8: "A spot becomes three numbers: the two coordinates and a weight", in lists and in the record.
abbrev pub spot_numbers : ℕ
spot_numbers = 3

-- `centroids_px[i]`, and the spot's weight. 01: "`Vec` becomes lent flat lists": spots lie flat, x, y and weight. Past the list's end each number
-- reads as NaN.
unfoldable pub spot_at : List Float → ℕ → Spot
spot_at spots i = record {
  px = get_or spots (spot_numbers * i) nan;
  py = get_or spots (spot_numbers * i + 1) nan;
  weight = get_or spots (spot_numbers * i + 2) nan;
}
