-- The head of a record: the numbers before its three lists. The place of each is named here and nowhere else. Definitions only. Assumes nothing.
use Rattle.std.specs.Prelude.{ℕ, List, ◌∷◌, get_or, drop, replicate}
use Rattle.record.specs.Layout.{Exposure}

-- ---- the places, from 0

-- 01: "the counts of spots, matches and directions (32 bits each)"
abbrev pub head_spots : ℕ
head_spots = 0

abbrev pub head_matches : ℕ
head_matches = 1

abbrev pub head_directions : ℕ
head_directions = 2

-- "mirror (1 bit, 1 is `parity_flip`); scale bits (64); radius bits (32)"
abbrev pub head_mirror : ℕ
head_mirror = 3

abbrev pub head_scale : ℕ
head_scale = 4

abbrev pub head_radius : ℕ
head_radius = 5

-- 02, CR 2: "The record gets the number's 64 bits after the radius": the plane cut.
abbrev pub head_cut : ℕ
head_cut = 6

-- "matching limit (32); rounds (32); nine rotation entries by rows (32 each)": the first of the nine.
abbrev pub head_limit : ℕ
head_limit = 7

abbrev pub head_rounds : ℕ
head_rounds = 8

abbrev pub head_rotation : ℕ
head_rotation = 9

-- How many numbers the head has.
abbrev pub head_size : ℕ
head_size = 18

-- ---- the numbers

-- How many bits each may have, in that order.
abbrev pub head_bits : List ℕ
head_bits = 32 ∷ 32 ∷ 32 ∷ 1 ∷ 64 ∷ 32 ∷ 64 ∷ 32 ∷ 32 ∷ replicate 9 32

-- The number at a place.
abbrev pub place : List ℕ → ℕ → ℕ
place h i = get_or h i 0

-- What a record holds, by its head and its three lists.
abbrev pub exposure : List ℕ → List ℕ → List ℕ → List ℕ → Exposure
exposure h spots matches directions = record {
  mirror = place h head_mirror;
  scale = place h head_scale;
  radius = place h head_radius;
  cut = place h head_cut;
  limit = place h head_limit;
  rounds = place h head_rounds;
  rotation = drop head_rotation h;
  spots = spots;
  matches = matches;
  directions = directions;
}
