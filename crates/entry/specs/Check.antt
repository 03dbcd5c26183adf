-- 01, "Refusals in checking order", 5 to 11, and 14 and 17 of 02. Definitions only. Assumes nothing.
use Rattle.std.specs.Prelude.{ℕ, zero, suc, ◌/◌, ◌%◌, Bool, true, cond, ◌&&◌, List, [], ◌∷◌, leb, ltb, eqb, length, Float}
use Rattle.std.specs.Float.Ieee.{neg, le}
use Rattle.rounding.specs.Arith.{f64, one64}
use Rattle.solve.specs.Vector.{entry}
use Rattle.panel.specs.Spots.{spot_numbers, spot_at}
use Rattle.panel.specs.declared.Spot.{Spot}
use Rattle.entry.specs.Arguments.{Call, work_for, result_for}

-- ---- the bounds; ranges include both ends

-- 6. the most spots, starting matches, directions and rounds
abbrev pub most_spots : ℕ
most_spots = 4096

abbrev pub most_matches : ℕ
most_matches = 4096

abbrev pub most_directions : ℕ
most_directions = 65536

abbrev pub most_rounds : ℕ
most_rounds = 64

-- 2^-30, for the scale and the radius, which are at most 1
abbrev pub least : Float
least = f64 0x3E10000000000000

-- 1e-12 and 0.5, for the plane cut
abbrev pub least_cut : Float
least_cut = f64 0x3D719799812DEA11

abbrev pub most_cut : Float
most_cut = f64 0x3FE0000000000000

-- 2^20, for a spot coordinate
abbrev pub far_spot : Float
far_spot = f64 0x4130000000000000

-- 2^-10 and 2^10, for a spot's weight
abbrev pub least_weight : Float
least_weight = f64 0x3F50000000000000

abbrev pub most_weight : Float
most_weight = f64 0x4090000000000000

-- 2, for a component of a direction or an entry of the rotation
abbrev pub long_component : Float
long_component = f64 0x4000000000000000

-- Neither a NaN nor an infinity lies between two numbers.
unfoldable pub between : Float → Float → Float → Bool
between lo x hi = le lo x && le x hi

-- 9: a spot's coordinate, and a direction's component or the rotation's entry, within its range.
abbrev pub lawful_coordinate : Float → Bool
lawful_coordinate x = between (neg far_spot) x far_spot

abbrev pub lawful_component : Float → Bool
lawful_component x = between (neg long_component) x long_component

-- 9, of a spot: its two coordinates. 17, of a spot: its weight.
abbrev pub lawful_place : Spot → Bool
lawful_place s = lawful_coordinate s.px && lawful_coordinate s.py

abbrev pub lawful_weight : Spot → Bool
lawful_weight s = between least_weight s.weight most_weight

-- Each of the spots from i on, k of them.
unfoldable pub every_spot : (Spot → Bool) → List Float → ℕ → ℕ → Bool
unfolding spot_at
every_spot f spots i zero = true
every_spot f spots i (suc k) = f (spot_at spots i) && every_spot f spots (suc i) k

-- Each number of a list.
unfoldable pub every : (Float → Bool) → List Float → Bool
every f [] = true
every f (x ∷ xs) = f x && every f xs

-- ---- the checks, each of what it reads: true where the call passes, and quoted is when it does not

-- 5. "A flat list does not divide evenly: spots by 2, matches by 2, directions by 3": of the lists' lengths. 02, CR 8: "refusal 5 divides spots by 3".
unfoldable pub divides : ℕ → ℕ → ℕ → Bool
divides spots matches directions = eqb (spots % spot_numbers) 0 && eqb (matches % 2) 0 && eqb (directions % 3) 0

-- 6. "There are more than 4,096 spots, 4,096 matches, 65,536 directions or 64 rounds": of the counts.
unfoldable pub few : ℕ → ℕ → ℕ → ℕ → Bool
few s m d rounds = leb s most_spots && leb m most_matches && leb d most_directions && leb rounds most_rounds

-- 7. "The pixel scale (f64, radians per pixel) is not within 2^-30 to 1."
unfoldable pub scale_fits : Float → Bool
unfolding between
scale_fits scale = between least scale one64

-- 8. "The match radius (f32, radians) is not within 2^-30 to 1."
unfoldable pub radius_fits : Float → Bool
unfolding between
radius_fits radius = between least radius one64

-- 14. 02, CR 2: "the cut is not within 1e-12 to 0.5".
unfoldable pub cut_fits : Float → Bool
unfolding between
cut_fits cut = between least_cut cut most_cut

-- 9, of the rotation's nine entries.
unfoldable pub rotation_fits : List (List Float) → Bool
rotation_fits m =
    lawful_component (entry m 0 0) && lawful_component (entry m 0 1) && lawful_component (entry m 0 2)
    && lawful_component (entry m 1 0) && lawful_component (entry m 1 1) && lawful_component (entry m 1 2)
    && lawful_component (entry m 2 0) && lawful_component (entry m 2 1) && lawful_component (entry m 2 2)

-- 9. "A spot coordinate (f64) is not within ±2^20, or a direction component or rotation entry (f32) not within ±2." A weight is no coordinate.
unfoldable pub numbers_fit : List Float → List Float → List (List Float) → Bool
unfolding every_spot every rotation_fits between
numbers_fit spots directions rotation =
    every_spot lawful_place spots 0 (length spots / spot_numbers) && every lawful_component directions
    && rotation_fits rotation

-- 17. 02, CR 8: "a weight is outside its range", which is "from 2^-10 to 2^10".
unfoldable pub weights_fit : List Float → Bool
unfolding every_spot between
weights_fit spots = every_spot lawful_weight spots 0 (length spots / spot_numbers)

-- 10. "A starting match names a spot or direction that is not in its list": of s spots and d directions.
unfoldable pub named : ℕ → ℕ → List ℕ → Bool
named s d [] = true
named s d (i ∷ []) = true
named s d (i ∷ j ∷ ms) = ltb i s && ltb j d && named s d ms

-- 11. A working list or the result list is too short: of the counts, the matching limit, and the lengths of the three lists.
unfoldable pub long : ℕ → ℕ → ℕ → ℕ → ℕ → ℕ → ℕ → Bool
long s m d limit numbers floats result =
    leb (work_for s m d) numbers && leb (work_for s m d) floats && leb (result_for s m limit) result

-- ---- the checks in stages, by what they look at: the number of the first that fails, or 0

-- 5 and 6: the counts, from the lists' lengths.
unfoldable pub counts_refused : ℕ → ℕ → ℕ → ℕ → ℕ
unfolding divides few
counts_refused spots matches directions rounds =
    cond (divides spots matches directions) (cond (few (spots / spot_numbers) (matches / 2) (directions / 3) rounds) 0 6) 5

-- 7, 8 and 14, which is "checked after 8": the measures.
unfoldable pub measures_refused : Float → Float → Float → ℕ
unfolding scale_fits radius_fits cut_fits
measures_refused scale radius cut = cond (scale_fits scale) (cond (radius_fits radius) (cond (cut_fits cut) 0 14) 8) 7

-- 9: the numbers.
unfoldable pub numbers_refused : List Float → List Float → List (List Float) → ℕ
unfolding numbers_fit
numbers_refused spots directions rotation = cond (numbers_fit spots directions rotation) 0 9

-- 17, which is "checked after 9": the weights.
unfoldable pub weights_refused : List Float → ℕ
unfolding weights_fit
weights_refused spots = cond (weights_fit spots) 0 17

-- 10 and 11: what the matches name, and the room, with s spots and d directions.
unfoldable pub names_refused : List ℕ → ℕ → ℕ → ℕ → ℕ → ℕ → ℕ → ℕ
unfolding named long
names_refused matches s d limit numbers floats result =
    cond (named s d matches) (cond (long s (length matches / 2) d limit numbers floats result) 0 11) 10

-- What the first of two stages refuses with, or else the second.
unfoldable pub or_else : ℕ → ℕ → ℕ
or_else zero b = b
or_else (suc a) b = suc a

-- "Refusals in checking order": the number of the first check that fails, or 0. Of the lent lists only the lengths count.
unfoldable pub refusal_of :
    List Float → List ℕ → List Float → List (List Float) → Float → Float → Float → ℕ → ℕ → ℕ → ℕ → ℕ → ℕ
unfolding or_else counts_refused measures_refused numbers_refused weights_refused names_refused
refusal_of spots matches directions rotation scale radius cut limit rounds numbers floats result =
    or_else (counts_refused (length spots) (length matches) (length directions) rounds)
    (or_else (measures_refused scale radius cut)
    (or_else (numbers_refused spots directions rotation)
    (or_else (weights_refused spots)
    (names_refused matches (length spots / spot_numbers) (length directions / 3) limit numbers floats result))))

-- The same of a call: the number of its refusal on entry, or 0.
unfoldable pub refusal : Call → ℕ
unfolding refusal_of
refusal c =
    refusal_of c.spots c.given.matches c.directions c.given.rotation c.given.scale c.given.radius
    c.given.cut c.given.limit c.given.rounds
    (length c.given.lent.numbers) (length c.given.lent.floats) (length c.given.lent.result)
