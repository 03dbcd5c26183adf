-- A fit pass that turns the camera past 1,024: refusal 12.
-- Written by tools/rows/rows.py: the values are those of its model, and the check computes every equation. Assumes nothing.
use Rattle.std.specs.Prelude.{◌≡◌, refl, false, List, [], ◌∷◌, replicate, Float}
use Rattle.rounding.specs.Arith.{f64, zero64, one64}
use Rattle.fit.specs.Rows.{Row, row_of, rows, view_of}
use Rattle.fit.specs.Normal.{no_matches, with_rows, solved_sums}
use Rattle.fit.specs.declared.Pose.{Pose}
use Rattle.fit.specs.declared.View.{View}
use Rattle.fit.specs.declared.Counted.{Counted}
use Rattle.entry.specs.Arguments.{Call}
use Rattle.entry.specs.Fixed.{Fixed}
use Rattle.entry.specs.declared.Matcher.TheVariants.{Listing}
use Rattle.passes.specs.Fit.{fit_passes, moved, sound, still}
use Rattle.query.specs.Query.{empty}
use Rattle.wcs_refine.specs.Round.{State, refuse, refused, loop, round}
use Rattle.wcs_refine.specs.Call.{no, left, outcome, queries}
use Rattle.rounding.specs.Computed.{arithmetic}
use Rattle.calls.specs.Computed.{checks}
use Rattle.calls.specs.Steps.{Pass, unsound_pass, passes_of}
use Rattle.calls.specs.Steps.{unsound_round, round_of, refused_round, ran_of}
use Rattle.calls.specs.Steps.{Begun, queried_call, refused_call}

-- The call's spots.
abbrev spots : List Float
spots =
    zero64 ∷ zero64 ∷ f64 0x3F50000000000000
    ∷ f64 0x3EB0000000000000 ∷ zero64 ∷ one64
    ∷ zero64 ∷ f64 0x3EB0000000000000 ∷ f64 0x4090000000000000
    ∷ []

-- The call's directions.
abbrev directions : List Float
directions =
    one64 ∷ f64 0x3F847AE140000000 ∷ zero64
    ∷ one64 ∷ f64 0xBF80624DE0000000 ∷ f64 0x3F70624DE0000000
    ∷ one64 ∷ f64 0x3F60624DE0000000 ∷ f64 0x3F86872B00000000
    ∷ []

-- The call, with its lent lists as they come.
abbrev pub far_turn_call : Call
far_turn_call = record {
  spots = spots;
  directions = directions;
  given = record {
    matches = 0 ∷ 0 ∷ 1 ∷ 1 ∷ 2 ∷ 2 ∷ [];
    rotation =
        (f64 0x8000000000000000 ∷ one64 ∷ zero64 ∷ [])
        ∷ (zero64 ∷ f64 0x8000000000000000 ∷ one64 ∷ [])
        ∷ (one64 ∷ zero64 ∷ zero64 ∷ [])
        ∷ [];
    scale = f64 0x3F50000000000000;
    mirror = false;
    radius = f64 0x3F847AE140000000;
    cut = f64 0x3D719799812DEA11;
    limit = 3;
    rounds = 2;
    matcher = Listing;
    lent = record {
      numbers = replicate 144 7;
      floats = replicate 144 one64;
      distances = replicate 64 one64;
      indices = replicate 128 5;
      result = 31 ∷ 32 ∷ 33 ∷ 34 ∷ 35 ∷ 36 ∷ 37 ∷ 38 ∷ [];
    };
  };
}

-- ---- what its run starts from

abbrev k : Fixed
k = record {
  scale = f64 0x3F50000000000000;
  mirror = false;
  radius = f64 0x3F847AE140000000;
  limit = 3;
  matcher = Listing;
  count = 3;
  capacity = 32;
  cut = f64 0x3D719799812DEA11;
  far = f64 0x3EB0000000000000;
}

abbrev pose_0 : Pose
pose_0 = record {
  theta = zero64;
  ra = zero64;
  dec = zero64;
  scale = f64 0x3F50000000000000;
}

abbrev state_0 : State
state_0 = record { pose = pose_0; matches = 0 ∷ 0 ∷ 1 ∷ 1 ∷ 2 ∷ 2 ∷ []; cache = empty }

begun : Begun far_turn_call k state_0
unfolding checks
begun = record { accepted = refl; same = refl; begins = refl }

-- ---- round 1

abbrev rows_1 : List Row
rows_1 =
    row_of (record { px = zero64; py = zero64; weight = f64 0x3F50000000000000 }) (one64 ∷ f64 0x3F847AE140000000 ∷ zero64 ∷ [])
    ∷ row_of (record { px = f64 0x3EB0000000000000; py = zero64; weight = one64 }) (one64 ∷ f64 0xBF80624DE0000000 ∷ f64 0x3F70624DE0000000 ∷ [])
    ∷ row_of (record { px = zero64; py = f64 0x3EB0000000000000; weight = f64 0x4090000000000000 }) (one64 ∷ f64 0x3F60624DE0000000 ∷ f64 0x3F86872B00000000 ∷ [])
    ∷ []

looked_1 : rows spots directions (0 ∷ 0 ∷ 1 ∷ 1 ∷ 2 ∷ 2 ∷ []) ≡ rows_1
unfolding rows
looked_1 = refl

abbrev pose_1 : Pose
pose_1 = record {
  theta = f64 0xC161643916793000;
  ra = f64 0xBF7A98B97728EE84;
  dec = f64 0x3F868792232CF6AE;
  scale = f64 0x3F50000000000000;
}

abbrev view_1_1 : View
view_1_1 = record {
  basis =
      (f64 0x8000000000000000 ∷ one64 ∷ zero64 ∷ [])
      ∷ (zero64 ∷ f64 0x8000000000000000 ∷ one64 ∷ [])
      ∷ (one64 ∷ zero64 ∷ zero64 ∷ [])
      ∷ [];
  roll = record { cos_t = one64; sin_t = zero64; ps = f64 0x3F50000000000000 };
  cut = f64 0x3D719799812DEA11;
}

abbrev sums_1_1 : Counted
sums_1_1 = record {
  sums = record {
    ata =
        (f64 0x3CD0040000000000 ∷ f64 0xBEB0000000000000 ∷ f64 0x3E10000000000000 ∷ [])
        ∷ (f64 0xBEB0000000000000 ∷ f64 0x4090040100000000 ∷ zero64 ∷ [])
        ∷ (f64 0x3E10000000000000 ∷ zero64 ∷ f64 0x4090040100000000 ∷ [])
        ∷ [];
    atb = f64 0xBE205A1CB9100000 ∷ f64 0x400051F0B0B85000 ∷ f64 0x4026893729BC0000 ∷ [];
  };
  n = 3;
}

pass_1_1 : Pass k.cut rows_1 pose_0 view_1_1 sums_1_1
    (f64 0xC161643916793000) (f64 0xBF7A98D1F68B75BA) (f64 0x3F8687ECD44DBD98) pose_1 false false
unfolding view_of with_rows no_matches solved_sums moved sound still arithmetic
pass_1_1 = record { enough = refl; view = refl; sums = refl; solution = refl; pose = refl; soundness = refl; stillness = refl }

passes_1 : fit_passes 10 k.cut rows_1 pose_0 ≡ passes_of pose_1 1 false
passes_1 = unsound_pass 9 pass_1_1

round_1 : round k spots directions state_0 ≡ round_of (refuse 12) [] 1 0
round_1 = unsound_round k spots directions state_0 looked_1 passes_1

run : loop k spots directions 2 state_0 ≡ ran_of (refused 12) 1 1 [] 0
run = refused_round k spots directions 1 state_0 round_1

-- ---- the whole call

-- What each of its queries lists.
pub far_turn_listed : queries far_turn_call ≡ []
far_turn_listed = queried_call begun run

-- What it comes to.
pub far_turn_row : outcome far_turn_call ≡ record {
  answer = no 12;
  lent = record {
    numbers = replicate 144 0;
    floats = replicate 144 zero64;
    distances = replicate 64 zero64;
    indices = replicate 128 0;
    result = 31 ∷ 32 ∷ 33 ∷ 34 ∷ 35 ∷ 36 ∷ 37 ∷ 38 ∷ [];
  };
}
unfolding left
far_turn_row = refused_call begun run
