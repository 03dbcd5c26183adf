-- More pairs within the radius than the candidate lists hold: refusal 13.
-- Written by tools/rows/rows.py: the values are those of its model, and the check computes every equation. Assumes nothing.
use Rattle.std.specs.Prelude.{◌≡◌, refl, true, false, None, List, [], ◌∷◌, replicate, Float}
use Rattle.rounding.specs.Arith.{f64, zero64, one64}
use Rattle.project.specs.Camera.{boresight, camera_rows}
use Rattle.panel.specs.Points.{points_of}
use Rattle.fit.specs.Rows.{Row, rows, view_of}
use Rattle.residuals.specs.Residual.{residuals}
use Rattle.fit.specs.declared.Pose.{Pose}
use Rattle.fit.specs.declared.View.{View}
use Rattle.entry.specs.Arguments.{Call}
use Rattle.entry.specs.Fixed.{Fixed}
use Rattle.entry.specs.declared.Matcher.TheVariants.{Listing}
use Rattle.passes.specs.Fit.{fit_passes}
use Rattle.wcs_refine.specs.Clip.{statistics, clipped}
use Rattle.wcs_refine.specs.Associate.{adaptive_px}
use Rattle.query.specs.Query.{empty, axis32, least_cos, scanned, Prediction, predictions, pruned}
use Rattle.wcs_refine.specs.Round.{State, refuse, associated, compared, refused, loop, round}
use Rattle.wcs_refine.specs.Call.{no, left, outcome, queries}
use Rattle.rounding.specs.Computed.{arithmetic}
use Rattle.calls.specs.Computed.{checks}
use Rattle.calls.specs.Steps.{no_pass, passes_of, Measured, Queried, first_search}
use Rattle.calls.specs.Steps.{whole_round, round_of, refused_round, ran_of}
use Rattle.calls.specs.Steps.{Begun, queried_call, refused_call}

-- The call's spots.
abbrev spots : List Float
spots =
    f64 0x4024700000000000 ∷ f64 0xBFE4800000000000 ∷ f64 0x4008000000000000
    ∷ f64 0xC01FB00000000000 ∷ f64 0x4012600000000000 ∷ f64 0x3FE0000000000000
    ∷ f64 0x4006000000000000 ∷ f64 0x4026380000000000 ∷ one64
    ∷ f64 0xC00DA00000000000 ∷ f64 0xC024100000000000 ∷ f64 0x4010000000000000
    ∷ f64 0x404E000000000000 ∷ zero64 ∷ f64 0x3F50000000000000
    ∷ []

-- The call's directions.
abbrev directions : List Float
directions =
    one64 ∷ f64 0x3F847AE140000000 ∷ zero64
    ∷ one64 ∷ f64 0xBF80624DE0000000 ∷ f64 0x3F70624DE0000000
    ∷ one64 ∷ f64 0x3F60624DE0000000 ∷ f64 0x3F86872B00000000
    ∷ one64 ∷ f64 0xBF689374C0000000 ∷ f64 0xBF847AE140000000
    ∷ []

-- The call, with its lent lists as they come.
abbrev pub many_pairs_call : Call
many_pairs_call = record {
  spots = spots;
  directions = directions;
  given = record {
    matches = [];
    rotation =
        (f64 0x8000000000000000 ∷ one64 ∷ zero64 ∷ [])
        ∷ (zero64 ∷ f64 0x8000000000000000 ∷ one64 ∷ [])
        ∷ (one64 ∷ zero64 ∷ zero64 ∷ [])
        ∷ [];
    scale = f64 0x3F50000000000000;
    mirror = false;
    radius = f64 0x3F9EB851E0000000;
    cut = f64 0x3D719799812DEA11;
    limit = 5;
    rounds = 2;
    matcher = Listing;
    lent = record {
      numbers = replicate 144 7;
      floats = replicate 144 one64;
      distances = replicate 16 one64;
      indices = replicate 16 5;
      result = 31 ∷ 32 ∷ 33 ∷ 34 ∷ 35 ∷ 36 ∷ 37 ∷ 38 ∷ 39 ∷ 40 ∷ 41 ∷ 42 ∷ [];
    };
  };
}

-- ---- what its run starts from

abbrev k : Fixed
k = record {
  scale = f64 0x3F50000000000000;
  mirror = false;
  radius = f64 0x3F9EB851E0000000;
  limit = 5;
  matcher = Listing;
  count = 4;
  capacity = 4;
  cut = f64 0x3D719799812DEA11;
  far = f64 0x404E000000000000;
}

abbrev pose_0 : Pose
pose_0 = record {
  theta = zero64;
  ra = zero64;
  dec = zero64;
  scale = f64 0x3F50000000000000;
}

abbrev state_0 : State
state_0 = record { pose = pose_0; matches = []; cache = empty }

begun : Begun many_pairs_call k state_0
unfolding checks
begun = record { accepted = refl; same = refl; begins = refl }

-- ---- round 1

abbrev rows_1 : List Row
rows_1 = []

looked_1 : rows spots directions ([]) ≡ rows_1
unfolding rows
looked_1 = refl

passes_1 : fit_passes 10 k.cut rows_1 pose_0 ≡ passes_of pose_0 0 true
passes_1 = no_pass 9 k.cut rows_1 pose_0 refl

abbrev view_1 : View
view_1 = record {
  basis =
      (f64 0x8000000000000000 ∷ one64 ∷ zero64 ∷ [])
      ∷ (zero64 ∷ f64 0x8000000000000000 ∷ one64 ∷ [])
      ∷ (one64 ∷ zero64 ∷ zero64 ∷ [])
      ∷ [];
  roll = record { cos_t = one64; sin_t = zero64; ps = f64 0x3F50000000000000 };
  cut = f64 0x3D719799812DEA11;
}

abbrev residuals_1 : List Float
residuals_1 = []

measured_1 : Measured k rows_1 pose_0 ([]) view_1 residuals_1
    None
    ([]) (f64 0x403EB851E0000000)
unfolding view_of residuals statistics clipped adaptive_px arithmetic
measured_1 = record { view = refl; values = refl; summary = refl; clip = refl; radius = refl }

abbrev centre_1 : List Float
centre_1 = one64 ∷ zero64 ∷ zero64 ∷ []

abbrev camera_1 : List (List Float)
camera_1 =
    (f64 0x8000000000000000 ∷ one64 ∷ zero64 ∷ [])
    ∷ (zero64 ∷ f64 0x8000000000000000 ∷ one64 ∷ [])
    ∷ (one64 ∷ zero64 ∷ zero64 ∷ [])
    ∷ []

abbrev predictions_1 : List Prediction
predictions_1 =
    record { direction = 0; x = f64 0x40247AE140000000; y = zero64 }
    ∷ record { direction = 1; x = f64 0xC020624DE0000000; y = f64 0x4010624DE0000000 }
    ∷ record { direction = 2; x = f64 0x4000624DE0000000; y = f64 0x4026872B00000000 }
    ∷ record { direction = 3; x = f64 0xC0089374C0000000; y = f64 0xC0247AE140000000 }
    ∷ []

queried_1 : Queried k spots directions pose_0 ([]) (f64 0x403EB851E0000000)
    centre_1 (one64 ∷ zero64 ∷ zero64 ∷ []) (f64 0x3FEFA693C0000000)
    (0 ∷ 1 ∷ 2 ∷ 3 ∷ []) camera_1 (0 ∷ 1 ∷ 2 ∷ 3 ∷ []) predictions_1 (refuse 13) 0
unfolding boresight axis32 least_cos scanned camera_rows pruned predictions points_of associated compared arithmetic
queried_1 = record { centre = refl; narrow = refl; least = refl; scan = refl; camera = refl; cached = refl; places = refl; matcher = refl; counted = refl }

round_1 : round k spots directions state_0 ≡ round_of (refuse 13) ((0 ∷ 1 ∷ 2 ∷ 3 ∷ []) ∷ []) 0 0
round_1 = whole_round k spots directions state_0 looked_1 passes_1 measured_1
    (first_search queried_1)

run : loop k spots directions 2 state_0 ≡ ran_of (refused 13) 1 0 ((0 ∷ 1 ∷ 2 ∷ 3 ∷ []) ∷ []) 0
run = refused_round k spots directions 1 state_0 round_1

-- ---- the whole call

-- What each of its queries lists.
pub many_pairs_listed : queries many_pairs_call ≡ (0 ∷ 1 ∷ 2 ∷ 3 ∷ []) ∷ []
many_pairs_listed = queried_call begun run

-- What it comes to.
pub many_pairs_row : outcome many_pairs_call ≡ record {
  answer = no 13;
  lent = record {
    numbers = replicate 144 0;
    floats = replicate 144 zero64;
    distances = replicate 16 zero64;
    indices = replicate 16 0;
    result = 31 ∷ 32 ∷ 33 ∷ 34 ∷ 35 ∷ 36 ∷ 37 ∷ 38 ∷ 39 ∷ 40 ∷ 41 ∷ 42 ∷ [];
  };
}
unfolding left
many_pairs_row = refused_call begun run
