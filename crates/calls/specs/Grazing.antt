-- A direction whose denominator is the cut: a query lists it, and it is neither predicted nor cached, though in the second round it would fit.
-- Written by tools/rows/rows.py: the values are those of its model, and the check computes every equation. Assumes nothing.
use Rattle.std.specs.Prelude.{◌≡◌, refl, true, false, None, List, [], ◌∷◌, replicate, Float}
use Rattle.rounding.specs.Arith.{f64, zero64, one64}
use Rattle.project.specs.Camera.{boresight, camera_rows}
use Rattle.panel.specs.Points.{points_of}
use Rattle.fit.specs.Rows.{Row, row_of, rows, view_of}
use Rattle.fit.specs.Normal.{no_matches, with_rows, normal_matrix, solved_sums}
use Rattle.residuals.specs.Residual.{residuals, in_front}
use Rattle.solve.specs.Covariance.{covariance_from_normal}
use Rattle.project.specs.Project.{cd_from_theta}
use Rattle.fit.specs.declared.Pose.{Pose}
use Rattle.fit.specs.declared.View.{View}
use Rattle.fit.specs.declared.Counted.{Counted}
use Rattle.entry.specs.Arguments.{Call}
use Rattle.entry.specs.Fixed.{Fixed}
use Rattle.entry.specs.declared.Matcher.TheVariants.{Listing}
use Rattle.passes.specs.Fit.{fit_passes, moved, sound, still}
use Rattle.wcs_refine.specs.Clip.{statistics, clipped}
use Rattle.wcs_refine.specs.Associate.{adaptive_px}
use Rattle.query.specs.Query.{empty, full, axis32, least_cos, scanned, drifted, Prediction, predictions, pruned}
use Rattle.wcs_refine.specs.Round.{State, go, done, associated, compared, ended, loop, round}
use Rattle.wcs_refine.specs.Closing.{sum_squares, root_mean}
use Rattle.wcs_refine.specs.Call.{ok, left, outcome, queries}
use Rattle.rounding.specs.Computed.{arithmetic}
use Rattle.calls.specs.Computed.{checks}
use Rattle.calls.specs.Steps.{Pass, last_pass, next_pass, no_pass, passes_of, Measured, Queried, first_search}
use Rattle.calls.specs.Steps.{whole_round, round_of, go_round, done_round, ran_of}
use Rattle.calls.specs.Steps.{Reused, same_search}
use Rattle.calls.specs.Steps.{no_clip, Reported, report_of, Begun, queried_call, accepted_call}

-- The call's spots.
abbrev spots : List Float
spots =
    f64 0x4024680000000000 ∷ zero64 ∷ one64
    ∷ f64 0xC020700000000000 ∷ f64 0x4010600000000000 ∷ one64
    ∷ f64 0x4000200000000000 ∷ f64 0x4026880000000000 ∷ one64
    ∷ f64 0xC008E00000000000 ∷ f64 0xC024780000000000 ∷ one64
    ∷ f64 0x40AF000000000000 ∷ zero64 ∷ one64
    ∷ []

-- The call's directions.
abbrev directions : List Float
directions =
    one64 ∷ f64 0x3F847AE140000000 ∷ zero64
    ∷ one64 ∷ f64 0xBF80624DE0000000 ∷ f64 0x3F70624DE0000000
    ∷ one64 ∷ f64 0x3F60624DE0000000 ∷ f64 0x3F86872B00000000
    ∷ one64 ∷ f64 0xBF689374C0000000 ∷ f64 0xBF847AE140000000
    ∷ f64 0x3FD0000000000000 ∷ f64 0x3FEF000000000000 ∷ zero64
    ∷ []

-- The call, with its lent lists as they come.
abbrev pub grazing_call : Call
grazing_call = record {
  spots = spots;
  directions = directions;
  given = record {
    matches = 4 ∷ 4 ∷ [];
    rotation =
        (f64 0x8000000000000000 ∷ one64 ∷ zero64 ∷ [])
        ∷ (zero64 ∷ f64 0x8000000000000000 ∷ one64 ∷ [])
        ∷ (one64 ∷ zero64 ∷ zero64 ∷ [])
        ∷ [];
    scale = f64 0x3F50000000000000;
    mirror = false;
    radius = f64 0x3F50624DE0000000;
    cut = f64 0x3FD0000000000000;
    limit = 5;
    rounds = 3;
    matcher = Listing;
    lent = record {
      numbers = replicate 176 7;
      floats = replicate 176 one64;
      distances = replicate 64 one64;
      indices = replicate 128 5;
      result = 31 ∷ 32 ∷ 33 ∷ 34 ∷ 35 ∷ 36 ∷ 37 ∷ 38 ∷ 39 ∷ 40 ∷ 41 ∷ 42 ∷ [];
    };
  };
}

-- ---- what its run starts from

abbrev k : Fixed
k = record {
  scale = f64 0x3F50000000000000;
  mirror = false;
  radius = f64 0x3F50624DE0000000;
  limit = 5;
  matcher = Listing;
  count = 5;
  capacity = 32;
  cut = f64 0x3FD0000000000000;
  far = f64 0x40AF000000000000;
}

abbrev pose_0 : Pose
pose_0 = record {
  theta = zero64;
  ra = zero64;
  dec = zero64;
  scale = f64 0x3F50000000000000;
}

abbrev state_0 : State
state_0 = record { pose = pose_0; matches = 4 ∷ 4 ∷ []; cache = empty }

begun : Begun grazing_call k state_0
unfolding checks
begun = record { accepted = refl; same = refl; begins = refl }

-- ---- round 1

abbrev rows_1 : List Row
rows_1 =
    row_of (record { px = f64 0x40AF000000000000; py = zero64; weight = one64 }) (f64 0x3FD0000000000000 ∷ f64 0x3FEF000000000000 ∷ zero64 ∷ [])
    ∷ []

looked_1 : rows spots directions (4 ∷ 4 ∷ []) ≡ rows_1
unfolding rows
looked_1 = refl

passes_1 : fit_passes 10 k.cut rows_1 pose_0 ≡ passes_of pose_0 0 true
passes_1 = no_pass 9 k.cut rows_1 pose_0 refl

abbrev view_1 : View
view_1 = record {
  basis =
      (f64 0x8000000000000000 ∷ one64 ∷ zero64 ∷ [])
      ∷ (zero64 ∷ f64 0x8000000000000000 ∷ one64 ∷ [])
      ∷ (one64 ∷ zero64 ∷ zero64 ∷ [])
      ∷ [];
  roll = record { cos_t = one64; sin_t = zero64; ps = f64 0x3F50000000000000 };
  cut = f64 0x3FD0000000000000;
}

abbrev residuals_1 : List Float
residuals_1 = f64 0xBFF0000000000000 ∷ []

measured_1 : Measured k rows_1 pose_0 (4 ∷ 4 ∷ []) view_1 residuals_1
    None
    (4 ∷ 4 ∷ []) (f64 0x3FF0624DE0000000)
unfolding view_of residuals statistics clipped adaptive_px arithmetic
measured_1 = record { view = refl; values = refl; summary = refl; clip = refl; radius = refl }

abbrev centre_1 : List Float
centre_1 = one64 ∷ zero64 ∷ zero64 ∷ []

abbrev camera_1 : List (List Float)
camera_1 =
    (f64 0x8000000000000000 ∷ one64 ∷ zero64 ∷ [])
    ∷ (zero64 ∷ f64 0x8000000000000000 ∷ one64 ∷ [])
    ∷ (one64 ∷ zero64 ∷ zero64 ∷ [])
    ∷ []

abbrev predictions_1 : List Prediction
predictions_1 =
    record { direction = 0; x = f64 0x40247AE140000000; y = zero64 }
    ∷ record { direction = 1; x = f64 0xC020624DE0000000; y = f64 0x4010624DE0000000 }
    ∷ record { direction = 2; x = f64 0x4000624DE0000000; y = f64 0x4026872B00000000 }
    ∷ record { direction = 3; x = f64 0xC0089374C0000000; y = f64 0xC0247AE140000000 }
    ∷ []

abbrev state_1 : State
state_1 = record {
  pose = pose_0;
  matches = 1 ∷ 1 ∷ 2 ∷ 2 ∷ 0 ∷ 0 ∷ 3 ∷ 3 ∷ [];
  cache = full centre_1 pose_0.theta (0 ∷ 1 ∷ 2 ∷ 3 ∷ []);
}

queried_1 : Queried k spots directions pose_0 (4 ∷ 4 ∷ []) (f64 0x3FF0624DE0000000)
    centre_1 (one64 ∷ zero64 ∷ zero64 ∷ []) (f64 0xBFF0000000000000)
    (0 ∷ 1 ∷ 2 ∷ 3 ∷ 4 ∷ []) camera_1 (0 ∷ 1 ∷ 2 ∷ 3 ∷ []) predictions_1 (go state_1) 5
unfolding boresight axis32 least_cos scanned camera_rows pruned predictions points_of associated compared arithmetic
queried_1 = record { centre = refl; narrow = refl; least = refl; scan = refl; camera = refl; cached = refl; places = refl; matcher = refl; counted = refl }

round_1 : round k spots directions state_0 ≡ round_of (go state_1) ((0 ∷ 1 ∷ 2 ∷ 3 ∷ 4 ∷ []) ∷ []) 0 5
round_1 = whole_round k spots directions state_0 looked_1 passes_1 measured_1
    (first_search queried_1)

-- ---- round 2

abbrev rows_2 : List Row
rows_2 =
    row_of (record { px = f64 0xC020700000000000; py = f64 0x4010600000000000; weight = one64 }) (one64 ∷ f64 0xBF80624DE0000000 ∷ f64 0x3F70624DE0000000 ∷ [])
    ∷ row_of (record { px = f64 0x4000200000000000; py = f64 0x4026880000000000; weight = one64 }) (one64 ∷ f64 0x3F60624DE0000000 ∷ f64 0x3F86872B00000000 ∷ [])
    ∷ row_of (record { px = f64 0x4024680000000000; py = zero64; weight = one64 }) (one64 ∷ f64 0x3F847AE140000000 ∷ zero64 ∷ [])
    ∷ row_of (record { px = f64 0xC008E00000000000; py = f64 0xC024780000000000; weight = one64 }) (one64 ∷ f64 0xBF689374C0000000 ∷ f64 0xBF847AE140000000 ∷ [])
    ∷ []

looked_2 : rows spots directions (1 ∷ 1 ∷ 2 ∷ 2 ∷ 0 ∷ 0 ∷ 3 ∷ 3 ∷ []) ≡ rows_2
unfolding rows
looked_2 = refl

abbrev pose_1 : Pose
pose_1 = record {
  theta = f64 0x3F275383F088E3E7;
  ra = f64 0x3F01304D00F1BC2F;
  dec = f64 0xBEB520B30BE0FEAE;
  scale = f64 0x3F50000000000000;
}

abbrev sums_2_1 : Counted
sums_2_1 = record {
  sums = record {
    ata =
        (f64 0x3F3B1CC500000000 ∷ f64 0xBF74800000000000 ∷ f64 0x3F4C800000000000 ∷ [])
        ∷ (f64 0xBF74800000000000 ∷ f64 0x4010000000000000 ∷ zero64 ∷ [])
        ∷ (f64 0x3F4C800000000000 ∷ zero64 ∷ f64 0x4010000000000000 ∷ [])
        ∷ [];
    atb = f64 0xBE789399D0000000 ∷ f64 0x3F21126A00000000 ∷ f64 0xBED47A8000000000 ∷ [];
  };
  n = 4;
}

pass_2_1 : Pass k.cut rows_2 pose_0 view_1 sums_2_1
    (f64 0x3F275383F088E3E7) (f64 0x3F01304D010C2F64) (f64 0xBEB520B30C11CF5E) pose_1 true false
unfolding view_of with_rows no_matches solved_sums moved sound still arithmetic
pass_2_1 = record { enough = refl; view = refl; sums = refl; solution = refl; pose = refl; soundness = refl; stillness = refl }

abbrev pose_2 : Pose
pose_2 = record {
  theta = f64 0x3F275119E84BEA40;
  ra = f64 0x3F01301867E8AE9F;
  dec = f64 0xBEB520ED88B07CC2;
  scale = f64 0x3F50000000000000;
}

abbrev view_2_2 : View
view_2_2 = record {
  basis =
      (f64 0xBF01304D00E48295 ∷ f64 0x3FEFFFFFFFB6232A ∷ zero64 ∷ [])
      ∷ (f64 0x3EB520B30BB03423 ∷ f64 0x3DC6B286044E128D ∷ f64 0x3FEFFFFFFFFFE41A ∷ [])
      ∷ (f64 0x3FEFFFFFFFB60744 ∷ f64 0x3F01304D00E47399 ∷ f64 0xBEB520B30BE0F88A ∷ [])
      ∷ [];
  roll = record { cos_t = f64 0x3FEFFFFFF77F8C30; sin_t = f64 0x3F275383EE780D6A; ps = f64 0x3F50000000000000 };
  cut = f64 0x3FD0000000000000;
}

abbrev sums_2_2 : Counted
sums_2_2 = record {
  sums = record {
    ata =
        (f64 0x3F3B1CC500000000 ∷ f64 0xBF7480298750B696 ∷ f64 0x3F4C7887382B3670 ∷ [])
        ∷ (f64 0xBF7480298750B696 ∷ f64 0x4010000000000000 ∷ zero64 ∷ [])
        ∷ (f64 0x3F4C7887382B3670 ∷ zero64 ∷ f64 0x4010000000000000 ∷ [])
        ∷ [];
    atb = f64 0xBDB85A98530F5000 ∷ f64 0xBE38C0941DA80000 ∷ f64 0xBDF2EAF1EF228000 ∷ [];
  };
  n = 4;
}

pass_2_2 : Pass k.cut rows_2 pose_1 view_2_2 sums_2_2
    (f64 0xBE735041E7CD360C) (f64 0xBE1A4C8486C7E690) (f64 0xBDCD3E67BF0A4EA0) pose_2 true false
unfolding view_of with_rows no_matches solved_sums moved sound still arithmetic
pass_2_2 = record { enough = refl; view = refl; sums = refl; solution = refl; pose = refl; soundness = refl; stillness = refl }

abbrev pose_3 : Pose
pose_3 = record {
  theta = f64 0x3F27511A1A787E01;
  ra = f64 0x3F01301868C20CFE;
  dec = f64 0xBEB520ED870F34EF;
  scale = f64 0x3F50000000000000;
}

abbrev view_2_3 : View
view_2_3 = record {
  basis =
      (f64 0xBF01301867DB757F ∷ f64 0x3FEFFFFFFFB624EF ∷ zero64 ∷ [])
      ∷ (f64 0x3EB520ED887FB2DC ∷ f64 0x3DC6B27F645FA370 ∷ f64 0x3FEFFFFFFFFFE41A ∷ [])
      ∷ (f64 0x3FEFFFFFFFB60907 ∷ f64 0x3F01301867DB6681 ∷ f64 0xBEB520ED88B0769E ∷ [])
      ∷ [];
  roll = record { cos_t = f64 0x3FEFFFFFF7814E9C; sin_t = f64 0x3F275119E63BB7E5; ps = f64 0x3F50000000000000 };
  cut = f64 0x3FD0000000000000;
}

abbrev sums_2_3 : Counted
sums_2_3 = record {
  sums = record {
    ata =
        (f64 0x3F3B1CC4FFFFFFFF ∷ f64 0xBF7480298304F874 ∷ f64 0x3F4C7887FE236AF0 ∷ [])
        ∷ (f64 0xBF7480298304F874 ∷ f64 0x4010000000000000 ∷ zero64 ∷ [])
        ∷ (f64 0x3F4C7887FE236AF0 ∷ zero64 ∷ f64 0x4010000000000000 ∷ [])
        ∷ [];
    atb = f64 0x3D042DBFAE000000 ∷ f64 0x3D53229800000000 ∷ f64 0x3D28333E00000000 ∷ [];
  };
  n = 4;
}

pass_2_3 : Pass k.cut rows_2 pose_2 view_2_3 sums_2_3
    (f64 0x3DB91649E059AC00) (f64 0x3D3B2BCBEF7F9ED1) (f64 0x3CFA147D2963E025) pose_3 true true
unfolding view_of with_rows no_matches solved_sums moved sound still arithmetic
pass_2_3 = record { enough = refl; view = refl; sums = refl; solution = refl; pose = refl; soundness = refl; stillness = refl }

passes_2 : fit_passes 10 k.cut rows_2 pose_0 ≡ passes_of pose_3 3 true
passes_2 = next_pass 9 pass_2_1
    (next_pass 8 pass_2_2
    (last_pass 7 pass_2_3))

abbrev view_2 : View
view_2 = record {
  basis =
      (f64 0xBF01301868B4D3DD ∷ f64 0x3FEFFFFFFFB624EE ∷ zero64 ∷ [])
      ∷ (f64 0x3EB520ED86DE6B09 ∷ f64 0x3DC6B27F63BE6C00 ∷ f64 0x3FEFFFFFFFFFE41A ∷ [])
      ∷ (f64 0x3FEFFFFFFFB60907 ∷ f64 0x3F01301868B4C4E0 ∷ f64 0xBEB520ED870F2ECB ∷ [])
      ∷ [];
  roll = record { cos_t = f64 0x3FEFFFFFF7814E77; sin_t = f64 0x3F27511A18684B99; ps = f64 0x3F50000000000000 };
  cut = f64 0x3FD0000000000000;
}

abbrev residuals_2 : List Float
residuals_2 = f64 0x3EE02603F832E87A ∷ f64 0x3EB177F8C267BE34 ∷ f64 0x3ECB62F22C26CF5E ∷ f64 0x3ED17F4351201602 ∷ []

measured_2 : Measured k rows_2 pose_3 (1 ∷ 1 ∷ 2 ∷ 2 ∷ 0 ∷ 0 ∷ 3 ∷ 3 ∷ []) view_2 residuals_2
    None
    (1 ∷ 1 ∷ 2 ∷ 2 ∷ 0 ∷ 0 ∷ 3 ∷ 3 ∷ []) (f64 0x3FF0624DE0000000)
unfolding view_of residuals statistics clipped adaptive_px arithmetic
measured_2 = record { view = refl; values = refl; summary = refl; clip = refl; radius = refl }

abbrev camera_2 : List (List Float)
camera_2 =
    (f64 0xBF013010B1891A82 ∷ f64 0x3FEFFFFFF73773A8 ∷ f64 0x3F27511A18683745 ∷ [])
    ∷ (f64 0x3EB539F9C3DCFEA4 ∷ f64 0xBF275119BD687D7F ∷ f64 0x3FEFFFFFF7813291 ∷ [])
    ∷ (f64 0x3FEFFFFFFFB60907 ∷ f64 0x3F01301868B4C4E0 ∷ f64 0xBEB520ED870F2ECB ∷ [])
    ∷ []

abbrev predictions_2 : List Prediction
predictions_2 =
    record { direction = 0; x = f64 0x402469B0B998A825; y = f64 0xBF413CF1BF2892EB }
    ∷ record { direction = 1; x = f64 0xC020731EB4AC3423; y = f64 0x4010651FCAAE972F }
    ∷ record { direction = 2; x = f64 0x400021A81ABBEC27; y = f64 0x402687A4F5C3239A }
    ∷ record { direction = 3; x = f64 0xC008DBF02E6DBC5D; y = f64 0xC02479EFE7537291 }
    ∷ []

abbrev state_2 : State
state_2 = record {
  pose = pose_3;
  matches = 1 ∷ 1 ∷ 2 ∷ 2 ∷ 0 ∷ 0 ∷ 3 ∷ 3 ∷ [];
  cache = full centre_1 pose_0.theta (0 ∷ 1 ∷ 2 ∷ 3 ∷ []);
}

reused_2 : Reused k spots directions pose_3 (1 ∷ 1 ∷ 2 ∷ 2 ∷ 0 ∷ 0 ∷ 3 ∷ 3 ∷ []) (f64 0x3FF0624DE0000000)
    centre_1 pose_0.theta (0 ∷ 1 ∷ 2 ∷ 3 ∷ [])
    camera_2 predictions_2 (done state_2) 5
unfolding drifted camera_rows predictions points_of associated compared arithmetic
reused_2 = record { near = refl; camera = refl; places = refl; matcher = refl; counted = refl }

round_2 : round k spots directions state_1 ≡ round_of (done state_2) [] 3 5
round_2 = whole_round k spots directions state_1 looked_2 passes_2 measured_2
    (same_search reused_2)

run : loop k spots directions 3 state_0 ≡ ran_of (ended state_2) 2 3 ((0 ∷ 1 ∷ 2 ∷ 3 ∷ 4 ∷ []) ∷ []) 5
run = go_round k spots directions 2 state_0 round_1 (done_round k spots directions 1 state_1 round_2)

-- ---- the whole call

-- What each of its queries lists.
pub grazing_listed : queries grazing_call ≡ (0 ∷ 1 ∷ 2 ∷ 3 ∷ 4 ∷ []) ∷ []
grazing_listed = queried_call begun run

looked_last : rows spots directions (1 ∷ 1 ∷ 2 ∷ 2 ∷ 0 ∷ 0 ∷ 3 ∷ 3 ∷ []) ≡ rows_2
unfolding rows
looked_last = refl

abbrev normal : Counted
normal = record {
  sums = record {
    ata =
        (f64 0x3F3B1CC4FFFFFFFF ∷ f64 0xBF748029830551BE ∷ f64 0x3F4C7887FE135874 ∷ [])
        ∷ (f64 0xBF748029830551BE ∷ f64 0x4010000000000000 ∷ zero64 ∷ [])
        ∷ (f64 0x3F4C7887FE135874 ∷ zero64 ∷ f64 0x4010000000000000 ∷ [])
        ∷ [];
    atb = zero64 ∷ zero64 ∷ zero64 ∷ [];
  };
  n = 4;
}

abbrev matrix : List (List Float)
matrix =
    (f64 0x3F4FFFFFF7814E77 ∷ f64 0xBE87511A18684B99 ∷ [])
    ∷ (f64 0x3E87511A18684B99 ∷ f64 0x3F4FFFFFF7814E77 ∷ [])
    ∷ []

abbrev spread : List (List Float)
spread =
    (f64 0x3E67513A518EBD6C ∷ f64 0x3DCDE04F379521A6 ∷ f64 0xBDA4BEE6B9DF9E55 ∷ [])
    ∷ (f64 0x3DCDE04F379521A6 ∷ f64 0x3D93BF312E291492 ∷ f64 0xBD0A94CD7137A5E1 ∷ [])
    ∷ (f64 0xBDA4BEE6B9DF9E55 ∷ f64 0xBD0A94CD7137A5E1 ∷ f64 0x3D9374F06DE181BD ∷ [])
    ∷ []

reported : Reported k pose_3 rows_2 view_2 residuals_2
    (f64 0x3DD84F4A3A2CB460) normal matrix (f64 0x3ED3B8D23AFBB369) spread
unfolding view_of residuals in_front sum_squares normal_matrix cd_from_theta root_mean covariance_from_normal arithmetic
reported = record { view = refl; values = refl; squares = refl; normal = refl; matrix = refl; mean = refl; spread = refl }

-- What it comes to.
pub grazing_row : outcome grazing_call ≡ record {
  answer = ok (report_of pose_3 matrix (f64 0x3ED3B8D23AFBB369) spread (1 ∷ 1 ∷ 2 ∷ 2 ∷ 0 ∷ 0 ∷ 3 ∷ 3 ∷ [])) 2 3 1 5;
  lent = record {
    numbers = replicate 176 0;
    floats = replicate 176 zero64;
    distances = replicate 64 zero64;
    indices = replicate 128 0;
    result = 1 ∷ 1 ∷ 2 ∷ 2 ∷ 0 ∷ 0 ∷ 3 ∷ 3 ∷ 39 ∷ 40 ∷ 41 ∷ 42 ∷ [];
  };
}
unfolding left
grazing_row = accepted_call begun run
    (no_clip k spots directions 2 pose_3 (1 ∷ 1 ∷ 2 ∷ 2 ∷ 0 ∷ 0 ∷ 3 ∷ 3 ∷ []) refl) looked_last reported
