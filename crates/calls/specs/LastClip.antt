-- Two rounds with one query, used up, and a clip with its fit at the closing.
-- Written by tools/rows/rows.py: the values are those of its model, and the check computes every equation. Assumes nothing.
use Rattle.std.specs.Prelude.{◌≡◌, refl, true, false, Some, None, List, [], ◌∷◌, replicate, Float}
use Rattle.rounding.specs.Arith.{f64, zero64, one64}
use Rattle.project.specs.Camera.{boresight, camera_rows}
use Rattle.panel.specs.Points.{points_of}
use Rattle.fit.specs.Rows.{Row, row_of, rows, view_of}
use Rattle.fit.specs.Normal.{no_matches, with_rows, normal_matrix, solved_sums}
use Rattle.residuals.specs.Residual.{residuals, in_front, mad_clip_matches}
use Rattle.solve.specs.Covariance.{covariance_from_normal}
use Rattle.project.specs.Project.{cd_from_theta}
use Rattle.fit.specs.declared.Pose.{Pose}
use Rattle.fit.specs.declared.View.{View}
use Rattle.fit.specs.declared.Counted.{Counted}
use Rattle.entry.specs.Arguments.{Call}
use Rattle.entry.specs.Fixed.{Fixed}
use Rattle.entry.specs.declared.Matcher.TheVariants.{Listing}
use Rattle.passes.specs.Fit.{fit_passes, moved, sound, still}
use Rattle.wcs_refine.specs.Clip.{statistics, clipped, taken}
use Rattle.wcs_refine.specs.Associate.{adaptive_px}
use Rattle.query.specs.Query.{empty, full, axis32, least_cos, scanned, drifted, Prediction, predictions, pruned}
use Rattle.wcs_refine.specs.Round.{State, go, associated, compared, ended, loop, round}
use Rattle.wcs_refine.specs.Closing.{sum_squares, root_mean}
use Rattle.wcs_refine.specs.Call.{ok, left, outcome, queries}
use Rattle.rounding.specs.Computed.{arithmetic}
use Rattle.calls.specs.Computed.{checks}
use Rattle.calls.specs.Steps.{Pass, last_pass, next_pass, no_pass, passes_of, Measured, Queried, first_search}
use Rattle.calls.specs.Steps.{whole_round, round_of, go_round, ran_of}
use Rattle.calls.specs.Steps.{Reused, same_search, no_round, Clipping, Refit, last_clip, next_clip}
use Rattle.calls.specs.Steps.{Reported, report_of, Begun, queried_call, accepted_call}

-- The call's spots.
abbrev spots : List Float
spots =
    f64 0x4024B80000000000 ∷ f64 0xBFB4000000000000 ∷ f64 0x4000000000000000
    ∷ f64 0xC020500000000000 ∷ f64 0x4010200000000000 ∷ f64 0x4008000000000000
    ∷ f64 0x4000200000000000 ∷ f64 0x4026800000000000 ∷ one64
    ∷ f64 0xC009400000000000 ∷ f64 0xC024300000000000 ∷ f64 0x3FE0000000000000
    ∷ f64 0x4022B00000000000 ∷ f64 0x4020200000000000 ∷ one64
    ∷ f64 0xC026980000000000 ∷ f64 0xBFFF400000000000 ∷ f64 0x3FE8000000000000
    ∷ f64 0xBFA0000000000000 ∷ f64 0x4009200000000000 ∷ f64 0x4010000000000000
    ∷ []

-- The call's directions.
abbrev directions : List Float
directions =
    one64 ∷ f64 0x3F847AE140000000 ∷ zero64
    ∷ one64 ∷ f64 0xBF80624DE0000000 ∷ f64 0x3F70624DE0000000
    ∷ one64 ∷ f64 0x3F60624DE0000000 ∷ f64 0x3F86872B00000000
    ∷ one64 ∷ f64 0xBF689374C0000000 ∷ f64 0xBF847AE140000000
    ∷ one64 ∷ f64 0x3F826E9780000000 ∷ f64 0x3F80624DE0000000
    ∷ one64 ∷ f64 0xBF889374C0000000 ∷ f64 0xBF60624DE0000000
    ∷ one64 ∷ zero64 ∷ f64 0x3F689374C0000000
    ∷ []

-- The call, with its lent lists as they come.
abbrev pub last_clip_call : Call
last_clip_call = record {
  spots = spots;
  directions = directions;
  given = record {
    matches = [];
    rotation =
        (f64 0x8000000000000000 ∷ one64 ∷ zero64 ∷ [])
        ∷ (zero64 ∷ f64 0x8000000000000000 ∷ one64 ∷ [])
        ∷ (one64 ∷ zero64 ∷ zero64 ∷ [])
        ∷ [];
    scale = f64 0x3F50000000000000;
    mirror = false;
    radius = f64 0x3F689374C0000000;
    cut = f64 0x3D719799812DEA11;
    limit = 7;
    rounds = 2;
    matcher = Listing;
    lent = record {
      numbers = replicate 224 7;
      floats = replicate 224 one64;
      distances = replicate 64 one64;
      indices = replicate 128 5;
      result = 31 ∷ 32 ∷ 33 ∷ 34 ∷ 35 ∷ 36 ∷ 37 ∷ 38 ∷ 39 ∷ 40 ∷ 41 ∷ 42 ∷ 43 ∷ 44 ∷ 45 ∷ 46 ∷ [];
    };
  };
}

-- ---- what its run starts from

abbrev k : Fixed
k = record {
  scale = f64 0x3F50000000000000;
  mirror = false;
  radius = f64 0x3F689374C0000000;
  limit = 7;
  matcher = Listing;
  count = 7;
  capacity = 32;
  cut = f64 0x3D719799812DEA11;
  far = f64 0x4028AEC8E1A89CEC;
}

abbrev pose_0 : Pose
pose_0 = record {
  theta = zero64;
  ra = zero64;
  dec = zero64;
  scale = f64 0x3F50000000000000;
}

abbrev state_0 : State
state_0 = record { pose = pose_0; matches = []; cache = empty }

begun : Begun last_clip_call k state_0
unfolding checks
begun = record { accepted = refl; same = refl; begins = refl }

-- ---- round 1

abbrev rows_1 : List Row
rows_1 = []

looked_1 : rows spots directions ([]) ≡ rows_1
unfolding rows
looked_1 = refl

passes_1 : fit_passes 10 k.cut rows_1 pose_0 ≡ passes_of pose_0 0 true
passes_1 = no_pass 9 k.cut rows_1 pose_0 refl

abbrev view_1 : View
view_1 = record {
  basis =
      (f64 0x8000000000000000 ∷ one64 ∷ zero64 ∷ [])
      ∷ (zero64 ∷ f64 0x8000000000000000 ∷ one64 ∷ [])
      ∷ (one64 ∷ zero64 ∷ zero64 ∷ [])
      ∷ [];
  roll = record { cos_t = one64; sin_t = zero64; ps = f64 0x3F50000000000000 };
  cut = f64 0x3D719799812DEA11;
}

abbrev residuals_1 : List Float
residuals_1 = []

measured_1 : Measured k rows_1 pose_0 ([]) view_1 residuals_1
    None
    ([]) (f64 0x40089374C0000000)
unfolding view_of residuals statistics clipped adaptive_px arithmetic
measured_1 = record { view = refl; values = refl; summary = refl; clip = refl; radius = refl }

abbrev centre_1 : List Float
centre_1 = one64 ∷ zero64 ∷ zero64 ∷ []

abbrev camera_1 : List (List Float)
camera_1 =
    (f64 0x8000000000000000 ∷ one64 ∷ zero64 ∷ [])
    ∷ (zero64 ∷ f64 0x8000000000000000 ∷ one64 ∷ [])
    ∷ (one64 ∷ zero64 ∷ zero64 ∷ [])
    ∷ []

abbrev predictions_1 : List Prediction
predictions_1 =
    record { direction = 0; x = f64 0x40247AE140000000; y = zero64 }
    ∷ record { direction = 1; x = f64 0xC020624DE0000000; y = f64 0x4010624DE0000000 }
    ∷ record { direction = 2; x = f64 0x4000624DE0000000; y = f64 0x4026872B00000000 }
    ∷ record { direction = 3; x = f64 0xC0089374C0000000; y = f64 0xC0247AE140000000 }
    ∷ record { direction = 4; x = f64 0x40226E9780000000; y = f64 0x4020624DE0000000 }
    ∷ record { direction = 5; x = f64 0xC0289374C0000000; y = f64 0xC000624DE0000000 }
    ∷ record { direction = 6; x = zero64; y = f64 0x40089374C0000000 }
    ∷ []

abbrev state_1 : State
state_1 = record {
  pose = pose_0;
  matches = 2 ∷ 2 ∷ 1 ∷ 1 ∷ 6 ∷ 6 ∷ 0 ∷ 0 ∷ 3 ∷ 3 ∷ 4 ∷ 4 ∷ 5 ∷ 5 ∷ [];
  cache = full centre_1 pose_0.theta (0 ∷ 1 ∷ 2 ∷ 3 ∷ 4 ∷ 5 ∷ 6 ∷ []);
}

queried_1 : Queried k spots directions pose_0 ([]) (f64 0x40089374C0000000)
    centre_1 (one64 ∷ zero64 ∷ zero64 ∷ []) (f64 0x3FEFFDA020000000)
    (0 ∷ 1 ∷ 2 ∷ 3 ∷ 4 ∷ 5 ∷ 6 ∷ []) camera_1 (0 ∷ 1 ∷ 2 ∷ 3 ∷ 4 ∷ 5 ∷ 6 ∷ []) predictions_1 (go state_1) 12
unfolding boresight axis32 least_cos scanned camera_rows pruned predictions points_of associated compared arithmetic
queried_1 = record { centre = refl; narrow = refl; least = refl; scan = refl; camera = refl; cached = refl; places = refl; matcher = refl; counted = refl }

round_1 : round k spots directions state_0 ≡ round_of (go state_1) ((0 ∷ 1 ∷ 2 ∷ 3 ∷ 4 ∷ 5 ∷ 6 ∷ []) ∷ []) 0 12
round_1 = whole_round k spots directions state_0 looked_1 passes_1 measured_1
    (first_search queried_1)

-- ---- round 2

abbrev rows_2 : List Row
rows_2 =
    row_of (record { px = f64 0x4000200000000000; py = f64 0x4026800000000000; weight = one64 }) (one64 ∷ f64 0x3F60624DE0000000 ∷ f64 0x3F86872B00000000 ∷ [])
    ∷ row_of (record { px = f64 0xC020500000000000; py = f64 0x4010200000000000; weight = f64 0x4008000000000000 }) (one64 ∷ f64 0xBF80624DE0000000 ∷ f64 0x3F70624DE0000000 ∷ [])
    ∷ row_of (record { px = f64 0xBFA0000000000000; py = f64 0x4009200000000000; weight = f64 0x4010000000000000 }) (one64 ∷ zero64 ∷ f64 0x3F689374C0000000 ∷ [])
    ∷ row_of (record { px = f64 0x4024B80000000000; py = f64 0xBFB4000000000000; weight = f64 0x4000000000000000 }) (one64 ∷ f64 0x3F847AE140000000 ∷ zero64 ∷ [])
    ∷ row_of (record { px = f64 0xC009400000000000; py = f64 0xC024300000000000; weight = f64 0x3FE0000000000000 }) (one64 ∷ f64 0xBF689374C0000000 ∷ f64 0xBF847AE140000000 ∷ [])
    ∷ row_of (record { px = f64 0x4022B00000000000; py = f64 0x4020200000000000; weight = one64 }) (one64 ∷ f64 0x3F826E9780000000 ∷ f64 0x3F80624DE0000000 ∷ [])
    ∷ row_of (record { px = f64 0xC026980000000000; py = f64 0xBFFF400000000000; weight = f64 0x3FE8000000000000 }) (one64 ∷ f64 0xBF889374C0000000 ∷ f64 0xBF60624DE0000000 ∷ [])
    ∷ []

looked_2 : rows spots directions (2 ∷ 2 ∷ 1 ∷ 1 ∷ 6 ∷ 6 ∷ 0 ∷ 0 ∷ 3 ∷ 3 ∷ 4 ∷ 4 ∷ 5 ∷ 5 ∷ []) ≡ rows_2
unfolding rows
looked_2 = refl

abbrev pose_1 : Pose
pose_1 = record {
  theta = f64 0xBF55F5C56B8B2F36;
  ra = f64 0xBF164F7B92FD5D44;
  dec = f64 0x3ED800397879DD93;
  scale = f64 0x3F50000000000000;
}

abbrev sums_2_1 : Counted
sums_2_1 = record {
  sums = record {
    ata =
        (f64 0x3F4D5EE740000000 ∷ f64 0xBFA2A68000000000 ∷ f64 0xBF64880000000000 ∷ [])
        ∷ (f64 0xBFA2A68000000000 ∷ f64 0x4028800000000000 ∷ zero64 ∷ [])
        ∷ (f64 0xBF64880000000000 ∷ zero64 ∷ f64 0x4028800000000000 ∷ [])
        ∷ [];
    atb = f64 0x3EBF9DB825C00000 ∷ f64 0xBF50481280000000 ∷ f64 0x3F13419B00000000 ∷ [];
  };
  n = 7;
}

pass_2_1 : Pass k.cut rows_2 pose_0 view_1 sums_2_1
    (f64 0xBF55F5C56B8B2F36) (f64 0xBF164F7B93E4B90A) (f64 0x3ED8003979F05288) pose_1 true false
unfolding view_of with_rows no_matches solved_sums moved sound still arithmetic
pass_2_1 = record { enough = refl; view = refl; sums = refl; solution = refl; pose = refl; soundness = refl; stillness = refl }

abbrev pose_2 : Pose
pose_2 = record {
  theta = f64 0xBF55C4C282C7176D;
  ra = f64 0xBF164CE3A72EBE7B;
  dec = f64 0x3ED805B0E7A41155;
  scale = f64 0x3F50000000000000;
}

abbrev view_2_2 : View
view_2_2 = record {
  basis =
      (f64 0x3F164F7B9289AF62 ∷ f64 0x3FEFFFFFFE0E3E16 ∷ zero64 ∷ [])
      ∷ (f64 0xBED800397703F8A1 ∷ f64 0x3E00BBC4BF7A0292 ∷ f64 0x3FEFFFFFFFFDBFF5 ∷ [])
      ∷ (f64 0x3FEFFFFFFE0BFE0A ∷ f64 0xBF164F7B92881DC3 ∷ f64 0x3ED8003978794D8F ∷ [])
      ∷ [];
  roll = record { cos_t = f64 0x3FEFFFFE1DC1AD9E; sin_t = f64 0xBF55F5C4FD3AF353; ps = f64 0x3F50000000000000 };
  cut = f64 0x3D719799812DEA11;
}

abbrev sums_2_2 : Counted
sums_2_2 = record {
  sums = record {
    ata =
        (f64 0x3F4D5EE740000000 ∷ f64 0xBFA2A6EF9E6CE12E ∷ f64 0xBF64219ABDFC4DA8 ∷ [])
        ∷ (f64 0xBFA2A6EF9E6CE12E ∷ f64 0x4028800000000000 ∷ zero64 ∷ [])
        ∷ (f64 0xBF64219ABDFC4DA8 ∷ zero64 ∷ f64 0x4028800000000000 ∷ [])
        ∷ [];
    atb = f64 0x3E437125C222FFA0 ∷ f64 0x3E699DBCE7858000 ∷ f64 0x3E6210E424B2A000 ∷ [];
  };
  n = 7;
}

pass_2_2 : Pass k.cut rows_2 pose_1 view_2_2 sums_2_2
    (f64 0x3EE88174620BE49F) (f64 0x3E64BF5E74F4D457) (f64 0x3E35DDBCA8CF1088) pose_2 true false
unfolding view_of with_rows no_matches solved_sums moved sound still arithmetic
pass_2_2 = record { enough = refl; view = refl; sums = refl; solution = refl; pose = refl; soundness = refl; stillness = refl }

abbrev pose_3 : Pose
pose_3 = record {
  theta = f64 0xBF55C52E2DE34FB3;
  ra = f64 0xBF164CE8CEFA49F2;
  dec = f64 0x3ED805AB5D321666;
  scale = f64 0x3F50000000000000;
}

abbrev view_2_3 : View
view_2_3 = record {
  basis =
      (f64 0x3F164CE3A6BB38EB ∷ f64 0x3FEFFFFFFE0EB1C8 ∷ zero64 ∷ [])
      ∷ (f64 0xBED805B0E62E2DD3 ∷ f64 0x3E00BDA208EF89D3 ∷ f64 0x3FEFFFFFFFFDBEEF ∷ [])
      ∷ (f64 0x3FEFFFFFFE0C70B6 ∷ f64 0xBF164CE3A6B9A6C4 ∷ f64 0x3ED805B0E7A380EF ∷ [])
      ∷ [];
  roll = record { cos_t = f64 0x3FEFFFFE2620E0B1; sin_t = f64 0xBF55C4C217530B26; ps = f64 0x3F50000000000000 };
  cut = f64 0x3D719799812DEA11;
}

abbrev sums_2_3 : Counted
sums_2_3 = record {
  sums = record {
    ata =
        (f64 0x3F4D5EE740000000 ∷ f64 0xBFA2A6EEA7BD1D2C ∷ f64 0xBF64227F487E979A ∷ [])
        ∷ (f64 0xBFA2A6EEA7BD1D2C ∷ f64 0x4028800000000000 ∷ zero64 ∷ [])
        ∷ (f64 0xBF64227F487E979A ∷ zero64 ∷ f64 0x4028800000000000 ∷ [])
        ∷ [];
    atb = f64 0xBDD5AFD4B0657000 ∷ f64 0xBDB964BB58000000 ∷ f64 0xBD607846F0000000 ∷ [];
  };
  n = 7;
}

pass_2_3 : Pass k.cut rows_2 pose_2 view_2_3 sums_2_3
    (f64 0xBE7AEAC70E117BBB) (f64 0xBDF49F2E2DDAE9B7) (f64 0xBDB629C7EBC4B64F) pose_3 true false
unfolding view_of with_rows no_matches solved_sums moved sound still arithmetic
pass_2_3 = record { enough = refl; view = refl; sums = refl; solution = refl; pose = refl; soundness = refl; stillness = refl }

abbrev pose_4 : Pose
pose_4 = record {
  theta = f64 0xBF55C52D4161EF48;
  ra = f64 0xBF164CE8C3A92072;
  dec = f64 0x3ED805AB6970CAF9;
  scale = f64 0x3F50000000000000;
}

abbrev view_2_4 : View
view_2_4 = record {
  basis =
      (f64 0x3F164CE8CE86C412 ∷ f64 0x3FEFFFFFFE0EB0E2 ∷ zero64 ∷ [])
      ∷ (f64 0xBED805AB5BBC328D ∷ f64 0x3E00BDA20B336F7A ∷ f64 0x3FEFFFFFFFFDBEF0 ∷ [])
      ∷ (f64 0x3FEFFFFFFE0C6FD1 ∷ f64 0xBF164CE8CE8531EB ∷ f64 0x3ED805AB5D318600 ∷ [])
      ∷ [];
  roll = record { cos_t = f64 0x3FEFFFFE260E90F0; sin_t = f64 0xBF55C52DC26908E6; ps = f64 0x3F50000000000000 };
  cut = f64 0x3D719799812DEA11;
}

abbrev sums_2_4 : Counted
sums_2_4 = record {
  sums = record {
    ata =
        (f64 0x3F4D5EE740000000 ∷ f64 0xBFA2A6EEA9DB1530 ∷ f64 0xBF64227D526F437E ∷ [])
        ∷ (f64 0xBFA2A6EEA9DB1530 ∷ f64 0x4028800000000000 ∷ zero64 ∷ [])
        ∷ (f64 0xBF64227D526F437E ∷ zero64 ∷ f64 0x4028800000000000 ∷ [])
        ∷ [];
    atb = f64 0x3D67D2227C180000 ∷ f64 0x3D48F66300000000 ∷ f64 0x3D13060000000000 ∷ [];
  };
  n = 7;
}

pass_2_4 : Pass k.cut rows_2 pose_3 view_2_4 sums_2_4
    (f64 0x3E0D902C0D53F460) (f64 0x3D86A2530048E493) (f64 0x3D487D692290E79D) pose_4 true false
unfolding view_of with_rows no_matches solved_sums moved sound still arithmetic
pass_2_4 = record { enough = refl; view = refl; sums = refl; solution = refl; pose = refl; soundness = refl; stillness = refl }

abbrev pose_5 : Pose
pose_5 = record {
  theta = f64 0xBF55C52D43697241;
  ra = f64 0xBF164CE8C3C1FCA7;
  dec = f64 0x3ED805AB6955E6D6;
  scale = f64 0x3F50000000000000;
}

abbrev view_2_5 : View
view_2_5 = record {
  basis =
      (f64 0x3F164CE8C3359A92 ∷ f64 0x3FEFFFFFFE0EB0E4 ∷ zero64 ∷ [])
      ∷ (f64 0xBED805AB67FAE721 ∷ f64 0x3E00BDA20B3D1934 ∷ f64 0x3FEFFFFFFFFDBEF0 ∷ [])
      ∷ (f64 0x3FEFFFFFFE0C6FD3 ∷ f64 0xBF164CE8C334086B ∷ f64 0x3ED805AB69703A93 ∷ [])
      ∷ [];
  roll = record { cos_t = f64 0x3FEFFFFE260EB929; sin_t = f64 0xBF55C52CD5E7B62A; ps = f64 0x3F50000000000000 };
  cut = f64 0x3D719799812DEA11;
}

abbrev sums_2_5 : Counted
sums_2_5 = record {
  sums = record {
    ata =
        (f64 0x3F4D5EE73FFFFFFE ∷ f64 0xBFA2A6EEA9D66EB2 ∷ f64 0xBF64227D56BE17CA ∷ [])
        ∷ (f64 0xBFA2A6EEA9D66EB2 ∷ f64 0x4028800000000000 ∷ zero64 ∷ [])
        ∷ (f64 0xBF64227D56BE17CA ∷ zero64 ∷ f64 0x4028800000000000 ∷ [])
        ∷ [];
    atb = f64 0xBCFA299870000000 ∷ f64 0xBCDB9C8000000000 ∷ f64 0xBCA4480000000000 ∷ [];
  };
  n = 7;
}

pass_2_5 : Pass k.cut rows_2 pose_4 view_2_5 sums_2_5
    (f64 0xBDA03C17C589752F) (f64 0xBD18DC35620D0EF9) (f64 0xBCDAE425576A0998) pose_5 true true
unfolding view_of with_rows no_matches solved_sums moved sound still arithmetic
pass_2_5 = record { enough = refl; view = refl; sums = refl; solution = refl; pose = refl; soundness = refl; stillness = refl }

passes_2 : fit_passes 10 k.cut rows_2 pose_0 ≡ passes_of pose_5 5 true
passes_2 = next_pass 9 pass_2_1
    (next_pass 8 pass_2_2
    (next_pass 7 pass_2_3
    (next_pass 6 pass_2_4
    (last_pass 5 pass_2_5))))

abbrev view_2 : View
view_2 = record {
  basis =
      (f64 0x3F164CE8C34E76C7 ∷ f64 0x3FEFFFFFFE0EB0E4 ∷ zero64 ∷ [])
      ∷ (f64 0xBED805AB67E002FE ∷ f64 0x3E00BDA20B3D054A ∷ f64 0x3FEFFFFFFFFDBEF0 ∷ [])
      ∷ (f64 0x3FEFFFFFFE0C6FD3 ∷ f64 0xBF164CE8C34CE4A0 ∷ f64 0x3ED805AB69555670 ∷ [])
      ∷ [];
  roll = record { cos_t = f64 0x3FEFFFFE260EB8D1; sin_t = f64 0xBF55C52CD7EF3905; ps = f64 0x3F50000000000000 };
  cut = f64 0x3D719799812DEA11;
}

abbrev residuals_2 : List Float
residuals_2 =
    f64 0x3F1AE7BEC2AB59CF
    ∷ f64 0x3F11077336A40568
    ∷ f64 0x3F21742A1ABE7825
    ∷ f64 0x3F17826D0FB1CA79
    ∷ f64 0x3F2EFA95A17AAFB0
    ∷ f64 0x3F229D594CF34989
    ∷ f64 0x3F4D1509207EE474
    ∷ []

measured_2 : Measured k rows_2 pose_5 (2 ∷ 2 ∷ 1 ∷ 1 ∷ 6 ∷ 6 ∷ 0 ∷ 0 ∷ 3 ∷ 3 ∷ 4 ∷ 4 ∷ 5 ∷ 5 ∷ []) view_2 residuals_2
    (Some (record { median = f64 0x3F21742A1ABE7825; sigma = f64 0x3F10E61536F51F70 }))
    (2 ∷ 2 ∷ 1 ∷ 1 ∷ 6 ∷ 6 ∷ 0 ∷ 0 ∷ 3 ∷ 3 ∷ 4 ∷ 4 ∷ []) (f64 0x4004000000000000)
unfolding view_of residuals statistics clipped adaptive_px arithmetic
measured_2 = record { view = refl; values = refl; summary = refl; clip = refl; radius = refl }

abbrev camera_2 : List (List Float)
camera_2 =
    (f64 0x3F164D6A36EDEBAA ∷ f64 0x3FEFFFFE241D530A ∷ f64 0xBF55C52CD7EDB06F ∷ [])
    ∷ (f64 0xBED78C4AF84C4A88 ∷ f64 0x3F55C52D5C89ED6C ∷ f64 0x3FEFFFFE260C77C1 ∷ [])
    ∷ (f64 0x3FEFFFFFFE0C6FD3 ∷ f64 0xBF164CE8C34CE4A0 ∷ f64 0x3ED805AB69555670 ∷ [])
    ∷ []

abbrev predictions_2 : List Prediction
predictions_2 =
    record { direction = 0; x = f64 0x4024A77C0BE7A67F; y = f64 0x3F80178613F0A8B9 }
    ∷ record { direction = 1; x = f64 0xC020387AB747DC3A; y = f64 0x40105143A37E14AA }
    ∷ record { direction = 2; x = f64 0x4000F61155C090DC; y = f64 0x4026859D01C33E4A }
    ∷ record { direction = 3; x = f64 0xC007C52A09517930; y = f64 0xC0247FE85D9F0CEE }
    ∷ record { direction = 4; x = f64 0x4022959F68426820; y = f64 0x402065A13E2BEE97 }
    ∷ record { direction = 5; x = f64 0xC028657233884573; y = f64 0xC0008F8261D917F8 }
    ∷ record { direction = 6; x = f64 0x3FB541E704C3D388; y = f64 0x400887AD28F1F6C4 }
    ∷ []

abbrev state_2 : State
state_2 = record {
  pose = pose_5;
  matches = 1 ∷ 1 ∷ 0 ∷ 0 ∷ 2 ∷ 2 ∷ 6 ∷ 6 ∷ 4 ∷ 4 ∷ 3 ∷ 3 ∷ 5 ∷ 5 ∷ [];
  cache = full centre_1 pose_0.theta (0 ∷ 1 ∷ 2 ∷ 3 ∷ 4 ∷ 5 ∷ 6 ∷ []);
}

reused_2 : Reused k spots directions pose_5 (2 ∷ 2 ∷ 1 ∷ 1 ∷ 6 ∷ 6 ∷ 0 ∷ 0 ∷ 3 ∷ 3 ∷ 4 ∷ 4 ∷ []) (f64 0x4004000000000000)
    centre_1 pose_0.theta (0 ∷ 1 ∷ 2 ∷ 3 ∷ 4 ∷ 5 ∷ 6 ∷ [])
    camera_2 predictions_2 (go state_2) 12
unfolding drifted camera_rows predictions points_of associated compared arithmetic
reused_2 = record { near = refl; camera = refl; places = refl; matcher = refl; counted = refl }

round_2 : round k spots directions state_1 ≡ round_of (go state_2) [] 5 12
round_2 = whole_round k spots directions state_1 looked_2 passes_2 measured_2
    (same_search reused_2)

run : loop k spots directions 2 state_0 ≡ ran_of (ended state_2) 2 5 ((0 ∷ 1 ∷ 2 ∷ 3 ∷ 4 ∷ 5 ∷ 6 ∷ []) ∷ []) 12
run = go_round k spots directions 1 state_0 round_1 (go_round k spots directions 0 state_1 round_2 (no_round k spots directions state_2))

-- ---- the whole call

-- What each of its queries lists.
pub last_clip_listed : queries last_clip_call ≡ (0 ∷ 1 ∷ 2 ∷ 3 ∷ 4 ∷ 5 ∷ 6 ∷ []) ∷ []
last_clip_listed = queried_call begun run

abbrev rows_clip_1 : List Row
rows_clip_1 =
    row_of (record { px = f64 0xC020500000000000; py = f64 0x4010200000000000; weight = f64 0x4008000000000000 }) (one64 ∷ f64 0xBF80624DE0000000 ∷ f64 0x3F70624DE0000000 ∷ [])
    ∷ row_of (record { px = f64 0x4024B80000000000; py = f64 0xBFB4000000000000; weight = f64 0x4000000000000000 }) (one64 ∷ f64 0x3F847AE140000000 ∷ zero64 ∷ [])
    ∷ row_of (record { px = f64 0x4000200000000000; py = f64 0x4026800000000000; weight = one64 }) (one64 ∷ f64 0x3F60624DE0000000 ∷ f64 0x3F86872B00000000 ∷ [])
    ∷ row_of (record { px = f64 0xBFA0000000000000; py = f64 0x4009200000000000; weight = f64 0x4010000000000000 }) (one64 ∷ zero64 ∷ f64 0x3F689374C0000000 ∷ [])
    ∷ row_of (record { px = f64 0x4022B00000000000; py = f64 0x4020200000000000; weight = one64 }) (one64 ∷ f64 0x3F826E9780000000 ∷ f64 0x3F80624DE0000000 ∷ [])
    ∷ row_of (record { px = f64 0xC009400000000000; py = f64 0xC024300000000000; weight = f64 0x3FE0000000000000 }) (one64 ∷ f64 0xBF689374C0000000 ∷ f64 0xBF847AE140000000 ∷ [])
    ∷ row_of (record { px = f64 0xC026980000000000; py = f64 0xBFFF400000000000; weight = f64 0x3FE8000000000000 }) (one64 ∷ f64 0xBF889374C0000000 ∷ f64 0xBF60624DE0000000 ∷ [])
    ∷ []

abbrev residuals_clip_1 : List Float
residuals_clip_1 =
    f64 0x3F11077336A40568
    ∷ f64 0x3F17826D0FB1CA79
    ∷ f64 0x3F1AE7BEC2AB59CF
    ∷ f64 0x3F21742A1ABE7825
    ∷ f64 0x3F229D594CF34989
    ∷ f64 0x3F2EFA95A17AAFB0
    ∷ f64 0x3F4D1509207EE474
    ∷ []

clip_1 : Clipping k spots directions pose_5 (1 ∷ 1 ∷ 0 ∷ 0 ∷ 2 ∷ 2 ∷ 6 ∷ 6 ∷ 4 ∷ 4 ∷ 3 ∷ 3 ∷ 5 ∷ 5 ∷ []) rows_clip_1 view_2 residuals_clip_1
    (record { median = f64 0x3F21742A1ABE7825; sigma = f64 0x3F10E61536F51F70 })
    (Some 6) (1 ∷ 1 ∷ 0 ∷ 0 ∷ 2 ∷ 2 ∷ 6 ∷ 6 ∷ 4 ∷ 4 ∷ 3 ∷ 3 ∷ 5 ∷ 5 ∷ [])
unfolding rows view_of residuals statistics mad_clip_matches arithmetic
clip_1 = record { enough = refl; looked = refl; view = refl; values = refl; summary = refl; clip = refl }

abbrev rows_refit_1 : List Row
rows_refit_1 =
    row_of (record { px = f64 0xC020500000000000; py = f64 0x4010200000000000; weight = f64 0x4008000000000000 }) (one64 ∷ f64 0xBF80624DE0000000 ∷ f64 0x3F70624DE0000000 ∷ [])
    ∷ row_of (record { px = f64 0x4024B80000000000; py = f64 0xBFB4000000000000; weight = f64 0x4000000000000000 }) (one64 ∷ f64 0x3F847AE140000000 ∷ zero64 ∷ [])
    ∷ row_of (record { px = f64 0x4000200000000000; py = f64 0x4026800000000000; weight = one64 }) (one64 ∷ f64 0x3F60624DE0000000 ∷ f64 0x3F86872B00000000 ∷ [])
    ∷ row_of (record { px = f64 0xBFA0000000000000; py = f64 0x4009200000000000; weight = f64 0x4010000000000000 }) (one64 ∷ zero64 ∷ f64 0x3F689374C0000000 ∷ [])
    ∷ row_of (record { px = f64 0x4022B00000000000; py = f64 0x4020200000000000; weight = one64 }) (one64 ∷ f64 0x3F826E9780000000 ∷ f64 0x3F80624DE0000000 ∷ [])
    ∷ row_of (record { px = f64 0xC009400000000000; py = f64 0xC024300000000000; weight = f64 0x3FE0000000000000 }) (one64 ∷ f64 0xBF689374C0000000 ∷ f64 0xBF847AE140000000 ∷ [])
    ∷ []

abbrev sums_refit_1 : Counted
sums_refit_1 = record {
  sums = record {
    ata =
        (f64 0x3F4A4A4C80000000 ∷ f64 0xBFA360FDB7CB9419 ∷ f64 0x3F77D4BD9BFF0BC6 ∷ [])
        ∷ (f64 0xBFA360FDB7CB9419 ∷ f64 0x4027000000000000 ∷ zero64 ∷ [])
        ∷ (f64 0x3F77D4BD9BFF0BC6 ∷ zero64 ∷ f64 0x4027000000000000 ∷ [])
        ∷ [];
    atb = f64 0x3E95140BB75F361C ∷ f64 0x3F45A24D940EF0F8 ∷ f64 0x3F16395B33E1FC28 ∷ [];
  };
  n = 6;
}

abbrev pose_6 : Pose
pose_6 = record {
  theta = f64 0x3F62C959497A1118;
  ra = f64 0xBEF080B11847A8AC;
  dec = f64 0x3EE7A0D96FB14CE7;
  scale = f64 0x3F50000000000000;
}

kept_1 : taken (Some 6) (1 ∷ 1 ∷ 0 ∷ 0 ∷ 2 ∷ 2 ∷ 6 ∷ 6 ∷ 4 ∷ 4 ∷ 3 ∷ 3 ∷ 5 ∷ 5 ∷ [])
    (1 ∷ 1 ∷ 0 ∷ 0 ∷ 2 ∷ 2 ∷ 6 ∷ 6 ∷ 4 ∷ 4 ∷ 3 ∷ 3 ∷ 5 ∷ 5 ∷ [])
    ≡ 1 ∷ 1 ∷ 0 ∷ 0 ∷ 2 ∷ 2 ∷ 6 ∷ 6 ∷ 4 ∷ 4 ∷ 3 ∷ 3 ∷ []
unfolding taken
kept_1 = refl

refit_1 : Refit k spots directions pose_5 (1 ∷ 1 ∷ 0 ∷ 0 ∷ 2 ∷ 2 ∷ 6 ∷ 6 ∷ 4 ∷ 4 ∷ 3 ∷ 3 ∷ []) rows_refit_1 view_2 sums_refit_1
    (f64 0x3F6DABEFEB2ECA39) (f64 0x3F122CBC7E296372) (f64 0x3ED73C0777F58758) pose_6
unfolding rows view_of with_rows no_matches solved_sums moved sound arithmetic
refit_1 = record { looked = refl; view = refl; sums = refl; solution = refl; pose = refl; soundness = refl }

abbrev view_clip_2 : View
view_clip_2 = record {
  basis =
      (f64 0x3EF080B11844BB9E ∷ f64 0x3FEFFFFFFFEEFA93 ∷ zero64 ∷ [])
      ∷ (f64 0xBEE7A0D96FA295CC ∷ f64 0x3DE85EE5C268CAD2 ∷ f64 0x3FEFFFFFFFF746D0 ∷ [])
      ∷ (f64 0x3FEFFFFFFFE64162 ∷ f64 0xBEF080B118403BF0 ∷ f64 0x3EE7A0D96FAF2740 ∷ [])
      ∷ [];
  roll = record { cos_t = f64 0x3FEFFFFA7C4479E5; sin_t = f64 0x3F62C9583535F322; ps = f64 0x3F50000000000000 };
  cut = f64 0x3D719799812DEA11;
}

abbrev residuals_clip_2 : List Float
residuals_clip_2 =
    f64 0x3F129AF122A9E90F
    ∷ f64 0x3F1CA75A5FEA2E7E
    ∷ f64 0x3F130707B7825103
    ∷ f64 0x3F18CEDDE4A40D32
    ∷ f64 0x3F212B9FF3011732
    ∷ f64 0x3F25A8E996608074
    ∷ []

clip_2 : Clipping k spots directions pose_6 (1 ∷ 1 ∷ 0 ∷ 0 ∷ 2 ∷ 2 ∷ 6 ∷ 6 ∷ 4 ∷ 4 ∷ 3 ∷ 3 ∷ []) rows_refit_1 view_clip_2 residuals_clip_2
    (record { median = f64 0x3F1CA75A5FEA2E7E; sigma = f64 0x3F0C8B35D055FA4E })
    None (1 ∷ 1 ∷ 0 ∷ 0 ∷ 2 ∷ 2 ∷ 6 ∷ 6 ∷ 4 ∷ 4 ∷ 3 ∷ 3 ∷ [])
unfolding rows view_of residuals statistics mad_clip_matches arithmetic
clip_2 = record { enough = refl; looked = refl; view = refl; values = refl; summary = refl; clip = refl }

looked_last : rows spots directions (1 ∷ 1 ∷ 0 ∷ 0 ∷ 2 ∷ 2 ∷ 6 ∷ 6 ∷ 4 ∷ 4 ∷ 3 ∷ 3 ∷ []) ≡ rows_refit_1
unfolding rows
looked_last = refl

abbrev normal : Counted
normal = record {
  sums = record {
    ata =
        (f64 0x3F4A4A4C7FFFFFFE ∷ f64 0xBFA363B87DA9232F ∷ f64 0x3F7744F345D0B60F ∷ [])
        ∷ (f64 0xBFA363B87DA9232F ∷ f64 0x4027000000000000 ∷ zero64 ∷ [])
        ∷ (f64 0x3F7744F345D0B60F ∷ zero64 ∷ f64 0x4027000000000000 ∷ [])
        ∷ [];
    atb = zero64 ∷ zero64 ∷ zero64 ∷ [];
  };
  n = 6;
}

abbrev matrix : List (List Float)
matrix =
    (f64 0x3F4FFFFA7C4479E5 ∷ f64 0xBEC2C9583535F322 ∷ [])
    ∷ (f64 0x3EC2C9583535F322 ∷ f64 0x3F4FFFFA7C4479E5 ∷ [])
    ∷ []

abbrev spread : List (List Float)
spread =
    (f64 0x3EEA21F3CF7EE562 ∷ f64 0x3E6607C8FF136766 ∷ f64 0xBE3A704B34F95B79 ∷ [])
    ∷ (f64 0x3E6607C8FF136766 ∷ f64 0x3E0DC4399BAE9996 ∷ f64 0xBDB649D4293B8326 ∷ [])
    ∷ (f64 0xBE3A704B34F95B79 ∷ f64 0xBDB649D4293B8326 ∷ f64 0x3E093A5B183FFABB ∷ [])
    ∷ []

reported : Reported k pose_6 rows_refit_1 view_clip_2 residuals_clip_2
    (f64 0x3E74508EC539E496) normal matrix (f64 0x3F1D70D70EAB54C6) spread
unfolding view_of residuals in_front sum_squares normal_matrix cd_from_theta root_mean covariance_from_normal arithmetic
reported = record { view = refl; values = refl; squares = refl; normal = refl; matrix = refl; mean = refl; spread = refl }

-- What it comes to.
pub last_clip_row : outcome last_clip_call ≡ record {
  answer = ok (report_of pose_6 matrix (f64 0x3F1D70D70EAB54C6) spread (1 ∷ 1 ∷ 0 ∷ 0 ∷ 2 ∷ 2 ∷ 6 ∷ 6 ∷ 4 ∷ 4 ∷ 3 ∷ 3 ∷ [])) 2 5 1 12;
  lent = record {
    numbers = replicate 224 0;
    floats = replicate 224 zero64;
    distances = replicate 64 zero64;
    indices = replicate 128 0;
    result = 1 ∷ 1 ∷ 0 ∷ 0 ∷ 2 ∷ 2 ∷ 6 ∷ 6 ∷ 4 ∷ 4 ∷ 3 ∷ 3 ∷ 43 ∷ 44 ∷ 45 ∷ 46 ∷ [];
  };
}
unfolding left
last_clip_row = accepted_call begun run
    (next_clip 2 clip_1 kept_1 refit_1
    (last_clip 1 clip_2)) looked_last reported
