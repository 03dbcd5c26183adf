-- A clip: one of six starting matches lies too far off, and five are left.
-- Written by tools/rows/rows.py: the values are those of its model, and the check computes every equation. Assumes nothing.
use Rattle.std.specs.Prelude.{◌≡◌, refl, true, false, Some, List, [], ◌∷◌, replicate, Float}
use Rattle.rounding.specs.Arith.{f64, zero64, one64}
use Rattle.project.specs.Camera.{boresight, camera_rows}
use Rattle.panel.specs.Points.{points_of}
use Rattle.fit.specs.Rows.{Row, row_of, rows, view_of}
use Rattle.fit.specs.Normal.{no_matches, with_rows, normal_matrix, solved_sums}
use Rattle.residuals.specs.Residual.{residuals, in_front}
use Rattle.solve.specs.Covariance.{covariance_from_normal}
use Rattle.project.specs.Project.{cd_from_theta}
use Rattle.fit.specs.declared.Pose.{Pose}
use Rattle.fit.specs.declared.View.{View}
use Rattle.fit.specs.declared.Counted.{Counted}
use Rattle.entry.specs.Arguments.{Call}
use Rattle.entry.specs.Fixed.{Fixed}
use Rattle.entry.specs.declared.Matcher.TheVariants.{Listing}
use Rattle.passes.specs.Fit.{fit_passes, moved, sound, still}
use Rattle.wcs_refine.specs.Clip.{statistics, clipped}
use Rattle.wcs_refine.specs.Associate.{adaptive_px}
use Rattle.query.specs.Query.{empty, full, axis32, least_cos, scanned, Prediction, predictions, pruned}
use Rattle.wcs_refine.specs.Round.{State, done, associated, compared, ended, loop, round}
use Rattle.wcs_refine.specs.Closing.{sum_squares, root_mean}
use Rattle.wcs_refine.specs.Call.{ok, left, outcome, queries}
use Rattle.rounding.specs.Computed.{arithmetic}
use Rattle.calls.specs.Computed.{checks}
use Rattle.calls.specs.Steps.{Pass, last_pass, next_pass, passes_of, Measured, Queried, first_search}
use Rattle.calls.specs.Steps.{whole_round, round_of, done_round, ran_of}
use Rattle.calls.specs.Steps.{no_clip, Reported, report_of, Begun, queried_call, accepted_call}

-- The call's spots.
abbrev spots : List Float
spots =
    f64 0x4024B80000000000 ∷ f64 0xBFD4000000000000 ∷ one64
    ∷ f64 0xC020200000000000 ∷ f64 0x4010E00000000000 ∷ f64 0x4008000000000000
    ∷ f64 0x4002400000000000 ∷ f64 0x4026600000000000 ∷ f64 0x3FD0000000000000
    ∷ f64 0xC00B200000000000 ∷ f64 0xC024080000000000 ∷ f64 0x4000000000000000
    ∷ f64 0x4028F00000000000 ∷ f64 0x4021D00000000000 ∷ f64 0x3F50000000000000
    ∷ f64 0xC028900000000000 ∷ f64 0xBFFB800000000000 ∷ f64 0x4090000000000000
    ∷ []

-- The call's directions.
abbrev directions : List Float
directions =
    one64 ∷ f64 0x3F847AE140000000 ∷ zero64
    ∷ one64 ∷ f64 0xBF80624DE0000000 ∷ f64 0x3F70624DE0000000
    ∷ one64 ∷ f64 0x3F60624DE0000000 ∷ f64 0x3F86872B00000000
    ∷ one64 ∷ f64 0xBF689374C0000000 ∷ f64 0xBF847AE140000000
    ∷ one64 ∷ f64 0x3F826E9780000000 ∷ f64 0x3F80624DE0000000
    ∷ one64 ∷ f64 0xBF889374C0000000 ∷ f64 0xBF60624DE0000000
    ∷ []

-- The call, with its lent lists as they come.
abbrev pub one_clip_call : Call
one_clip_call = record {
  spots = spots;
  directions = directions;
  given = record {
    matches = 0 ∷ 0 ∷ 1 ∷ 1 ∷ 2 ∷ 2 ∷ 3 ∷ 3 ∷ 4 ∷ 4 ∷ 5 ∷ 5 ∷ [];
    rotation =
        (f64 0x8000000000000000 ∷ one64 ∷ zero64 ∷ [])
        ∷ (zero64 ∷ f64 0x8000000000000000 ∷ one64 ∷ [])
        ∷ (one64 ∷ zero64 ∷ zero64 ∷ [])
        ∷ [];
    scale = f64 0x3F50000000000000;
    mirror = true;
    radius = f64 0x3F689374C0000000;
    cut = f64 0x3D719799812DEA11;
    limit = 6;
    rounds = 2;
    matcher = Listing;
    lent = record {
      numbers = replicate 288 7;
      floats = replicate 288 one64;
      distances = replicate 256 one64;
      indices = replicate 512 5;
      result = 31 ∷ 32 ∷ 33 ∷ 34 ∷ 35 ∷ 36 ∷ 37 ∷ 38 ∷ 39 ∷ 40 ∷ 41 ∷ 42 ∷ 43 ∷ 44 ∷ [];
    };
  };
}

-- ---- what its run starts from

abbrev k : Fixed
k = record {
  scale = f64 0x3F50000000000000;
  mirror = true;
  radius = f64 0x3F689374C0000000;
  limit = 6;
  matcher = Listing;
  count = 6;
  capacity = 128;
  cut = f64 0x3D719799812DEA11;
  far = f64 0x402EA55215B1FA53;
}

abbrev pose_0 : Pose
pose_0 = record {
  theta = zero64;
  ra = zero64;
  dec = zero64;
  scale = f64 0x3F50000000000000;
}

abbrev state_0 : State
state_0 = record { pose = pose_0; matches = 0 ∷ 0 ∷ 1 ∷ 1 ∷ 2 ∷ 2 ∷ 3 ∷ 3 ∷ 4 ∷ 4 ∷ 5 ∷ 5 ∷ []; cache = empty }

begun : Begun one_clip_call k state_0
unfolding checks
begun = record { accepted = refl; same = refl; begins = refl }

-- ---- round 1

abbrev rows_1 : List Row
rows_1 =
    row_of (record { px = f64 0x4024B80000000000; py = f64 0xBFD4000000000000; weight = one64 }) (one64 ∷ f64 0x3F847AE140000000 ∷ zero64 ∷ [])
    ∷ row_of (record { px = f64 0xC020200000000000; py = f64 0x4010E00000000000; weight = f64 0x4008000000000000 }) (one64 ∷ f64 0xBF80624DE0000000 ∷ f64 0x3F70624DE0000000 ∷ [])
    ∷ row_of (record { px = f64 0x4002400000000000; py = f64 0x4026600000000000; weight = f64 0x3FD0000000000000 }) (one64 ∷ f64 0x3F60624DE0000000 ∷ f64 0x3F86872B00000000 ∷ [])
    ∷ row_of (record { px = f64 0xC00B200000000000; py = f64 0xC024080000000000; weight = f64 0x4000000000000000 }) (one64 ∷ f64 0xBF689374C0000000 ∷ f64 0xBF847AE140000000 ∷ [])
    ∷ row_of (record { px = f64 0x4028F00000000000; py = f64 0x4021D00000000000; weight = f64 0x3F50000000000000 }) (one64 ∷ f64 0x3F826E9780000000 ∷ f64 0x3F80624DE0000000 ∷ [])
    ∷ row_of (record { px = f64 0xC028900000000000; py = f64 0xBFFB800000000000; weight = f64 0x4090000000000000 }) (one64 ∷ f64 0xBF889374C0000000 ∷ f64 0xBF60624DE0000000 ∷ [])
    ∷ []

looked_1 : rows spots directions (0 ∷ 0 ∷ 1 ∷ 1 ∷ 2 ∷ 2 ∷ 3 ∷ 3 ∷ 4 ∷ 4 ∷ 5 ∷ 5 ∷ []) ≡ rows_1
unfolding rows
looked_1 = refl

abbrev pose_1 : Pose
pose_1 = record {
  theta = f64 0x3F9BDF48EE242A3D;
  ra = f64 0xBF0B4654E0714BA0;
  dec = f64 0x3ED4B930DAACC21A;
  scale = f64 0x3F50000000000000;
}

abbrev view_1_1 : View
view_1_1 = record {
  basis =
      (f64 0x8000000000000000 ∷ one64 ∷ zero64 ∷ [])
      ∷ (zero64 ∷ f64 0x8000000000000000 ∷ one64 ∷ [])
      ∷ (one64 ∷ zero64 ∷ zero64 ∷ [])
      ∷ [];
  roll = record { cos_t = one64; sin_t = zero64; ps = f64 0x3F50000000000000 };
  cut = f64 0x3D719799812DEA11;
}

abbrev sums_1_1 : Counted
sums_1_1 = record {
  sums = record {
    ata =
        (f64 0x3FC34C3210950000 ∷ f64 0x3FFB938718000000 ∷ f64 0xC0289A0371000000 ∷ [])
        ∷ (f64 0x3FFB938718000000 ∷ f64 0x4090190100000000 ∷ zero64 ∷ [])
        ∷ (f64 0xC0289A0371000000 ∷ zero64 ∷ f64 0x4090190100000000 ∷ [])
        ∷ [];
    atb = f64 0x3F703132562326A0 ∷ f64 0xBF7B607C78400000 ∷ f64 0xBFD51A35F2E44000 ∷ [];
  };
  n = 6;
}

pass_1_1 : Pass k.cut rows_1 pose_0 view_1_1 sums_1_1
    (f64 0x3F9BDF48EE242A3D) (f64 0xBF0B4654E0DAF8ED) (f64 0x3ED4B930DB25EC3F) pose_1 true false
unfolding view_of with_rows no_matches solved_sums moved sound still arithmetic
pass_1_1 = record { enough = refl; view = refl; sums = refl; solution = refl; pose = refl; soundness = refl; stillness = refl }

abbrev pose_2 : Pose
pose_2 = record {
  theta = f64 0x3F9BBC827D5802BD;
  ra = f64 0xBF0D729FF6F2C344;
  dec = f64 0x3EC6B0FCE3306080;
  scale = f64 0x3F50000000000000;
}

abbrev view_1_2 : View
view_1_2 = record {
  basis =
      (f64 0x3F0B4654E03C74FA ∷ f64 0x3FEFFFFFFF4605B2 ∷ zero64 ∷ [])
      ∷ (f64 0xBED4B930DA33F4AA ∷ f64 0x3DF1A9CD4AB789A8 ∷ f64 0x3FEFFFFFFFFE528B ∷ [])
      ∷ (f64 0x3FEFFFFFFF44583C ∷ f64 0xBF0B4654E03B06EF ∷ f64 0x3ED4B930DAAC6565 ∷ [])
      ∷ [];
  roll = record { cos_t = f64 0x3FEFFCF73024D693; sin_t = f64 0x3F9BDE67637B3182; ps = f64 0x3F50000000000000 };
  cut = f64 0x3D719799812DEA11;
}

abbrev sums_1_2 : Counted
sums_1_2 = record {
  sums = record {
    ata =
        (f64 0x3FC34C3210950000 ∷ f64 0x40007612B1182BF0 ∷ f64 0xC0287FAA17D1BBB3 ∷ [])
        ∷ (f64 0x40007612B1182BF0 ∷ f64 0x4090190100000000 ∷ zero64 ∷ [])
        ∷ (f64 0xC0287FAA17D1BBB3 ∷ zero64 ∷ f64 0x4090190100000000 ∷ [])
        ∷ [];
    atb = f64 0xBEB3234279AD0802 ∷ f64 0xBF729BBBFC2C7117 ∷ f64 0xBF463BAEAD592429 ∷ [];
  };
  n = 6;
}

pass_1_2 : Pass k.cut rows_1 pose_1 view_1_2 sums_1_2
    (f64 0xBF2163386613BFC3) (f64 0xBED16258B40C146B) (f64 0xBEC2C164D2286FC4) pose_2 true false
unfolding view_of with_rows no_matches solved_sums moved sound still arithmetic
pass_1_2 = record { enough = refl; view = refl; sums = refl; solution = refl; pose = refl; soundness = refl; stillness = refl }

abbrev pose_3 : Pose
pose_3 = record {
  theta = f64 0x3F9BBCAF144EAC8D;
  ra = f64 0xBF0D72BB0D20BCD5;
  dec = f64 0x3EC6C225A631FB75;
  scale = f64 0x3F50000000000000;
}

abbrev view_1_3 : View
view_1_3 = record {
  basis =
      (f64 0x3F0D729FF6B04320 ∷ f64 0x3FEFFFFFFF27351C ∷ zero64 ∷ [])
      ∷ (f64 0xBEC6B0FCE2968789 ∷ f64 0x3DE4E1AD212335BF ∷ f64 0x3FEFFFFFFFFF7F47 ∷ [])
      ∷ (f64 0x3FEFFFFFFF26B463 ∷ f64 0xBF0D729FF6AFCCAB ∷ f64 0x3EC6B0FCE3304213 ∷ [])
      ∷ [];
  roll = record { cos_t = f64 0x3FEFFCFEBDB4067F; sin_t = f64 0x3F9BBBA43AC1A0E6; ps = f64 0x3F50000000000000 };
  cut = f64 0x3D719799812DEA11;
}

abbrev sums_1_3 : Counted
sums_1_3 = record {
  sums = record {
    ata =
        (f64 0x3FC34C321094FFFF ∷ f64 0x400072BEBC8A23AA ∷ f64 0xC0287FCDDB44D1B9 ∷ [])
        ∷ (f64 0x400072BEBC8A23AA ∷ f64 0x4090190100000000 ∷ zero64 ∷ [])
        ∷ (f64 0xC0287FCDDB44D1B9 ∷ zero64 ∷ f64 0x4090190100000000 ∷ [])
        ∷ [];
    atb = f64 0x3E071C192AB29A00 ∷ f64 0x3EA2963B82A10400 ∷ f64 0x3E78F623AFEF7200 ∷ [];
  };
  n = 6;
}

pass_1_3 : Pass k.cut rows_1 pose_2 view_1_3 sums_1_3
    (f64 0x3EA64B7B54E83DC5) (f64 0xBE0B162DF9907FE4) (f64 0x3E4128C3019AF338) pose_3 true false
unfolding view_of with_rows no_matches solved_sums moved sound still arithmetic
pass_1_3 = record { enough = refl; view = refl; sums = refl; solution = refl; pose = refl; soundness = refl; stillness = refl }

abbrev pose_4 : Pose
pose_4 = record {
  theta = f64 0x3F9BBCAEDADAB22D;
  ra = f64 0xBF0D72BAD321528A;
  dec = f64 0x3EC6C20FC7EAB93F;
  scale = f64 0x3F50000000000000;
}

abbrev view_1_4 : View
view_1_4 = record {
  basis =
      (f64 0x3F0D72BB0CDE3BF9 ∷ f64 0x3FEFFFFFFF27338D ∷ zero64 ∷ [])
      ∷ (f64 0xBEC6C225A597ACDD ∷ f64 0x3DE4F18ACC702091 ∷ f64 0x3FEFFFFFFFFF7E84 ∷ [])
      ∷ (f64 0x3FEFFFFFFF26B211 ∷ f64 0xBF0D72BB0CDDC4D0 ∷ f64 0x3EC6C225A631DCC3 ∷ [])
      ∷ [];
  roll = record { cos_t = f64 0x3FEFFCFEB40AC8F2; sin_t = f64 0x3F9BBBD0CD885BC2; ps = f64 0x3F50000000000000 };
  cut = f64 0x3D719799812DEA11;
}

abbrev sums_1_4 : Counted
sums_1_4 = record {
  sums = record {
    ata =
        (f64 0x3FC34C3210950000 ∷ f64 0x400072C300F3FF0B ∷ f64 0xC0287FCDAD6E0DF2 ∷ [])
        ∷ (f64 0x400072C300F3FF0B ∷ f64 0x4090190100000000 ∷ zero64 ∷ [])
        ∷ (f64 0xC0287FCDAD6E0DF2 ∷ zero64 ∷ f64 0x4090190100000000 ∷ [])
        ∷ [];
    atb = f64 0xBD8D8A026C100000 ∷ f64 0xBDD6C07E0A800000 ∷ f64 0xBDB1DA1B0F600000 ∷ [];
  };
  n = 6;
}

pass_1_4 : Pass k.cut rows_1 pose_3 view_1_4 sums_1_4
    (f64 0xBE2CB9FD30106158) (f64 0x3D9CFFB5254B0ADD) (f64 0xBDC5DE47423753FD) pose_4 true false
unfolding view_of with_rows no_matches solved_sums moved sound still arithmetic
pass_1_4 = record { enough = refl; view = refl; sums = refl; solution = refl; pose = refl; soundness = refl; stillness = refl }

abbrev pose_5 : Pose
pose_5 = record {
  theta = f64 0x3F9BBCAEDB24BB27;
  ra = f64 0xBF0D72BAD36CF482;
  dec = f64 0x3EC6C20FE4165FC2;
  scale = f64 0x3F50000000000000;
}

abbrev view_1_5 : View
view_1_5 = record {
  basis =
      (f64 0x3F0D72BAD2DED1B1 ∷ f64 0x3FEFFFFFFF273391 ∷ zero64 ∷ [])
      ∷ (f64 0xBEC6C20FC7506B3E ∷ f64 0x3DE4F176835888D8 ∷ f64 0x3FEFFFFFFFFF7E85 ∷ [])
      ∷ (f64 0x3FEFFFFFFF26B215 ∷ f64 0xBF0D72BAD2DE5A88 ∷ f64 0x3EC6C20FC7EA9A8D ∷ [])
      ∷ [];
  roll = record { cos_t = f64 0x3FEFFCFEB4173BB6; sin_t = f64 0x3F9BBBD09419C696; ps = f64 0x3F50000000000000 };
  cut = f64 0x3D719799812DEA11;
}

abbrev sums_1_5 : Counted
sums_1_5 = record {
  sums = record {
    ata =
        (f64 0x3FC34C3210950000 ∷ f64 0x400072C2FB7470E0 ∷ f64 0xC0287FCDADA91E02 ∷ [])
        ∷ (f64 0x400072C2FB7470E0 ∷ f64 0x4090190100000000 ∷ zero64 ∷ [])
        ∷ (f64 0xC0287FCDADA91E02 ∷ zero64 ∷ f64 0x4090190100000000 ∷ [])
        ∷ [];
    atb = f64 0x3D130763E1000000 ∷ f64 0x3CFEB8D000000000 ∷ f64 0x3D0DB91600000000 ∷ [];
  };
  n = 6;
}

pass_1_5 : Pass k.cut rows_1 pose_4 view_1_5 sums_1_5
    (f64 0x3DB2823E8E658CD3) (f64 0xBD22E87DE07DE463) (f64 0x3D4C2BA6813BAB3F) pose_5 true true
unfolding view_of with_rows no_matches solved_sums moved sound still arithmetic
pass_1_5 = record { enough = refl; view = refl; sums = refl; solution = refl; pose = refl; soundness = refl; stillness = refl }

passes_1 : fit_passes 10 k.cut rows_1 pose_0 ≡ passes_of pose_5 5 true
passes_1 = next_pass 9 pass_1_1
    (next_pass 8 pass_1_2
    (next_pass 7 pass_1_3
    (next_pass 6 pass_1_4
    (last_pass 5 pass_1_5))))

abbrev view_1 : View
view_1 = record {
  basis =
      (f64 0x3F0D72BAD32A73A9 ∷ f64 0x3FEFFFFFFF273391 ∷ zero64 ∷ [])
      ∷ (f64 0xBEC6C20FE37C11C0 ∷ f64 0x3DE4F1769D7AE1BD ∷ f64 0x3FEFFFFFFFFF7E85 ∷ [])
      ∷ (f64 0x3FEFFFFFFF26B215 ∷ f64 0xBF0D72BAD329FC80 ∷ f64 0x3EC6C20FE4164110 ∷ [])
      ∷ [];
  roll = record { cos_t = f64 0x3FEFFCFEB4172BAB; sin_t = f64 0x3F9BBBD09463C89C; ps = f64 0x3F50000000000000 };
  cut = f64 0x3D719799812DEA11;
}

abbrev residuals_1 : List Float
residuals_1 =
    f64 0x3F12948831E85FE8
    ∷ f64 0x3F1A2C9AAEC7620F
    ∷ f64 0x3F20866916272658
    ∷ f64 0x3F26314BFE179B50
    ∷ f64 0x3F690CD0674857E2
    ∷ f64 0x3E92938F53BC0975
    ∷ []

measured_1 : Measured k rows_1 pose_5 (0 ∷ 0 ∷ 1 ∷ 1 ∷ 2 ∷ 2 ∷ 3 ∷ 3 ∷ 4 ∷ 4 ∷ 5 ∷ 5 ∷ []) view_1 residuals_1
    (Some (record { median = f64 0x3F20866916272658; sigma = f64 0x3F1573FA95155F83 }))
    (0 ∷ 0 ∷ 1 ∷ 1 ∷ 2 ∷ 2 ∷ 3 ∷ 3 ∷ 5 ∷ 5 ∷ []) (f64 0x4004000000000000)
unfolding view_of residuals statistics clipped adaptive_px arithmetic
measured_1 = record { view = refl; values = refl; summary = refl; clip = refl; radius = refl }

abbrev centre_1 : List Float
centre_1 = f64 0x3FEFFFFFFF26B215 ∷ f64 0xBF0D72BAD329FC80 ∷ f64 0x3EC6C20FE4164110 ∷ []

abbrev camera_1 : List (List Float)
camera_1 =
    (f64 0x3F0D661A384FCB1B ∷ f64 0x3FEFFCFEB33F04CD ∷ f64 0x3F9BBBD094635865 ∷ [])
    ∷ (f64 0xBED1C15F6507925F ∷ f64 0xBF9BBBD09109F3CA ∷ f64 0x3FEFFCFEB416AA3C ∷ [])
    ∷ (f64 0x3FEFFFFFFF26B215 ∷ f64 0xBF0D72BAD329FC80 ∷ f64 0x3EC6C20FE4164110 ∷ [])
    ∷ []

abbrev predictions_1 : List Prediction
predictions_1 =
    record { direction = 0; x = f64 0x4024965BC2B07CD8; y = f64 0xBFD206E7C5C7FBD9 }
    ∷ record { direction = 1; x = f64 0xC0200A90FCD2D122; y = f64 0x40113F84D1885CE1 }
    ∷ record { direction = 2; x = f64 0x4003472522B18974; y = f64 0x4026666F280EEC3A }
    ∷ record { direction = 3; x = f64 0xC00A53897ADFF5CB; y = f64 0xC024509391F8EE69 }
    ∷ record { direction = 4; x = f64 0x4022FBDBEEAA250A; y = f64 0x401FBD80C46A7073 }
    ∷ record { direction = 5; x = f64 0xC0289024F655FBB4; y = f64 0xBFFB801E10A4916F }
    ∷ []

abbrev state_1 : State
state_1 = record {
  pose = pose_5;
  matches = 0 ∷ 0 ∷ 1 ∷ 1 ∷ 2 ∷ 2 ∷ 3 ∷ 3 ∷ 5 ∷ 5 ∷ [];
  cache = full centre_1 pose_5.theta (0 ∷ 1 ∷ 2 ∷ 3 ∷ 4 ∷ 5 ∷ []);
}

queried_1 : Queried k spots directions pose_5 (0 ∷ 0 ∷ 1 ∷ 1 ∷ 2 ∷ 2 ∷ 3 ∷ 3 ∷ 5 ∷ 5 ∷ []) (f64 0x4004000000000000)
    centre_1 (one64 ∷ f64 0xBF0D72BAE0000000 ∷ f64 0x3EC6C20FE0000000 ∷ []) (f64 0x3FEFFCAFA0000000)
    (0 ∷ 1 ∷ 2 ∷ 3 ∷ 4 ∷ 5 ∷ []) camera_1 (0 ∷ 1 ∷ 2 ∷ 3 ∷ 4 ∷ 5 ∷ []) predictions_1 (done state_1) 5
unfolding boresight axis32 least_cos scanned camera_rows pruned predictions points_of associated compared arithmetic
queried_1 = record { centre = refl; narrow = refl; least = refl; scan = refl; camera = refl; cached = refl; places = refl; matcher = refl; counted = refl }

round_1 : round k spots directions state_0 ≡ round_of (done state_1) ((0 ∷ 1 ∷ 2 ∷ 3 ∷ 4 ∷ 5 ∷ []) ∷ []) 5 5
round_1 = whole_round k spots directions state_0 looked_1 passes_1 measured_1
    (first_search queried_1)

run : loop k spots directions 2 state_0 ≡ ran_of (ended state_1) 1 5 ((0 ∷ 1 ∷ 2 ∷ 3 ∷ 4 ∷ 5 ∷ []) ∷ []) 5
run = done_round k spots directions 1 state_0 round_1

-- ---- the whole call

-- What each of its queries lists.
pub one_clip_listed : queries one_clip_call ≡ (0 ∷ 1 ∷ 2 ∷ 3 ∷ 4 ∷ 5 ∷ []) ∷ []
one_clip_listed = queried_call begun run

abbrev rows_last : List Row
rows_last =
    row_of (record { px = f64 0x4024B80000000000; py = f64 0xBFD4000000000000; weight = one64 }) (one64 ∷ f64 0x3F847AE140000000 ∷ zero64 ∷ [])
    ∷ row_of (record { px = f64 0xC020200000000000; py = f64 0x4010E00000000000; weight = f64 0x4008000000000000 }) (one64 ∷ f64 0xBF80624DE0000000 ∷ f64 0x3F70624DE0000000 ∷ [])
    ∷ row_of (record { px = f64 0x4002400000000000; py = f64 0x4026600000000000; weight = f64 0x3FD0000000000000 }) (one64 ∷ f64 0x3F60624DE0000000 ∷ f64 0x3F86872B00000000 ∷ [])
    ∷ row_of (record { px = f64 0xC00B200000000000; py = f64 0xC024080000000000; weight = f64 0x4000000000000000 }) (one64 ∷ f64 0xBF689374C0000000 ∷ f64 0xBF847AE140000000 ∷ [])
    ∷ row_of (record { px = f64 0xC028900000000000; py = f64 0xBFFB800000000000; weight = f64 0x4090000000000000 }) (one64 ∷ f64 0xBF889374C0000000 ∷ f64 0xBF60624DE0000000 ∷ [])
    ∷ []

looked_last : rows spots directions (0 ∷ 0 ∷ 1 ∷ 1 ∷ 2 ∷ 2 ∷ 3 ∷ 3 ∷ 5 ∷ 5 ∷ []) ≡ rows_last
unfolding rows
looked_last = refl

abbrev residuals_last : List Float
residuals_last =
    f64 0x3F12948831E85FE8
    ∷ f64 0x3F1A2C9AAEC7620F
    ∷ f64 0x3F20866916272658
    ∷ f64 0x3F26314BFE179B50
    ∷ f64 0x3E92938F53BC0975
    ∷ []

abbrev normal : Counted
normal = record {
  sums = record {
    ata =
        (f64 0x3FC34C303B000001 ∷ f64 0x400072C79A4A3294 ∷ f64 0xC0287FCF34CB53EF ∷ [])
        ∷ (f64 0x400072C79A4A3294 ∷ f64 0x4090190000000000 ∷ zero64 ∷ [])
        ∷ (f64 0xC0287FCF34CB53EF ∷ zero64 ∷ f64 0x4090190000000000 ∷ [])
        ∷ [];
    atb = zero64 ∷ zero64 ∷ zero64 ∷ [];
  };
  n = 5;
}

abbrev matrix : List (List Float)
matrix =
    (f64 0xBF4FFCFEB4172BAB ∷ f64 0xBEFBBBD09463C89C ∷ [])
    ∷ (f64 0xBEFBBBD09463C89C ∷ f64 0x3F4FFCFEB4172BAB ∷ [])
    ∷ []

abbrev spread : List (List Float)
spread =
    (f64 0x3EE1A23C4824F92B ∷ f64 0xBE52049508A28E32 ∷ f64 0x3E7AD647B7C03EFE ∷ [])
    ∷ (f64 0xBE52049508A28E32 ∷ f64 0x3DC6F34FB02F5960 ∷ f64 0xBDEB6BF4947C5A03 ∷ [])
    ∷ (f64 0x3E7AD647B7C03EFE ∷ f64 0xBDEB6BF4947C5A03 ∷ f64 0x3E14904F2C5E6FEB ∷ [])
    ∷ []

reported : Reported k pose_5 rows_last view_1 residuals_last
    (f64 0x3E6FF955D4350CB6) normal matrix (f64 0x3F1C9C2A98248B3D) spread
unfolding view_of residuals in_front sum_squares normal_matrix cd_from_theta root_mean covariance_from_normal arithmetic
reported = record { view = refl; values = refl; squares = refl; normal = refl; matrix = refl; mean = refl; spread = refl }

-- What it comes to.
pub one_clip_row : outcome one_clip_call ≡ record {
  answer = ok (report_of pose_5 matrix (f64 0x3F1C9C2A98248B3D) spread (0 ∷ 0 ∷ 1 ∷ 1 ∷ 2 ∷ 2 ∷ 3 ∷ 3 ∷ 5 ∷ 5 ∷ [])) 1 5 1 5;
  lent = record {
    numbers = replicate 288 0;
    floats = replicate 288 zero64;
    distances = replicate 256 zero64;
    indices = replicate 512 0;
    result = 0 ∷ 0 ∷ 1 ∷ 1 ∷ 2 ∷ 2 ∷ 3 ∷ 3 ∷ 5 ∷ 5 ∷ 41 ∷ 42 ∷ 43 ∷ 44 ∷ [];
  };
}
unfolding left
one_clip_row = accepted_call begun run
    (no_clip k spots directions 2 pose_5 (0 ∷ 0 ∷ 1 ∷ 1 ∷ 2 ∷ 2 ∷ 3 ∷ 3 ∷ 5 ∷ 5 ∷ []) refl) looked_last reported
