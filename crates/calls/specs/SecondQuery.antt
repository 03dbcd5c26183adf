-- Two rounds: the matches of the first turn the camera past the margin, and the second queries anew.
-- Written by tools/rows/rows.py: the values are those of its model, and the check computes every equation. Assumes nothing.
use Rattle.std.specs.Prelude.{◌≡◌, refl, true, false, None, List, [], ◌∷◌, replicate, Float}
use Rattle.rounding.specs.Arith.{f64, zero64, one64}
use Rattle.project.specs.Camera.{boresight, camera_rows}
use Rattle.panel.specs.Points.{points_of}
use Rattle.fit.specs.Rows.{Row, row_of, rows, view_of}
use Rattle.fit.specs.Normal.{no_matches, with_rows, normal_matrix, solved_sums}
use Rattle.residuals.specs.Residual.{residuals, in_front}
use Rattle.solve.specs.Covariance.{covariance_from_normal}
use Rattle.project.specs.Project.{cd_from_theta}
use Rattle.fit.specs.declared.Pose.{Pose}
use Rattle.fit.specs.declared.View.{View}
use Rattle.fit.specs.declared.Counted.{Counted}
use Rattle.entry.specs.Arguments.{Call}
use Rattle.entry.specs.Fixed.{Fixed}
use Rattle.entry.specs.declared.Matcher.TheVariants.{Listing}
use Rattle.passes.specs.Fit.{fit_passes, moved, sound, still}
use Rattle.wcs_refine.specs.Clip.{statistics, clipped}
use Rattle.wcs_refine.specs.Associate.{adaptive_px}
use Rattle.query.specs.Query.{empty, full, axis32, least_cos, scanned, drifted, Prediction, predictions, pruned}
use Rattle.wcs_refine.specs.Round.{State, go, done, associated, compared, ended, loop, round}
use Rattle.wcs_refine.specs.Closing.{sum_squares, root_mean}
use Rattle.wcs_refine.specs.Call.{ok, left, outcome, queries}
use Rattle.rounding.specs.Computed.{arithmetic}
use Rattle.calls.specs.Computed.{checks}
use Rattle.calls.specs.Steps.{Pass, last_pass, next_pass, no_pass, passes_of, Measured, Queried, first_search, new_search}
use Rattle.calls.specs.Steps.{whole_round, round_of, go_round, done_round, ran_of}
use Rattle.calls.specs.Steps.{no_clip, Reported, report_of, Begun, queried_call, accepted_call}

-- The call's spots.
abbrev spots : List Float
spots =
    f64 0x4024700000000000 ∷ f64 0xBFE4800000000000 ∷ f64 0x4008000000000000
    ∷ f64 0xC01FB00000000000 ∷ f64 0x4012600000000000 ∷ f64 0x3FE0000000000000
    ∷ f64 0x4006000000000000 ∷ f64 0x4026380000000000 ∷ one64
    ∷ f64 0xC00DA00000000000 ∷ f64 0xC024100000000000 ∷ f64 0x4010000000000000
    ∷ f64 0x404E000000000000 ∷ zero64 ∷ f64 0x3F50000000000000
    ∷ []

-- The call's directions.
abbrev directions : List Float
directions =
    one64 ∷ f64 0x3F847AE140000000 ∷ zero64
    ∷ one64 ∷ f64 0xBF80624DE0000000 ∷ f64 0x3F70624DE0000000
    ∷ one64 ∷ f64 0x3F60624DE0000000 ∷ f64 0x3F86872B00000000
    ∷ one64 ∷ f64 0xBF689374C0000000 ∷ f64 0xBF847AE140000000
    ∷ []

-- The call, with its lent lists as they come.
abbrev pub second_query_call : Call
second_query_call = record {
  spots = spots;
  directions = directions;
  given = record {
    matches = [];
    rotation =
        (f64 0x8000000000000000 ∷ one64 ∷ zero64 ∷ [])
        ∷ (zero64 ∷ f64 0x8000000000000000 ∷ one64 ∷ [])
        ∷ (one64 ∷ zero64 ∷ zero64 ∷ [])
        ∷ [];
    scale = f64 0x3F50000000000000;
    mirror = false;
    radius = f64 0x3F50624DE0000000;
    cut = f64 0x3D719799812DEA11;
    limit = 5;
    rounds = 3;
    matcher = Listing;
    lent = record {
      numbers = replicate 144 7;
      floats = replicate 144 one64;
      distances = replicate 64 one64;
      indices = replicate 128 5;
      result = 31 ∷ 32 ∷ 33 ∷ 34 ∷ 35 ∷ 36 ∷ 37 ∷ 38 ∷ 39 ∷ 40 ∷ 41 ∷ 42 ∷ [];
    };
  };
}

-- ---- what its run starts from

abbrev k : Fixed
k = record {
  scale = f64 0x3F50000000000000;
  mirror = false;
  radius = f64 0x3F50624DE0000000;
  limit = 5;
  matcher = Listing;
  count = 4;
  capacity = 32;
  cut = f64 0x3D719799812DEA11;
  far = f64 0x404E000000000000;
}

abbrev pose_0 : Pose
pose_0 = record {
  theta = zero64;
  ra = zero64;
  dec = zero64;
  scale = f64 0x3F50000000000000;
}

abbrev state_0 : State
state_0 = record { pose = pose_0; matches = []; cache = empty }

begun : Begun second_query_call k state_0
unfolding checks
begun = record { accepted = refl; same = refl; begins = refl }

-- ---- round 1

abbrev rows_1 : List Row
rows_1 = []

looked_1 : rows spots directions ([]) ≡ rows_1
unfolding rows
looked_1 = refl

passes_1 : fit_passes 10 k.cut rows_1 pose_0 ≡ passes_of pose_0 0 true
passes_1 = no_pass 9 k.cut rows_1 pose_0 refl

abbrev view_1 : View
view_1 = record {
  basis =
      (f64 0x8000000000000000 ∷ one64 ∷ zero64 ∷ [])
      ∷ (zero64 ∷ f64 0x8000000000000000 ∷ one64 ∷ [])
      ∷ (one64 ∷ zero64 ∷ zero64 ∷ [])
      ∷ [];
  roll = record { cos_t = one64; sin_t = zero64; ps = f64 0x3F50000000000000 };
  cut = f64 0x3D719799812DEA11;
}

abbrev residuals_1 : List Float
residuals_1 = []

measured_1 : Measured k rows_1 pose_0 ([]) view_1 residuals_1
    None
    ([]) (f64 0x3FF0624DE0000000)
unfolding view_of residuals statistics clipped adaptive_px arithmetic
measured_1 = record { view = refl; values = refl; summary = refl; clip = refl; radius = refl }

abbrev centre_1 : List Float
centre_1 = one64 ∷ zero64 ∷ zero64 ∷ []

abbrev camera_1 : List (List Float)
camera_1 =
    (f64 0x8000000000000000 ∷ one64 ∷ zero64 ∷ [])
    ∷ (zero64 ∷ f64 0x8000000000000000 ∷ one64 ∷ [])
    ∷ (one64 ∷ zero64 ∷ zero64 ∷ [])
    ∷ []

abbrev predictions_1 : List Prediction
predictions_1 =
    record { direction = 0; x = f64 0x40247AE140000000; y = zero64 }
    ∷ record { direction = 1; x = f64 0xC020624DE0000000; y = f64 0x4010624DE0000000 }
    ∷ record { direction = 2; x = f64 0x4000624DE0000000; y = f64 0x4026872B00000000 }
    ∷ record { direction = 3; x = f64 0xC0089374C0000000; y = f64 0xC0247AE140000000 }
    ∷ []

abbrev state_1 : State
state_1 = record {
  pose = pose_0;
  matches = 1 ∷ 1 ∷ 0 ∷ 0 ∷ 3 ∷ 3 ∷ 2 ∷ 2 ∷ [];
  cache = full centre_1 pose_0.theta (0 ∷ 1 ∷ 2 ∷ 3 ∷ []);
}

queried_1 : Queried k spots directions pose_0 ([]) (f64 0x3FF0624DE0000000)
    centre_1 (one64 ∷ zero64 ∷ zero64 ∷ []) (f64 0x3FEFDEECE0000000)
    (0 ∷ 1 ∷ 2 ∷ 3 ∷ []) camera_1 (0 ∷ 1 ∷ 2 ∷ 3 ∷ []) predictions_1 (go state_1) 4
unfolding boresight axis32 least_cos scanned camera_rows pruned predictions points_of associated compared arithmetic
queried_1 = record { centre = refl; narrow = refl; least = refl; scan = refl; camera = refl; cached = refl; places = refl; matcher = refl; counted = refl }

round_1 : round k spots directions state_0 ≡ round_of (go state_1) ((0 ∷ 1 ∷ 2 ∷ 3 ∷ []) ∷ []) 0 4
round_1 = whole_round k spots directions state_0 looked_1 passes_1 measured_1
    (first_search queried_1)

-- ---- round 2

abbrev rows_2 : List Row
rows_2 =
    row_of (record { px = f64 0xC01FB00000000000; py = f64 0x4012600000000000; weight = f64 0x3FE0000000000000 }) (one64 ∷ f64 0xBF80624DE0000000 ∷ f64 0x3F70624DE0000000 ∷ [])
    ∷ row_of (record { px = f64 0x4024700000000000; py = f64 0xBFE4800000000000; weight = f64 0x4008000000000000 }) (one64 ∷ f64 0x3F847AE140000000 ∷ zero64 ∷ [])
    ∷ row_of (record { px = f64 0xC00DA00000000000; py = f64 0xC024100000000000; weight = f64 0x4010000000000000 }) (one64 ∷ f64 0xBF689374C0000000 ∷ f64 0xBF847AE140000000 ∷ [])
    ∷ row_of (record { px = f64 0x4006000000000000; py = f64 0x4026380000000000; weight = one64 }) (one64 ∷ f64 0x3F60624DE0000000 ∷ f64 0x3F86872B00000000 ∷ [])
    ∷ []

looked_2 : rows spots directions (1 ∷ 1 ∷ 0 ∷ 0 ∷ 3 ∷ 3 ∷ 2 ∷ 2 ∷ []) ≡ rows_2
unfolding rows
looked_2 = refl

abbrev pose_1 : Pose
pose_1 = record {
  theta = f64 0x3FAFE9CD719C9383;
  ra = f64 0xBED0628F1861F07F;
  dec = f64 0x3EE3689A3FC5DABB;
  scale = f64 0x3F50000000000000;
}

abbrev sums_2_1 : Counted
sums_2_1 = record {
  sums = record {
    ata =
        (f64 0x3F4D862140000000 ∷ f64 0x3F9CA40000000000 ∷ f64 0x3F8D440000000000 ∷ [])
        ∷ (f64 0x3F9CA40000000000 ∷ f64 0x4021000000000000 ∷ zero64 ∷ [])
        ∷ (f64 0x3F8D440000000000 ∷ zero64 ∷ f64 0x4021000000000000 ∷ [])
        ∷ [];
    atb = f64 0x3F0D74BC37F00000 ∷ f64 0x3F5C04DC40000000 ∷ f64 0x3F4FC39780000000 ∷ [];
  };
  n = 4;
}

pass_2_1 : Pass k.cut rows_2 pose_0 view_1 sums_2_1
    (f64 0x3FAFE9CD719C9383) (f64 0xBED0628F18624C25) (f64 0x3EE3689A3FC8DED2) pose_1 true false
unfolding view_of with_rows no_matches solved_sums moved sound still arithmetic
pass_2_1 = record { enough = refl; view = refl; sums = refl; solution = refl; pose = refl; soundness = refl; stillness = refl }

abbrev pose_2 : Pose
pose_2 = record {
  theta = f64 0x3FAFEE3073CA39A1;
  ra = f64 0xBEA4A6346BF04D08;
  dec = f64 0x3EC81160D23AAD07;
  scale = f64 0x3F50000000000000;
}

abbrev view_2_2 : View
view_2_2 = record {
  basis =
      (f64 0x3ED0628F1861C2AD ∷ f64 0x3FEFFFFFFFFEF388 ∷ zero64 ∷ [])
      ∷ (f64 0xBEE3689A3FC40746 ∷ f64 0x3DC3E02885015648 ∷ f64 0x3FEFFFFFFFFA1D3A ∷ [])
      ∷ (f64 0x3FEFFFFFFFF910C1 ∷ f64 0xBED0628F185EBF29 ∷ f64 0x3EE3689A3FC4AA1A ∷ [])
      ∷ [];
  roll = record { cos_t = f64 0x3FEFF0177C765D66; sin_t = f64 0x3FAFE48371347B77; ps = f64 0x3F50000000000000 };
  cut = f64 0x3D719799812DEA11;
}

abbrev sums_2_2 : Counted
sums_2_2 = record {
  sums = record {
    ata =
        (f64 0x3F4D862140000000 ∷ f64 0x3F9BAC6C1F962F5B ∷ f64 0x3F9063701FA501A6 ∷ [])
        ∷ (f64 0x3F9BAC6C1F962F5B ∷ f64 0x4021000000000000 ∷ zero64 ∷ [])
        ∷ (f64 0x3F9063701FA501A6 ∷ zero64 ∷ f64 0x4021000000000000 ∷ [])
        ∷ [];
    atb = f64 0x3E522516A3B6FE3A ∷ f64 0x3EFE48155C542400 ∷ f64 0xBF0C2D27FF48D3DF ∷ [];
  };
  n = 4;
}

pass_2_2 : Pass k.cut rows_2 pose_1 view_2_2 sums_2_2
    (f64 0x3F018C08B6987684) (f64 0x3ECB9B9115CA2943) (f64 0xBEDAC884166FA791) pose_2 true false
unfolding view_of with_rows no_matches solved_sums moved sound still arithmetic
pass_2_2 = record { enough = refl; view = refl; sums = refl; solution = refl; pose = refl; soundness = refl; stillness = refl }

abbrev pose_3 : Pose
pose_3 = record {
  theta = f64 0x3FAFEE302506F291;
  ra = f64 0xBEA4A65F09CF54BB;
  dec = f64 0x3EC8122924305817;
  scale = f64 0x3F50000000000000;
}

abbrev view_2_3 : View
view_2_3 = record {
  basis =
      (f64 0x3EA4A6346BF04B9A ∷ f64 0x3FEFFFFFFFFFF957 ∷ zero64 ∷ [])
      ∷ (f64 0xBEC81160D23A83B5 ∷ f64 0x3D7F0FBC2E26A351 ∷ f64 0x3FEFFFFFFFFF6F2F ∷ [])
      ∷ (f64 0x3FEFFFFFFFFF6885 ∷ f64 0xBEA4A6346BEFEE26 ∷ f64 0x3EC81160D23A88B8 ∷ [])
      ∷ [];
  roll = record { cos_t = f64 0x3FEFF0131CEBF9A9; sin_t = f64 0x3FAFE8E444CC8960; ps = f64 0x3F50000000000000 };
  cut = f64 0x3D719799812DEA11;
}

abbrev sums_2_3 : Counted
sums_2_3 = record {
  sums = record {
    ata =
        (f64 0x3F4D86213FFFFFFE ∷ f64 0x3F9BAC482D27575A ∷ f64 0x3F9063ACD24AE0E0 ∷ [])
        ∷ (f64 0x3F9BAC482D27575A ∷ f64 0x4021000000000000 ∷ zero64 ∷ [])
        ∷ (f64 0x3F9063ACD24AE0E0 ∷ zero64 ∷ f64 0x4021000000000000 ∷ [])
        ∷ [];
    atb = f64 0xBD89F9F771214000 ∷ f64 0xBDFC59230C800000 ∷ f64 0x3E29582AD8605C00 ∷ [];
  };
  n = 4;
}

pass_2_3 : Pass k.cut rows_2 pose_2 view_2_3 sums_2_3
    (f64 0xBE43B0D1C3F4CCE2) (f64 0xBDB54EEF83D92241) (f64 0x3DF90A3EB5620DC1) pose_3 true false
unfolding view_of with_rows no_matches solved_sums moved sound still arithmetic
pass_2_3 = record { enough = refl; view = refl; sums = refl; solution = refl; pose = refl; soundness = refl; stillness = refl }

abbrev pose_4 : Pose
pose_4 = record {
  theta = f64 0x3FAFEE30250A8C6D;
  ra = f64 0xBEA4A65F0F4D73E6;
  dec = f64 0x3EC81229209A47E9;
  scale = f64 0x3F50000000000000;
}

abbrev view_2_4 : View
view_2_4 = record {
  basis =
      (f64 0x3EA4A65F09CF534D ∷ f64 0x3FEFFFFFFFFFF957 ∷ zero64 ∷ [])
      ∷ (f64 0xBEC8122924302EC2 ∷ f64 0x3D7F10FED2AA1B17 ∷ f64 0x3FEFFFFFFFFF6F26 ∷ [])
      ∷ (f64 0x3FEFFFFFFFFF687C ∷ f64 0xBEA4A65F09CEF5D3 ∷ f64 0x3EC81229243033C5 ∷ [])
      ∷ [];
  roll = record { cos_t = f64 0x3FEFF0131D3A840F; sin_t = f64 0x3FAFE8E3F63074E8; ps = f64 0x3F50000000000000 };
  cut = f64 0x3D719799812DEA11;
}

abbrev sums_2_4 : Counted
sums_2_4 = record {
  sums = record {
    ata =
        (f64 0x3F4D862140000000 ∷ f64 0x3F9BAC482FACC6EB ∷ f64 0x3F9063ACCE0913ED ∷ [])
        ∷ (f64 0x3F9BAC482FACC6EB ∷ f64 0x4021000000000000 ∷ zero64 ∷ [])
        ∷ (f64 0x3F9063ACCE0913ED ∷ zero64 ∷ f64 0x4021000000000000 ∷ [])
        ∷ [];
    atb = f64 0x3CCCF6E5EC000000 ∷ f64 0xBD25C66000000000 ∷ f64 0xBD4ACB3E31000000 ∷ [];
  };
  n = 4;
}

pass_2_4 : Pass k.cut rows_2 pose_3 view_2_4 sums_2_4
    (f64 0x3D7CCEE3745956BD) (f64 0xBD05F87CABD68F38) (f64 0xBD1CB08170CB1BA6) pose_4 true true
unfolding view_of with_rows no_matches solved_sums moved sound still arithmetic
pass_2_4 = record { enough = refl; view = refl; sums = refl; solution = refl; pose = refl; soundness = refl; stillness = refl }

passes_2 : fit_passes 10 k.cut rows_2 pose_0 ≡ passes_of pose_4 4 true
passes_2 = next_pass 9 pass_2_1
    (next_pass 8 pass_2_2
    (next_pass 7 pass_2_3
    (last_pass 6 pass_2_4)))

abbrev view_2 : View
view_2 = record {
  basis =
      (f64 0x3EA4A65F0F4D7278 ∷ f64 0x3FEFFFFFFFFFF957 ∷ zero64 ∷ [])
      ∷ (f64 0xBEC81229209A1E94 ∷ f64 0x3D7F10FED64CA76A ∷ f64 0x3FEFFFFFFFFF6F26 ∷ [])
      ∷ (f64 0x3FEFFFFFFFFF687C ∷ f64 0xBEA4A65F0F4D14FE ∷ f64 0x3EC81229209A2397 ∷ [])
      ∷ [];
  roll = record { cos_t = f64 0x3FEFF0131D3A8078; sin_t = f64 0x3FAFE8E3F6340CF9; ps = f64 0x3F50000000000000 };
  cut = f64 0x3D719799812DEA11;
}

abbrev residuals_2 : List Float
residuals_2 = f64 0x3EC3C4BB5221C04B ∷ f64 0x3EBE9FC1179DBA8E ∷ f64 0x3EA85A1ABBFA3466 ∷ f64 0x3ED0D41BAF950EDD ∷ []

measured_2 : Measured k rows_2 pose_4 (1 ∷ 1 ∷ 0 ∷ 0 ∷ 3 ∷ 3 ∷ 2 ∷ 2 ∷ []) view_2 residuals_2
    None
    (1 ∷ 1 ∷ 0 ∷ 0 ∷ 3 ∷ 3 ∷ 2 ∷ 2 ∷ []) (f64 0x3FF0624DE0000000)
unfolding view_of residuals statistics clipped adaptive_px arithmetic
measured_2 = record { view = refl; values = refl; summary = refl; clip = refl; radius = refl }

abbrev centre_2 : List Float
centre_2 = f64 0x3FEFFFFFFFFF687C ∷ f64 0xBEA4A65F0F4D14FE ∷ f64 0x3EC81229209A2397 ∷ []

abbrev camera_2 : List (List Float)
camera_2 =
    (f64 0x3E9D37CCECF17003 ∷ f64 0x3FEFF0131D3A7DB2 ∷ f64 0x3FAFE8E3F6337C8A ∷ [])
    ∷ (f64 0xBEC8588C425B072D ∷ f64 0xBFAFE8E3F6302623 ∷ f64 0x3FEFF0131D39EFE6 ∷ [])
    ∷ (f64 0x3FEFFFFFFFFF687C ∷ f64 0xBEA4A65F0F4D14FE ∷ f64 0x3EC81229209A2397 ∷ [])
    ∷ []

abbrev predictions_2 : List Prediction
predictions_2 =
    record { direction = 0; x = f64 0x402470EA7CC10FA7; y = f64 0xBFE4846F8AAE5E23 }
    ∷ record { direction = 1; x = f64 0xC01FAE708F0FCC92; y = f64 0x401261EA876DB8B7 }
    ∷ record { direction = 2; x = f64 0x4005F8C9BC99AA2D; y = f64 0x4026391567CDE491 }
    ∷ record { direction = 3; x = f64 0xC00DA155C1A5A654; y = f64 0xC024102EC7EA2842 }
    ∷ []

abbrev state_2 : State
state_2 = record {
  pose = pose_4;
  matches = 1 ∷ 1 ∷ 0 ∷ 0 ∷ 3 ∷ 3 ∷ 2 ∷ 2 ∷ [];
  cache = full centre_2 pose_4.theta (0 ∷ 1 ∷ 2 ∷ 3 ∷ []);
}

queried_2 : Queried k spots directions pose_4 (1 ∷ 1 ∷ 0 ∷ 0 ∷ 3 ∷ 3 ∷ 2 ∷ 2 ∷ []) (f64 0x3FF0624DE0000000)
    centre_2 (one64 ∷ f64 0xBEA4A65F00000000 ∷ f64 0x3EC8122920000000 ∷ []) (f64 0x3FEFDEECE0000000)
    (0 ∷ 1 ∷ 2 ∷ 3 ∷ []) camera_2 (0 ∷ 1 ∷ 2 ∷ 3 ∷ []) predictions_2 (done state_2) 5
unfolding boresight axis32 least_cos scanned camera_rows pruned predictions points_of associated compared arithmetic
queried_2 = record { centre = refl; narrow = refl; least = refl; scan = refl; camera = refl; cached = refl; places = refl; matcher = refl; counted = refl }

drifted_2 : drifted k pose_4 centre_1 pose_0.theta ≡ true
unfolding drifted arithmetic
drifted_2 = refl

round_2 : round k spots directions state_1 ≡ round_of (done state_2) ((0 ∷ 1 ∷ 2 ∷ 3 ∷ []) ∷ []) 4 5
round_2 = whole_round k spots directions state_1 looked_2 passes_2 measured_2
    (new_search queried_2 centre_1 pose_0.theta (0 ∷ 1 ∷ 2 ∷ 3 ∷ []) drifted_2)

run : loop k spots directions 3 state_0 ≡ ran_of (ended state_2) 2 4 ((0 ∷ 1 ∷ 2 ∷ 3 ∷ []) ∷ (0 ∷ 1 ∷ 2 ∷ 3 ∷ []) ∷ []) 5
run = go_round k spots directions 2 state_0 round_1 (done_round k spots directions 1 state_1 round_2)

-- ---- the whole call

-- What each of its queries lists.
pub second_query_listed : queries second_query_call ≡ (0 ∷ 1 ∷ 2 ∷ 3 ∷ []) ∷ (0 ∷ 1 ∷ 2 ∷ 3 ∷ []) ∷ []
second_query_listed = queried_call begun run

looked_last : rows spots directions (1 ∷ 1 ∷ 0 ∷ 0 ∷ 3 ∷ 3 ∷ 2 ∷ 2 ∷ []) ≡ rows_2
unfolding rows
looked_last = refl

abbrev normal : Counted
normal = record {
  sums = record {
    ata =
        (f64 0x3F4D862140000000 ∷ f64 0x3F9BAC482FACA968 ∷ f64 0x3F9063ACCE0945C1 ∷ [])
        ∷ (f64 0x3F9BAC482FACA968 ∷ f64 0x4021000000000000 ∷ zero64 ∷ [])
        ∷ (f64 0x3F9063ACCE0945C1 ∷ zero64 ∷ f64 0x4021000000000000 ∷ [])
        ∷ [];
    atb = zero64 ∷ zero64 ∷ zero64 ∷ [];
  };
  n = 4;
}

abbrev matrix : List (List Float)
matrix =
    (f64 0x3F4FF0131D3A8078 ∷ f64 0xBF0FE8E3F6340CF9 ∷ [])
    ∷ (f64 0x3F0FE8E3F6340CF9 ∷ f64 0x3F4FF0131D3A8078 ∷ [])
    ∷ []

abbrev spread : List (List Float)
spread =
    (f64 0x3E3BEAAECA8B0BCF ∷ f64 0xBDB6B8C3A5ABD96B ∷ f64 0xBDAAE9F8D8D78925 ∷ [])
    ∷ (f64 0xBDB6B8C3A5ABD96B ∷ f64 0x3D676E40FBC85ECA ∷ f64 0x3D25E7D315B1164D ∷ [])
    ∷ (f64 0xBDAAE9F8D8D78925 ∷ f64 0x3D25E7D315B1164D ∷ f64 0x3D65EE0A521798CB ∷ [])
    ∷ []

reported : Reported k pose_4 rows_2 view_2 residuals_2
    (f64 0x3DBC0C7554BFBB8A) normal matrix (f64 0x3EC52F3498084076) spread
unfolding view_of residuals in_front sum_squares normal_matrix cd_from_theta root_mean covariance_from_normal arithmetic
reported = record { view = refl; values = refl; squares = refl; normal = refl; matrix = refl; mean = refl; spread = refl }

-- What it comes to.
pub second_query_row : outcome second_query_call ≡ record {
  answer = ok (report_of pose_4 matrix (f64 0x3EC52F3498084076) spread (1 ∷ 1 ∷ 0 ∷ 0 ∷ 3 ∷ 3 ∷ 2 ∷ 2 ∷ [])) 2 4 2 5;
  lent = record {
    numbers = replicate 144 0;
    floats = replicate 144 zero64;
    distances = replicate 64 zero64;
    indices = replicate 128 0;
    result = 1 ∷ 1 ∷ 0 ∷ 0 ∷ 3 ∷ 3 ∷ 2 ∷ 2 ∷ 39 ∷ 40 ∷ 41 ∷ 42 ∷ [];
  };
}
unfolding left
second_query_row = accepted_call begun run
    (no_clip k spots directions 2 pose_4 (1 ∷ 1 ∷ 0 ∷ 0 ∷ 3 ∷ 3 ∷ 2 ∷ 2 ∷ []) refl) looked_last reported
