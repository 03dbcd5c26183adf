-- Whole calls, computed by the check from the written meaning: each comes to the answer that the reference gives, after these queries.
-- Written by tools/rows/rows.py. Assumes nothing.
use Rattle.std.specs.Prelude.{◌≡◌, List, [], ◌∷◌, ℕ, replicate}
use Rattle.rounding.specs.Arith.{f64, zero64}
use Rattle.entry.specs.Arguments.{Call}
use Rattle.wcs_refine.specs.Call.{Outcome, no, ok, outcome, queries}
use Rattle.calls.specs.FarTurn.{far_turn_call, far_turn_row, far_turn_listed}
use Rattle.calls.specs.ManyPairs.{many_pairs_call, many_pairs_row, many_pairs_listed}
use Rattle.calls.specs.NoList.{no_list_call, no_list_row, no_list_listed}
use Rattle.calls.specs.SecondQuery.{second_query_call, second_query_row, second_query_listed}
use Rattle.calls.specs.OneClip.{one_clip_call, one_clip_row, one_clip_listed}
use Rattle.calls.specs.LastClip.{last_clip_call, last_clip_row, last_clip_listed}
use Rattle.calls.specs.Grazing.{grazing_call, grazing_row, grazing_listed}

-- A call, its answer with the lists that it leaves, and what each of its queries lists.
pub record Row : Type 0 where
  pub call : Call
  pub answered : Outcome
  pub listed : List (List ℕ)

-- What a row says of the written meaning of its call (`outcome` and `queries` in Call.antt of wcs_refine).
pub record Holds (r : Row) : Type 0 where
  pub answers : outcome r.call ≡ r.answered
  pub lists : queries r.call ≡ r.listed

-- Every row of a list holds.
abbrev pub All : List Row → Type 0
All [] = Unit
All (r ∷ rs) = Holds r × All rs

-- A fit pass that turns the camera past 1,024: refusal 12.
abbrev pub far_turn : Row
far_turn = record {
  call = far_turn_call;
  answered = record {
    answer = no 12;
    lent = record {
      numbers = replicate 144 0;
      floats = replicate 144 zero64;
      distances = replicate 64 zero64;
      indices = replicate 128 0;
      result = 31 ∷ 32 ∷ 33 ∷ 34 ∷ 35 ∷ 36 ∷ 37 ∷ 38 ∷ [];
    };
  };
  listed = [];
}

-- More pairs within the radius than the candidate lists hold: refusal 13.
abbrev pub many_pairs : Row
many_pairs = record {
  call = many_pairs_call;
  answered = record {
    answer = no 13;
    lent = record {
      numbers = replicate 144 0;
      floats = replicate 144 zero64;
      distances = replicate 16 zero64;
      indices = replicate 16 0;
      result = 31 ∷ 32 ∷ 33 ∷ 34 ∷ 35 ∷ 36 ∷ 37 ∷ 38 ∷ 39 ∷ 40 ∷ 41 ∷ 42 ∷ [];
    };
  };
  listed = (0 ∷ 1 ∷ 2 ∷ 3 ∷ []) ∷ [];
}

-- The same with the matcher that scans: it needs no place for a pair, and compares none.
abbrev pub no_list : Row
no_list = record {
  call = no_list_call;
  answered = record {
    answer = ok (record {
      pose = record {
        theta = f64 0x3FAFEE30250A8C6D;
        ra = f64 0xBEA4A65F0F4D73E6;
        dec = f64 0x3EC81229209A47E9;
        scale = f64 0x3F50000000000000;
      };
      cd =
          (f64 0x3F4FF0131D3A8078 ∷ f64 0xBF0FE8E3F6340CF9 ∷ [])
          ∷ (f64 0x3F0FE8E3F6340CF9 ∷ f64 0x3F4FF0131D3A8078 ∷ [])
          ∷ [];
      rms = f64 0x3EC52F3498084076;
      covariance =
          (f64 0x3E3BEAAECA8B0BCF ∷ f64 0xBDB6B8C3A5ABD96B ∷ f64 0xBDAAE9F8D8D78925 ∷ [])
          ∷ (f64 0xBDB6B8C3A5ABD96B ∷ f64 0x3D676E40FBC85ECA ∷ f64 0x3D25E7D315B1164D ∷ [])
          ∷ (f64 0xBDAAE9F8D8D78925 ∷ f64 0x3D25E7D315B1164D ∷ f64 0x3D65EE0A521798CB ∷ [])
          ∷ [];
      matches = 1 ∷ 1 ∷ 0 ∷ 0 ∷ 3 ∷ 3 ∷ 2 ∷ 2 ∷ [];
    }) 2 4 1 0;
    lent = record {
      numbers = replicate 144 0;
      floats = replicate 144 zero64;
      distances = replicate 0 zero64;
      indices = replicate 0 0;
      result = 1 ∷ 1 ∷ 0 ∷ 0 ∷ 3 ∷ 3 ∷ 2 ∷ 2 ∷ 39 ∷ 40 ∷ 41 ∷ 42 ∷ [];
    };
  };
  listed = (0 ∷ 1 ∷ 2 ∷ 3 ∷ []) ∷ [];
}

-- Two rounds: the matches of the first turn the camera past the margin, and the second queries anew.
abbrev pub second_query : Row
second_query = record {
  call = second_query_call;
  answered = record {
    answer = ok (record {
      pose = record {
        theta = f64 0x3FAFEE30250A8C6D;
        ra = f64 0xBEA4A65F0F4D73E6;
        dec = f64 0x3EC81229209A47E9;
        scale = f64 0x3F50000000000000;
      };
      cd =
          (f64 0x3F4FF0131D3A8078 ∷ f64 0xBF0FE8E3F6340CF9 ∷ [])
          ∷ (f64 0x3F0FE8E3F6340CF9 ∷ f64 0x3F4FF0131D3A8078 ∷ [])
          ∷ [];
      rms = f64 0x3EC52F3498084076;
      covariance =
          (f64 0x3E3BEAAECA8B0BCF ∷ f64 0xBDB6B8C3A5ABD96B ∷ f64 0xBDAAE9F8D8D78925 ∷ [])
          ∷ (f64 0xBDB6B8C3A5ABD96B ∷ f64 0x3D676E40FBC85ECA ∷ f64 0x3D25E7D315B1164D ∷ [])
          ∷ (f64 0xBDAAE9F8D8D78925 ∷ f64 0x3D25E7D315B1164D ∷ f64 0x3D65EE0A521798CB ∷ [])
          ∷ [];
      matches = 1 ∷ 1 ∷ 0 ∷ 0 ∷ 3 ∷ 3 ∷ 2 ∷ 2 ∷ [];
    }) 2 4 2 5;
    lent = record {
      numbers = replicate 144 0;
      floats = replicate 144 zero64;
      distances = replicate 64 zero64;
      indices = replicate 128 0;
      result = 1 ∷ 1 ∷ 0 ∷ 0 ∷ 3 ∷ 3 ∷ 2 ∷ 2 ∷ 39 ∷ 40 ∷ 41 ∷ 42 ∷ [];
    };
  };
  listed = (0 ∷ 1 ∷ 2 ∷ 3 ∷ []) ∷ (0 ∷ 1 ∷ 2 ∷ 3 ∷ []) ∷ [];
}

-- A clip: one of six starting matches lies too far off, and five are left.
abbrev pub one_clip : Row
one_clip = record {
  call = one_clip_call;
  answered = record {
    answer = ok (record {
      pose = record {
        theta = f64 0x3F9BBCAEDB24BB27;
        ra = f64 0xBF0D72BAD36CF482;
        dec = f64 0x3EC6C20FE4165FC2;
        scale = f64 0x3F50000000000000;
      };
      cd =
          (f64 0xBF4FFCFEB4172BAB ∷ f64 0xBEFBBBD09463C89C ∷ [])
          ∷ (f64 0xBEFBBBD09463C89C ∷ f64 0x3F4FFCFEB4172BAB ∷ [])
          ∷ [];
      rms = f64 0x3F1C9C2A98248B3D;
      covariance =
          (f64 0x3EE1A23C4824F92B ∷ f64 0xBE52049508A28E32 ∷ f64 0x3E7AD647B7C03EFE ∷ [])
          ∷ (f64 0xBE52049508A28E32 ∷ f64 0x3DC6F34FB02F5960 ∷ f64 0xBDEB6BF4947C5A03 ∷ [])
          ∷ (f64 0x3E7AD647B7C03EFE ∷ f64 0xBDEB6BF4947C5A03 ∷ f64 0x3E14904F2C5E6FEB ∷ [])
          ∷ [];
      matches = 0 ∷ 0 ∷ 1 ∷ 1 ∷ 2 ∷ 2 ∷ 3 ∷ 3 ∷ 5 ∷ 5 ∷ [];
    }) 1 5 1 5;
    lent = record {
      numbers = replicate 288 0;
      floats = replicate 288 zero64;
      distances = replicate 256 zero64;
      indices = replicate 512 0;
      result = 0 ∷ 0 ∷ 1 ∷ 1 ∷ 2 ∷ 2 ∷ 3 ∷ 3 ∷ 5 ∷ 5 ∷ 41 ∷ 42 ∷ 43 ∷ 44 ∷ [];
    };
  };
  listed = (0 ∷ 1 ∷ 2 ∷ 3 ∷ 4 ∷ 5 ∷ []) ∷ [];
}

-- Two rounds with one query, used up, and a clip with its fit at the closing.
abbrev pub last_clip : Row
last_clip = record {
  call = last_clip_call;
  answered = record {
    answer = ok (record {
      pose = record {
        theta = f64 0x3F62C959497A1118;
        ra = f64 0xBEF080B11847A8AC;
        dec = f64 0x3EE7A0D96FB14CE7;
        scale = f64 0x3F50000000000000;
      };
      cd =
          (f64 0x3F4FFFFA7C4479E5 ∷ f64 0xBEC2C9583535F322 ∷ [])
          ∷ (f64 0x3EC2C9583535F322 ∷ f64 0x3F4FFFFA7C4479E5 ∷ [])
          ∷ [];
      rms = f64 0x3F1D70D70EAB54C6;
      covariance =
          (f64 0x3EEA21F3CF7EE562 ∷ f64 0x3E6607C8FF136766 ∷ f64 0xBE3A704B34F95B79 ∷ [])
          ∷ (f64 0x3E6607C8FF136766 ∷ f64 0x3E0DC4399BAE9996 ∷ f64 0xBDB649D4293B8326 ∷ [])
          ∷ (f64 0xBE3A704B34F95B79 ∷ f64 0xBDB649D4293B8326 ∷ f64 0x3E093A5B183FFABB ∷ [])
          ∷ [];
      matches = 1 ∷ 1 ∷ 0 ∷ 0 ∷ 2 ∷ 2 ∷ 6 ∷ 6 ∷ 4 ∷ 4 ∷ 3 ∷ 3 ∷ [];
    }) 2 5 1 12;
    lent = record {
      numbers = replicate 224 0;
      floats = replicate 224 zero64;
      distances = replicate 64 zero64;
      indices = replicate 128 0;
      result = 1 ∷ 1 ∷ 0 ∷ 0 ∷ 2 ∷ 2 ∷ 6 ∷ 6 ∷ 4 ∷ 4 ∷ 3 ∷ 3 ∷ 43 ∷ 44 ∷ 45 ∷ 46 ∷ [];
    };
  };
  listed = (0 ∷ 1 ∷ 2 ∷ 3 ∷ 4 ∷ 5 ∷ 6 ∷ []) ∷ [];
}

-- A direction whose denominator is the cut: a query lists it, and it is neither predicted nor cached, though in the second round it would fit.
abbrev pub grazing : Row
grazing = record {
  call = grazing_call;
  answered = record {
    answer = ok (record {
      pose = record {
        theta = f64 0x3F27511A1A787E01;
        ra = f64 0x3F01301868C20CFE;
        dec = f64 0xBEB520ED870F34EF;
        scale = f64 0x3F50000000000000;
      };
      cd =
          (f64 0x3F4FFFFFF7814E77 ∷ f64 0xBE87511A18684B99 ∷ [])
          ∷ (f64 0x3E87511A18684B99 ∷ f64 0x3F4FFFFFF7814E77 ∷ [])
          ∷ [];
      rms = f64 0x3ED3B8D23AFBB369;
      covariance =
          (f64 0x3E67513A518EBD6C ∷ f64 0x3DCDE04F379521A6 ∷ f64 0xBDA4BEE6B9DF9E55 ∷ [])
          ∷ (f64 0x3DCDE04F379521A6 ∷ f64 0x3D93BF312E291492 ∷ f64 0xBD0A94CD7137A5E1 ∷ [])
          ∷ (f64 0xBDA4BEE6B9DF9E55 ∷ f64 0xBD0A94CD7137A5E1 ∷ f64 0x3D9374F06DE181BD ∷ [])
          ∷ [];
      matches = 1 ∷ 1 ∷ 2 ∷ 2 ∷ 0 ∷ 0 ∷ 3 ∷ 3 ∷ [];
    }) 2 3 1 5;
    lent = record {
      numbers = replicate 176 0;
      floats = replicate 176 zero64;
      distances = replicate 64 zero64;
      indices = replicate 128 0;
      result = 1 ∷ 1 ∷ 2 ∷ 2 ∷ 0 ∷ 0 ∷ 3 ∷ 3 ∷ 39 ∷ 40 ∷ 41 ∷ 42 ∷ [];
    };
  };
  listed = (0 ∷ 1 ∷ 2 ∷ 3 ∷ 4 ∷ []) ∷ [];
}

-- The rows, in this order.
abbrev pub rows : List Row
rows = far_turn ∷ many_pairs ∷ no_list ∷ second_query ∷ one_clip ∷ last_clip ∷ grazing ∷ []

far_turn_holds : Holds far_turn
far_turn_holds = record { answers = far_turn_row; lists = far_turn_listed }

many_pairs_holds : Holds many_pairs
many_pairs_holds = record { answers = many_pairs_row; lists = many_pairs_listed }

no_list_holds : Holds no_list
no_list_holds = record { answers = no_list_row; lists = no_list_listed }

second_query_holds : Holds second_query
second_query_holds = record { answers = second_query_row; lists = second_query_listed }

one_clip_holds : Holds one_clip
one_clip_holds = record { answers = one_clip_row; lists = one_clip_listed }

last_clip_holds : Holds last_clip
last_clip_holds = record { answers = last_clip_row; lists = last_clip_listed }

grazing_holds : Holds grazing
grazing_holds = record { answers = grazing_row; lists = grazing_listed }

-- Every row holds.
pub calls : All rows
calls = (far_turn_holds, (many_pairs_holds, (no_list_holds, (second_query_holds, (one_clip_holds, (last_clip_holds, (grazing_holds, tt)))))))
