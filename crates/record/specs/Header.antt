-- What the reader hands back and leaves in the lent lists. Definitions only. Assumes nothing.
use Rattle.std.specs.Prelude.{ℕ, ◌/◌, Bool, false, cond, ◌&&◌, List, [], ◌∷◌, leb, eqb, length, get_or, Float, Result, Ok, Err}
use Rattle.std.specs.Float.{Format, binary32, binary64}
use Rattle.std.specs.Float.Ieee.{of_bits}
use Rattle.lists.specs.Fronted.{fronted}
use Rattle.rounding.specs.Arith.{zero64}
use Rattle.panel.specs.Spots.{spot_numbers}
use Rattle.refusal.specs.declared.Refusal.{Refusal}
use Rattle.refusal.specs.Number.{number_of}
use Rattle.record.specs.Layout.{Exposure}
use Rattle.record.specs.Reading.{Read, refused, whole, reading}
use Rattle.record.specs.declared.Header.{Header}

-- "Floats travel as their bits."
unfoldable pub floats_of : Format → List ℕ → List Float
floats_of f [] = []
floats_of f (b ∷ bs) = of_bits f b ∷ floats_of f bs

-- three of the rotation's entries
abbrev pub rotation_row : List ℕ → ℕ → ℕ → ℕ → List Float
rotation_row l i j k = of_bits binary32 (get_or l i 0) ∷ of_bits binary32 (get_or l j 0) ∷ of_bits binary32 (get_or l k 0) ∷ []

-- What is handed back: the number of the refusal, 0 where there is none, and what the record says beside its three lists.
pub record Handed : Type 0 where
  pub refusal : ℕ
  pub spots : ℕ
  pub matches : ℕ
  pub directions : ℕ
  pub mirror : Bool
  pub scale : Float
  pub radius : Float
  pub cut : Float
  pub limit : ℕ
  pub rounds : ℕ
  pub rotation : List (List Float)

-- "A refusal gives its number; pose and counts are zero."
unfoldable pub refused_header : ℕ → Handed
refused_header n =
    let z = zero64 ∷ zero64 ∷ zero64 ∷ [] in
    record {
      refusal = n;
      spots = 0;
      matches = 0;
      directions = 0;
      mirror = false;
      scale = zero64;
      radius = zero64;
      cut = zero64;
      limit = 0;
      rounds = 0;
      rotation = z ∷ z ∷ z ∷ [];
    }

-- The numbers of a record, with the counts of its lists.
unfoldable pub header_of : Exposure → Handed
header_of e = record {
  refusal = 0;
  spots = length e.spots / spot_numbers;
  matches = length e.matches / 2;
  directions = length e.directions / 3;
  mirror = eqb e.mirror 1;
  scale = of_bits binary64 e.scale;
  radius = of_bits binary32 e.radius;
  cut = of_bits binary64 e.cut;
  limit = e.limit;
  rounds = e.rounds;
  rotation = rotation_row e.rotation 0 1 2 ∷ rotation_row e.rotation 3 4 5 ∷ rotation_row e.rotation 6 7 8 ∷ [];
}

-- A header of the code, beside a number,
abbrev pub numbered : ℕ → Header → Handed
numbered n h = record {
  refusal = n;
  spots = h.spots;
  matches = h.matches;
  directions = h.directions;
  mirror = h.mirror;
  scale = h.scale;
  radius = h.radius;
  cut = h.cut;
  limit = h.limit;
  rounds = h.rounds;
  rotation = h.rotation;
}

-- and what the code answers, as it is handed back.
unfoldable pub handed : Result Header Refusal → Handed
unfolding refused_header
handed (Ok h) = numbered 0 h
handed (Err r) = refused_header (number_of r)

-- The header, and the three lists afterwards.
pub record Intake : Type 0 where
  pub header : Handed
  pub spots : List Float
  pub matches : List ℕ
  pub directions : List Float

-- The four together, in the order of the code.
abbrev pub intake : Handed → List Float → List ℕ → List Float → Intake
intake h spots matches directions = record { header = h; spots = spots; matches = matches; directions = directions }

-- 11: "Reading a record into spot, match or direction lists too short for it is 11 too, after 4; longer ones stay unchanged past it."
abbrev pub room : Exposure → List Float → List ℕ → List Float → Bool
room e spots matches directions =
    leb (length e.spots) (length spots) && leb (length e.matches) (length matches)
    && leb (length e.directions) (length directions)

-- What was read, taken into the lists: a refusal leaves them as they came.
unfoldable pub taken : Read → List Float → List ℕ → List Float → Intake
unfolding refused_header header_of floats_of
taken (refused n) spots matches directions = intake (refused_header n) spots matches directions
taken (whole e) spots matches directions =
    cond (room e spots matches directions)
    (intake (header_of e) (fronted (floats_of binary64 e.spots) spots) (fronted e.matches matches)
    (fronted (floats_of binary32 e.directions) directions))
    (intake (refused_header 11) spots matches directions)

-- The whole of reading a record into three lent lists.
unfoldable pub read_record : List ℕ → List Float → List ℕ → List Float → Intake
unfolding taken reading
read_record bytes spots matches directions = taken (reading bytes) spots matches directions
