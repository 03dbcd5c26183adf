-- What the reader's inner functions hand to each other: the head, the bytes of the lists, and what stands there. Definitions only. Assumes nothing.
use Rattle.std.specs.Prelude.{◌≡◌, ℕ, ◌+◌, ◌*◌, ◌^◌, ◌≤◌, ◌<◌, List, [], ◌∷◌, eqb, length, get_or, drop, Result, Ok, Err}
use Rattle.std.specs.Borrow.{Bor}
use Rattle.std.specs.Float.{binary32, binary64}
use Rattle.std.specs.Float.Ieee.{of_bits}
use Rattle.panel.specs.Spots.{spot_numbers}
use Rattle.refusal.specs.declared.Refusal.{Refusal}
use Rattle.refusal.specs.Number.{number_of}
use Rattle.record.specs.Number.{numbered, number}
use Rattle.record.specs.Head.{head_spots, head_matches, head_directions, head_mirror, head_scale, head_radius, head_cut}
use Rattle.record.specs.Head.{head_limit, head_rounds, head_rotation, head_bits, place, exposure}
use Rattle.record.specs.Reading.{Values, values, fault, numbers, run, refused, whole, reading}
use Rattle.record.specs.Header.{rotation_row}
use Rattle.record.specs.declared.Header.{Header}
use Rattle.record.specs.declared.heads.Head.{Head}
use Rattle.record.specs.declared.whole.Found.{Found}

-- The greatest number of so many bits.
pub record Greatest (top : ℕ) : Type 0 where
  pub bits : ℕ
  pub is : top + 1 ≡ 2 ^ bits

-- A refusal by its number, or what was read.
unfoldable pub answered : {A : Type 0} → (A → Values) → Result A Refusal → Values
answered f (Ok a) = f a
answered f (Err r) = fault (number_of r)

-- Each number below the power of two that its bits give.
abbrev pub Fit : List ℕ → List ℕ → Type 0
Fit bits vs = (i : ℕ) → i < length bits → get_or vs i 0 < 2 ^ get_or bits i 0

-- What the head comes to: its refusal, or its numbers and the bytes after them.
abbrev pub head_of : List ℕ → Result Head Refusal → Type 0
head_of bytes r = numbers head_bits bytes ≡ answered (λ h. values h.numbers h.rest.now) r

-- A run that was gone over: some values, and the bytes after them.
pub record Over (x : Values) (r : Result (Bor (List ℕ)) Refusal) : Type 0 where
  pub passed : List ℕ
  pub is : x ≡ answered (λ rest. values passed rest.now) r

-- Bytes that are known to begin with a number.
pub record Lies (bytes : List ℕ) : Type 0 where
  pub bits : ℕ
  pub narrow : bits ≤ 64
  pub value : ℕ
  pub count : ℕ
  pub is : number bits bytes ≡ numbered value count

-- k numbers at the front of bytes
pub record Standing (k bits : ℕ) (bytes vs : List ℕ) : Type 0 where
  pub rest : List ℕ
  pub is : run k bits bytes ≡ values vs rest

-- A lawful record, with the bytes of its lists.
pub record Lawful (bytes : List ℕ) (r : Found) : Type 0 where
  pub spots : List ℕ
  pub matches : List ℕ
  pub directions : List ℕ
  pub fit : Fit head_bits r.numbers
  pub spots_at : Standing (spot_numbers * place r.numbers head_spots) 64 r.spots.now spots
  pub matches_at : Standing (2 * place r.numbers head_matches) 32 r.matches.now matches
  pub directions_at : Standing (3 * place r.numbers head_directions) 32 r.directions.now directions
  pub is : reading bytes ≡ whole (exposure r.numbers spots matches directions)

-- What the first pass hands on: the refusal, or a lawful record's numbers and bytes.
abbrev pub FoundIn : List ℕ → Result Found Refusal → Type 0
FoundIn bytes (Ok r) = Lawful bytes r
FoundIn bytes (Err r) = reading bytes ≡ refused (number_of r)

-- What the head says.
unfoldable pub header_from : List ℕ → Header
header_from h = record {
  spots = place h head_spots;
  matches = place h head_matches;
  directions = place h head_directions;
  mirror = eqb (place h head_mirror) 1;
  scale = of_bits binary64 (place h head_scale);
  radius = of_bits binary32 (place h head_radius);
  cut = of_bits binary64 (place h head_cut);
  limit = place h head_limit;
  rounds = place h head_rounds;
  rotation = rotation_row (drop head_rotation h) 0 1 2 ∷ rotation_row (drop head_rotation h) 3 4 5 ∷ rotation_row (drop head_rotation h) 6 7 8 ∷ [];
}
