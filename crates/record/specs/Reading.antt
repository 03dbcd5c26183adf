-- Reading a record: refusals 1 to 4, and its fields. Definitions only. Assumes nothing.
use Rattle.std.specs.Prelude.{ℕ, zero, suc, ◌*◌, cond, List, [], ◌∷◌, ltb, length, drop, Result, Ok, Err}
use Rattle.panel.specs.Spots.{spot_numbers}
use Rattle.refusal.specs.declared.Refusal.{Refusal}
use Rattle.refusal.specs.Number.{number_of}
use Rattle.record.specs.declared.Number.{Number}
use Rattle.record.specs.Number.{number}
use Rattle.record.specs.Layout.{Exposure}
use Rattle.record.specs.Head.{head_spots, head_matches, head_directions, head_bits, place, exposure}

-- Numbers and the bytes after them, or the refusal of the first fault.
pub data Values : Type 0 where
  values : List ℕ → List ℕ → Values
  fault : ℕ → Values

-- What follows numbers that were read; a fault stays.
unfoldable pub onward : Values → (List ℕ → List ℕ → Values) → Values
onward (values vs rest) f = f vs rest
onward (fault n) f = fault n

-- What follows a number: `after` of its value and the bytes after it.
unfoldable pub following : List ℕ → Result Number Refusal → (ℕ → List ℕ → Values) → Values
following bytes (Ok n) after = after n.value (drop n.bytes bytes)
following bytes (Err r) after = fault (number_of r)

-- A number of each of these bits in turn.
unfoldable pub numbers : List ℕ → List ℕ → Values
unfolding onward following number
numbers [] bytes = values [] bytes
numbers (b ∷ bs) bytes =
    following bytes (number b bytes) (λ v rest. onward (numbers bs rest) (λ vs more. values (v ∷ vs) more))

-- k numbers of the same bits.
unfoldable pub run : ℕ → ℕ → List ℕ → Values
unfolding onward following number
run zero b bytes = values [] bytes
run (suc k) b bytes =
    following bytes (number b bytes) (λ v rest. onward (run k b rest) (λ vs more. values (v ∷ vs) more))

-- A record read: refused with a number, or what it holds.
pub data Read : Type 0 where
  refused : ℕ → Read
  whole : Exposure → Read

-- 4: "Bytes follow the last number."
unfoldable pub closed : Exposure → List ℕ → Read
closed e [] = whole e
closed e (b ∷ bs) = refused 4

-- What follows numbers that were read; a fault is the record's refusal.
unfoldable pub then : Values → (List ℕ → List ℕ → Read) → Read
then (values vs rest) f = f vs rest
then (fault n) f = refused n

-- After the head h, the three lists, as long as it counts.
unfoldable pub body : List ℕ → List ℕ → Read
unfolding run then closed
body h bytes =
    then (run (spot_numbers * place h head_spots) 64 bytes) (λ spots after_spots.
    then (run (2 * place h head_matches) 32 after_spots) (λ matches after_matches.
    then (run (3 * place h head_directions) 32 after_matches) (λ directions rest.
    closed (exposure h spots matches directions) rest)))

-- 1: "The record is longer than 65,536 bytes."
abbrev pub most_bytes : ℕ
most_bytes = 65536

-- "The record is longer than 65,536 bytes" comes first; of 2 and 3 the first fault along the record counts.
unfoldable pub reading : List ℕ → Read
unfolding numbers then body
reading bytes = cond (ltb most_bytes (length bytes)) (refused 1) (then (numbers head_bits bytes) (λ h rest. body h rest))
