-- What is claimed of reading, against the layout, both ways. Definitions only; the proofs are in proofs/Layouts.antt. Assumes nothing.
use Rattle.std.specs.Prelude.{◌≡◌, ℕ, suc, ◌^◌, ◌≤◌, ◌<◌, List, [], ◌∷◌, ◌++◌, length, take, Err}
use Rattle.refusal.specs.declared.Refusal.TheVariants.{EndsEarly, WrongNumber}
use Rattle.record.specs.Number.{written, numbered, number}
use Rattle.record.specs.Layout.{Exposure, Whole, record_of}
use Rattle.record.specs.Reading.{refused, whole, most_bytes, reading}

-- A list of bytes.
abbrev pub Octets : List ℕ → Type 0
Octets [] = Unit {0}
Octets (b ∷ l) = (b < 256) × Octets l

-- These bytes begin some lawful thing, and more of it follows. `Bytes` says which byte lists are lawful things.
abbrev pub Begins : (List ℕ → Type 0) → List ℕ → Type 0
Begins Bytes l = (b : ℕ) × (rest : List ℕ) × Bytes (l ++ b ∷ rest)

-- At place i the bytes stop having a lawful ending: those before it begin something lawful, those up to it neither are nor begin anything lawful.
pub record SpoiledAt (Bytes : List ℕ → Type 0) (l : List ℕ) (i : ℕ) : Type 0 where
  pub inside : i < length l
  pub before : Begins Bytes (take i l)
  pub none : (rest : List ℕ) → Bytes (take (suc i) l ++ rest) → ⊥

-- ---- a number of so many bits

-- The bytes of a number of so many bits: its written form.
abbrev pub NumberBytes : ℕ → List ℕ → Type 0
NumberBytes bits l = (n : ℕ) × (n < 2 ^ bits) × (l ≡ written n)

-- Its written form is read as its value, and what is read is the written form of the value.
abbrev pub NumberReads : Type 0
NumberReads =
    (bits n : ℕ) (rest : List ℕ) → bits ≤ 64 → n < 2 ^ bits
    → number bits (written n ++ rest) ≡ numbered n (length (written n))

-- A number that was read: it fits its bits, and the bytes that it took are its written form.
pub record NumberRead (bits : ℕ) (l : List ℕ) (n k : ℕ) : Type 0 where
  pub small : n < 2 ^ bits
  pub bytes : take k l ≡ written n
  pub count : k ≡ length (written n)

-- Whatever is read as a number is that.
abbrev pub NumberMeans : Type 0
NumberMeans = (bits n k : ℕ) (l : List ℕ) → Octets l → bits ≤ 64 → number bits l ≡ numbered n k → NumberRead bits l n k

-- Each refusal exactly under its condition.
abbrev pub NumberShort : Type 0
NumberShort =
    (bits : ℕ) (l : List ℕ) → Octets l → bits ≤ 64
    → (number bits l ≡ Err EndsEarly → Begins (NumberBytes bits) l) × (Begins (NumberBytes bits) l → number bits l ≡ Err EndsEarly)

-- 3: at some byte the number has no lawful ending any more.
abbrev pub NumberWrong : Type 0
NumberWrong =
    (bits : ℕ) (l : List ℕ) → Octets l → bits ≤ 64
    → (number bits l ≡ Err WrongNumber → (i : ℕ) × SpoiledAt (NumberBytes bits) l i)
    × ((i : ℕ) → SpoiledAt (NumberBytes bits) l i → number bits l ≡ Err WrongNumber)

-- ---- a record

-- The bytes of a record: those that the layout gives for some exposure.
abbrev pub RecordBytes : List ℕ → Type 0
RecordBytes l = (e : Exposure) × Whole e × (l ≡ record_of e)

-- What the layout accepts is read as its values.
abbrev pub RecordReads : Type 0
RecordReads = (e : Exposure) → Whole e → length (record_of e) ≤ most_bytes → reading (record_of e) ≡ whole e

-- Whatever is read is what the layout says.
pub record RecordRead (l : List ℕ) (e : Exposure) : Type 0 where
  pub small : length l ≤ most_bytes
  pub lawful : Whole e
  pub bytes : l ≡ record_of e

-- So for every list of bytes.
abbrev pub RecordMeans : Type 0
RecordMeans = (l : List ℕ) (e : Exposure) → Octets l → reading l ≡ whole e → RecordRead l e

-- Refusals 1 to 4, each exactly under its condition.
abbrev pub RecordLong : Type 0
RecordLong =
    (l : List ℕ) → (reading l ≡ refused 1 → most_bytes < length l) × (most_bytes < length l → reading l ≡ refused 1)

-- 2: the bytes begin a record, and more of it would follow.
abbrev pub RecordShort : Type 0
RecordShort =
    (l : List ℕ) → Octets l → length l ≤ most_bytes
    → (reading l ≡ refused 2 → Begins RecordBytes l) × (Begins RecordBytes l → reading l ≡ refused 2)

-- 3: at some byte the record has no lawful ending any more.
abbrev pub RecordWrong : Type 0
RecordWrong =
    (l : List ℕ) → Octets l → length l ≤ most_bytes
    → (reading l ≡ refused 3 → (i : ℕ) × SpoiledAt RecordBytes l i)
    × ((i : ℕ) → SpoiledAt RecordBytes l i → reading l ≡ refused 3)

-- A record, and bytes after it.
abbrev pub Followed : List ℕ → Type 0
Followed l = (e : Exposure) × (b : ℕ) × (rest : List ℕ) × Whole e × (l ≡ record_of e ++ b ∷ rest)

-- 4: "Bytes follow the last number."
abbrev pub RecordFollowed : Type 0
RecordFollowed =
    (l : List ℕ) → Octets l → length l ≤ most_bytes
    → (reading l ≡ refused 4 → Followed l) × (Followed l → reading l ≡ refused 4)
