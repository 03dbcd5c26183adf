-- 01, "The exposure record": its fields, and the bytes that hold them. Definitions only. Assumes nothing.
use Rattle.std.specs.Prelude.{◌≡◌, ℕ, ◌/◌, ◌%◌, ◌^◌, ◌<◌, List, [], ◌∷◌, ◌++◌, length}
use Rattle.panel.specs.Spots.{spot_numbers}
use Rattle.record.specs.Number.{written}

-- What a record holds: whole numbers, and floats as their bits. Spots are three numbers each (x, y, weight), matches two, directions three; the
-- rotation is nine, by rows.
pub record Exposure : Type 0 where
  pub mirror : ℕ
  pub scale : ℕ
  pub radius : ℕ
  pub cut : ℕ
  pub limit : ℕ
  pub rounds : ℕ
  pub rotation : List ℕ
  pub spots : List ℕ
  pub matches : List ℕ
  pub directions : List ℕ

-- A number, and how many bits it may have.
pub record Field : Type 0 where
  pub bits : ℕ
  pub value : ℕ

-- The two together.
abbrev pub field : ℕ → ℕ → Field
field b v = record { bits = b; value = v }

-- A run of numbers of the same bits.
unfoldable pub each : ℕ → List ℕ → List Field
each b [] = []
each b (v ∷ vs) = field b v ∷ each b vs

-- "In order: the counts of spots, matches and directions (32 bits each); mirror (1 bit, 1 is `parity_flip`); scale bits (64); radius bits (32);
-- matching limit (32); rounds (32); nine rotation entries by rows (32 each); spot coordinates (64); match indices (32); components (32)."
-- 02, CR 2: "The record gets the number's 64 bits after the radius": the plane cut.
-- 02, CR 8: "Record and spot lists carry three numbers a spot": x, y and weight of each in turn, 64 bits each.
unfoldable pub fields : Exposure → List Field
unfolding each
fields e =
    field 32 (length e.spots / spot_numbers) ∷ field 32 (length e.matches / 2) ∷ field 32 (length e.directions / 3)
    ∷ field 1 e.mirror ∷ field 64 e.scale ∷ field 32 e.radius ∷ field 64 e.cut
    ∷ field 32 e.limit ∷ field 32 e.rounds
    ∷ each 32 e.rotation ++ each 64 e.spots ++ each 32 e.matches ++ each 32 e.directions

-- Each number in its shortest form, one after another.
unfoldable pub written_fields : List Field → List ℕ
unfolding written
written_fields [] = []
written_fields (f ∷ fs) = written f.value ++ written_fields fs

-- The bytes of a record.
unfoldable pub record_of : Exposure → List ℕ
unfolding fields written_fields
record_of e = written_fields (fields e)

-- ---- which exposures have a record

-- Refusal 3 turned round: no number exceeds its field.
abbrev pub AllFit : List Field → Type 0
AllFit [] = Unit {0}
AllFit (f ∷ fs) = (f.value < 2 ^ f.bits) × AllFit fs

-- Nine entries of a rotation, three numbers for each spot and direction, two for each match, and every number within its field.
pub record Whole (e : Exposure) : Type 0 where
  pub rotation : length e.rotation ≡ 9
  pub spots : length e.spots % spot_numbers ≡ 0
  pub matches : length e.matches % 2 ≡ 0
  pub directions : length e.directions % 3 ≡ 0
  pub fit : AllFit (fields e)
