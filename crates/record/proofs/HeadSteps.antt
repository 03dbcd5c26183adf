-- The head of a record, number by number, and the header that it makes. Assumes nothing.
use mathlib.Core.Path.{◌≡◌, refl, sym, ap, subst, ◌∙◌}
use Prim.Native.Nat.{ℕ, zero, suc, ◌+◌, ◌-◌, ◌^◌, ◌≤◌, ◌<◌}
use native.Mathlib.Omega.{arith}
use Rattle.std.specs.Prelude.{Err}
use mathlib.Core.List.{List, [], ◌∷◌, map}
use Rattle.std.proofs.lemmas.List.{get_or-map}
use lib.Pow.{pow_pos}
use native.Mathlib.Numerals.{add-one}
use lib.Dec.{eqb}
use lib.ListN.{length, get_or, take, drop, set, replicate, get_or-replicate, length-set, drop_of_length-le}
use lib.Seq.{drop-cons, take-suc-set, take_all, get_or-drop}
use lib.Ieee.{Float, binary32, binary64, of_bits}
use Rattle.refusal.specs.declared.Refusal.{Refusal}
use Rattle.refusal.specs.Number.{number_of}
use Rattle.record.specs.Number.{number, numbered}
use Rattle.record.specs.Reading.{values, fault, numbers}
use Rattle.record.specs.Head.{head_spots, head_matches, head_directions, head_mirror, head_scale, head_radius, head_cut}
use Rattle.record.specs.Head.{head_limit, head_rounds, head_rotation, head_size, head_bits, place}
use Rattle.record.specs.Header.{rotation_row}
use Rattle.record.specs.Passes.{Fit, header_from}
use Rattle.record.specs.declared.Header.{Header}
use Rattle.record.proofs.RunSteps.{past, past_is, ahead, one, one_got, one_refused, numbers_one, ahead_none, ahead_first}

pub other_bits : (i : ℕ) → i < head_size → (i ≡ head_mirror → ⊥) → (i ≡ head_scale → ⊥) → (i ≡ head_cut → ⊥) → get_or head_bits i 0 ≡ 32
other_bits zero h f g k = refl
other_bits (suc zero) h f g k = refl
other_bits (suc (suc zero)) h f g k = refl
other_bits (suc (suc (suc zero))) h f g k = absurd (f refl)
other_bits (suc (suc (suc (suc zero)))) h f g k = absurd (g refl)
other_bits (suc (suc (suc (suc (suc zero))))) h f g k = refl
other_bits (suc (suc (suc (suc (suc (suc zero)))))) h f g k = absurd (k refl)
other_bits (suc (suc (suc (suc (suc (suc (suc zero))))))) h f g k = refl
other_bits (suc (suc (suc (suc (suc (suc (suc (suc zero)))))))) h f g k = refl
other_bits (suc (suc (suc (suc (suc (suc (suc (suc (suc i))))))))) h f g k = get_or-replicate 9 i 32 0 (omega arith)

-- The greatest number of each place.
pub top_is : (i : ℕ) → i < head_size → get_or (map (λ (b : ℕ). 2 ^ b - 1) head_bits) i 0 + 1 ≡ 2 ^ get_or head_bits i 0
top_is i h = omega (arith, get_or-map (λ (b : ℕ). 2 ^ b - 1) head_bits i 0 0 h, pow_pos (get_or head_bits i 0))

-- ---- the loop: the first i numbers are read, and what is left lies in `rest`

pub record Heading (bytes h rest : List ℕ) (i : ℕ) : Type 0 where
  pub size : length h ≡ head_size
  pub inside : i ≤ head_size
  pub is : numbers head_bits bytes ≡ ahead (take i h) (numbers (drop i head_bits) rest)

pub heading_first : (bytes : List ℕ) → Heading bytes (replicate head_size 0) bytes 0
heading_first bytes = record { size = refl; inside = omega arith; is = ahead_first (numbers head_bits bytes) }

module _ (bytes h rest : List ℕ) (i : ℕ) (p : Heading bytes h rest i) where
  pub headed : head_size ≤ i → numbers head_bits bytes ≡ values h rest
  unfolding numbers
  headed k =
      p.is ∙ ap (λ (bs : List ℕ). ahead (take i h) (numbers bs rest)) (drop_of_length-le head_bits k)
      ∙ ahead_none (take i h) rest ∙ ap (λ (l : List ℕ). values l rest) (take_all i h (omega (arith, p.size)))

  module _ (k : i < head_size) where
    open_one : numbers head_bits bytes ≡ ahead (take i h) (one (get_or head_bits i 0) rest (numbers (drop (suc i) head_bits)))
    open_one =
        p.is ∙ ap (λ (bs : List ℕ). ahead (take i h) (numbers bs rest)) (drop-cons head_bits i 0 k)
        ∙ ap (ahead (take i h)) (numbers_one (get_or head_bits i 0) (drop (suc i) head_bits) rest)

    pub heading_on : {v n : ℕ} → number (get_or head_bits i 0) rest ≡ numbered v n → Heading bytes (set h i v) (past n rest) (i + 1)
    heading_on {v} {n} e = record {
      size = length-set h i v ∙ p.size;
      inside = omega arith;
      is =
          open_one ∙ one_got (get_or head_bits i 0) rest (numbers (drop (suc i) head_bits)) (take i h) e
          ∙ ap (λ (l : List ℕ). ahead l (numbers (drop (suc i) head_bits) (drop n rest))) (sym (take-suc-set h i v (omega (arith, p.size))))
          ∙ ap (λ (j : ℕ). ahead (take j (set h i v)) (numbers (drop j head_bits) (drop n rest))) (sym (add-one i))
          ∙ ap (λ (l : List ℕ). ahead (take (i + 1) (set h i v)) (numbers (drop (i + 1) head_bits) l)) (past_is n rest);
    }

    pub heading_refused : {r : Refusal} → number (get_or head_bits i 0) rest ≡ Err r → numbers head_bits bytes ≡ fault (number_of r)
    heading_refused e = open_one ∙ one_refused (get_or head_bits i 0) rest (numbers (drop (suc i) head_bits)) (take i h) e

-- ---- the header

pub rotation_fits : (h : List ℕ) (i : ℕ) → Fit head_bits h → head_rotation ≤ i → i < head_size → place h i < 2 ^ 32
rotation_fits h i f a b =
    let w = other_bits i b (λ z. omega arith) (λ z. omega arith) (λ z. omega arith) in
    subst (λ (n : ℕ). place h i < 2 ^ n) w (f i b)

row_at : (h : List ℕ) (i j k : ℕ)
    → rotation_row h (head_rotation + i) (head_rotation + j) (head_rotation + k) ≡ rotation_row (drop head_rotation h) i j k
row_at h i j k =
    let a = get_or-drop head_rotation h i 0 in
    let b = get_or-drop head_rotation h j 0 in
    let c = get_or-drop head_rotation h k 0 in
    cc

abbrev pub header : List ℕ → Float → Float → Float → List Float → List Float → List Float → Header
header h scale radius cut x y z = record {
  spots = place h head_spots;
  matches = place h head_matches;
  directions = place h head_directions;
  mirror = eqb (place h head_mirror) 1;
  scale = scale;
  radius = radius;
  cut = cut;
  limit = place h head_limit;
  rounds = place h head_rounds;
  rotation = x ∷ y ∷ z ∷ [];
}

pub made : (h : List ℕ) {scale radius cut : Float} {x y z : List Float}
    → scale ≡ of_bits binary64 (place h head_scale) → radius ≡ of_bits binary32 (place h head_radius) → cut ≡ of_bits binary64 (place h head_cut)
    → x ≡ rotation_row h head_rotation (head_rotation + 1) (head_rotation + 2)
    → y ≡ rotation_row h (head_rotation + 3) (head_rotation + 4) (head_rotation + 5)
    → z ≡ rotation_row h (head_rotation + 6) (head_rotation + 7) (head_rotation + 8) → header h scale radius cut x y z ≡ header_from h
unfolding header_from
made h a b c d e f =
    let i = row_at h 0 1 2 in
    let j = row_at h 3 4 5 in
    let k = row_at h 6 7 8 in
    cc
