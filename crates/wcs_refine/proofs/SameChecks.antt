-- Two calls that are alike in all but unseen spots and directions meet the same refusal on entry, or none; and what no refusal says of a call. Assumes nothing.
use Rattle.std.proofs.Common.{◌≡◌, ℕ, zero, suc, ◌+◌, ◌*◌, ◌/◌, ◌%◌, ◌<◌, ◌≤◌, Bool, true, false, cond, ◌&&◌, T, List, [], ◌∷◌, length, get_or, sym, refl, ap, ◌∙◌, subst, inl, inr, eq-or-lt_of_le, arith, lit<}
use lib.Ieee.{Float, nan}
use lib.Ieee.Fits.{and_l, and_r}
use Rattle.panel.specs.Spots.{spot_numbers, spot_at}
use Rattle.fit.specs.Rows.{direction_at}
use Rattle.panel.specs.declared.Spot.{Spot}
use Rattle.entry.specs.Arguments.{Call, Given, spot_count, direction_count}
use Rattle.entry.specs.Check.{lawful_place, lawful_weight, lawful_component, every_spot, every, rotation_fits, numbers_fit, weights_fit, counts_refused, measures_refused, numbers_refused, weights_refused, names_refused, or_else, refusal_of, refusal}
use Rattle.entry.proofs.Stages.{and_left, counts_passed}
use Rattle.wcs_refine.specs.Unseen.{LawfulSpot, OnlyUnseen}
use Rattle.wcs_refine.proofs.CallBounds.{checked, divided}
use Rattle.wcs_refine.proofs.Unchanged.{spot_dec, direction_dec}

-- ---- along a list
every_same : (f : Float → Bool) (xs ys : List Float) → length xs ≡ length ys → ((i : ℕ) → i < length xs → f (get_or xs i nan) ≡ f (get_or ys i nan)) → every f xs ≡ every f ys
unfolding every
every_same f [] [] e h = refl
every_same f [] (y ∷ ys) e h = absurd (omega arith)
every_same f (x ∷ xs) [] e h = absurd (omega arith)
every_same f (x ∷ xs) (y ∷ ys) e h = λ t. h 0 (omega arith) t && every_same f xs ys (omega arith) (λ i l. h (suc i) (omega arith)) t

pub every_at : (f : Float → Bool) (xs : List Float) → T (every f xs) → (i : ℕ) → i < length xs → T (f (get_or xs i nan))
unfolding every
every_at f [] t i l = absurd (omega arith)
every_at f (x ∷ xs) t zero l = and_l (f x) (every f xs) t
every_at f (x ∷ xs) t (suc i) l = every_at f xs (and_r (f x) (every f xs) t) i (omega arith)

-- the same along spots
spots_same : (f : Spot → Bool) (sa sb : List Float) (i k : ℕ) → ((n : ℕ) → n < i + k → f (spot_at sa n) ≡ f (spot_at sb n)) → every_spot f sa i k ≡ every_spot f sb i k
unfolding every_spot
spots_same f sa sb i zero h = refl
spots_same f sa sb i (suc k) h = λ t. h i (omega arith) t && spots_same f sa sb (suc i) k (λ n l. h n (omega arith)) t

spots_at : (f : Spot → Bool) (spots : List Float) (i k : ℕ) → T (every_spot f spots i k) → (n : ℕ) → i ≤ n → n < i + k → T (f (spot_at spots n))
unfolding every_spot
spots_at f spots i zero t n l h = absurd (omega arith)
spots_at f spots i (suc k) t n l h = elim (eq-or-lt_of_le l) [
  | inl e ↦ subst (λ (j : ℕ). T (f (spot_at spots j))) e (and_l (f (spot_at spots i)) (every_spot f spots (suc i) k) t)
  | inr m ↦ spots_at f spots (suc i) k (and_r (f (spot_at spots i)) (every_spot f spots (suc i) k) t) n m (omega arith)
]

both : (x y : Bool) → T x → T y → x ≡ y
both false y t u = elim t [ ]
both true false t u = elim u [ ]
both true true t u = refl

-- ---- what no refusal says
pub record Accepted (c : Call) : Type 0 where
  pub spots : length c.spots % spot_numbers ≡ 0
  pub directions : length c.directions % 3 ≡ 0
  pub lawful : (i : ℕ) → i < spot_count c → LawfulSpot (spot_at c.spots i)

pub accepted : (c : Call) → refusal c ≡ 0 → Accepted c
unfolding numbers_fit weights_fit
accepted c h =
    let k = checked c h in
    let w = divided (length c.spots) (length c.given.matches) (length c.directions) k.even in
    let e = every_spot lawful_place c.spots 0 (spot_count c) in
    let d = every lawful_component c.directions in
    let u = subst T (sym k.weights) tt in
    let t = subst T (sym (and_left e d (and_left (e && d) (rotation_fits c.given.rotation) k.numbers))) tt in
    record {
      spots = w.0;
      directions = w.2;
      lawful = λ i l. (
        spots_at lawful_place c.spots 0 (spot_count c) t i (omega arith) (omega arith),
        spots_at lawful_weight c.spots 0 (spot_count c) u i (omega arith) (omega arith),
      );
    }

-- what comes after a stage that passes
or_same : (n x y : ℕ) → (n ≡ 0 → x ≡ y) → or_else n x ≡ or_else n y
unfolding or_else
or_same zero x y h = h refl
or_same (suc n) x y h = refl

-- ---- two calls with the same other arguments
abbrev pub made : List Float → List Float → Given → Call
made s d g = record { spots = s; directions = d; given = g }

-- a number is lawful in both, or in neither
abbrev Agree : (Float → Bool) → List Float → List Float → ℕ → Type 0
Agree f xs ys n = f (get_or xs n nan) ≡ f (get_or ys n nan)

module _ (g : Given) (sa sb da db : List Float) (ls : length sa ≡ length sb) (ld : length da ≡ length db) (un : OnlyUnseen (made sa da g) (made sb db g)) where
  abbrev a : Call
  a = made sa da g

  abbrev b : Call
  b = made sb db g

  -- a test that lawful spots pass says the same of each spot
  spot_lawful : (f : Spot → Bool) → ((s : Spot) → LawfulSpot s → T (f s)) → (i : ℕ) → i < spot_count a → f (spot_at sa i) ≡ f (spot_at sb i)
  spot_lawful f p i h = go (spot_dec (spot_at sa i) (spot_at sb i))
    where
      go : Dec (spot_at sa i ≡ spot_at sb i) → f (spot_at sa i) ≡ f (spot_at sb i)
      go (yes e) = ap f e
      go (no n) = let u = un.spot i h n in both _ _ (p (spot_at sa i) u.0.lawful) (p (spot_at sb i) u.1.lawful)

  every_spot_same : (f : Spot → Bool) → ((s : Spot) → LawfulSpot s → T (f s)) → every_spot f sa 0 (spot_count a) ≡ every_spot f sb 0 (spot_count b)
  every_spot_same f p =
      spots_same f sa sb 0 (spot_count a) (λ n l. spot_lawful f p n (omega arith))
      ∙ ap (λ (n : ℕ). every_spot f sb 0 (n / spot_numbers)) ls

  direction_lawful : (j : ℕ) → j < direction_count a → Agree lawful_component da db (3 * j) × Agree lawful_component da db (3 * j + 1) × Agree lawful_component da db (3 * j + 2)
  unfolding direction_at
  direction_lawful j h = go (direction_dec (direction_at da j) (direction_at db j))
    where
      part : (n : ℕ) → direction_at da j ≡ direction_at db j → lawful_component (get_or (direction_at da j) n nan) ≡ lawful_component (get_or (direction_at db j) n nan)
      part n e = ap (λ (v : List Float). lawful_component (get_or v n nan)) e

      go : Dec (direction_at da j ≡ direction_at db j) → Agree lawful_component da db (3 * j) × Agree lawful_component da db (3 * j + 1) × Agree lawful_component da db (3 * j + 2)
      go (yes e) = (part 0 e, part 1 e, part 2 e)
      go (no n) =
          let u = un.direction j h n in
          let x = every_at lawful_component (direction_at da j) u.0.lawful in
          let y = every_at lawful_component (direction_at db j) u.1.lawful in
          (both _ _ (x 0 (lit< tt)) (y 0 (lit< tt)), both _ _ (x 1 (lit< tt)) (y 1 (lit< tt)), both _ _ (x 2 (lit< tt)) (y 2 (lit< tt)))

  component_lawful : length da % 3 ≡ 0 → (i : ℕ) → i < length da → Agree lawful_component da db i
  component_lawful d i h = go (i % 3) refl (direction_lawful (i / 3) (omega arith))
    where
      go : (r : ℕ) → i % 3 ≡ r → Agree lawful_component da db (3 * (i / 3)) × Agree lawful_component da db (3 * (i / 3) + 1) × Agree lawful_component da db (3 * (i / 3) + 2)
          → Agree lawful_component da db i
      go zero e p = let s : 3 * (i / 3) ≡ i = omega arith in subst (Agree lawful_component da db) s p.0
      go (suc zero) e p = let s : 3 * (i / 3) + 1 ≡ i = omega arith in subst (Agree lawful_component da db) s p.1
      go (suc (suc r)) e p = let s : 3 * (i / 3) + 2 ≡ i = omega arith in subst (Agree lawful_component da db) s p.2

  -- the counts are of the lengths
  abbrev counts : ℕ → ℕ → ℕ
  counts s d = counts_refused s (length g.matches) d g.rounds

  numbers_same : counts (length sa) (length da) ≡ 0 → numbers_refused sa da g.rotation ≡ numbers_refused sb db g.rotation
  unfolding numbers_refused numbers_fit
  numbers_same z =
      let w = divided (length sa) (length g.matches) (length da) (counts_passed (length sa) (length g.matches) (length da) g.rounds z).0 in
      let s = every_spot_same lawful_place (λ s l. l.0) in
      let d = every_same lawful_component da db ld (component_lawful w.2) in
      λ i. cond (s i && d i && rotation_fits g.rotation) 0 9

  weights_same : weights_refused sa ≡ weights_refused sb
  unfolding weights_refused weights_fit
  weights_same = ap (λ (x : Bool). cond x 0 17) (every_spot_same lawful_weight (λ s l. l.1))

  -- after the counts, the lawfulness of the numbers and of the weights and again the lengths decide
  abbrev later : ℕ → ℕ → ℕ → ℕ → ℕ
  later numbers weights s d =
      or_else (measures_refused g.scale g.radius g.cut)
      (or_else numbers
      (or_else weights (names_refused g.matches (s / spot_numbers) (d / 3) g.limit (length g.lent.numbers) (length g.lent.floats) (length g.lent.result))))

  abbrev later_of : List Float → List Float → ℕ
  later_of ss ds = later (numbers_refused ss ds g.rotation) (weights_refused ss) (length ss) (length ds)

  pub refusal_same : refusal a ≡ refusal b
  unfolding refusal refusal_of
  refusal_same =
      or_same (counts (length sa) (length da)) (later_of sa da) (later_of sb db) (λ z i. later (numbers_same z i) (weights_same i) (ls i) (ld i))
      ∙ (λ i. or_else (counts (ls i) (ld i)) (later_of sb db))
