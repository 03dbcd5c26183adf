-- Tests of every number or spot of a list, one by one from the front: what is said of the whole is said of the rest from i on. Assumes nothing.
use mathlib.Core.Path.{◌≡◌, ◌∙◌, sym, ap, refl}
use mathlib.Core.Bool.{Bool, true, false}
use mathlib.Core.List.{List, [], ◌∷◌}
use Prim.Native.Nat.{ℕ, suc, ◌+◌, ◌-◌, ◌*◌, ◌/◌, ◌≤◌, ◌<◌}
use native.Mathlib.Numerals.{add-one}
use native.Mathlib.Omega.{arith}
use borrow.Author.Tests.{lt-ltb, le-ltb}
use lib.Ieee.{Float, nan}
use lib.ListN.{get_or, length, drop, length-drop, drop_of_length-le}
use lib.Seq.{drop-cons}
use Rattle.panel.specs.Spots.{spot_at}
use Rattle.panel.specs.declared.Spot.{Spot}
use Rattle.entry.specs.Check.{every_spot, every, named}

-- what a test of the code, `if !f(..)`, says of what f means
pub failed : {a b : Bool} → a ≡ b → a ≡ false → b ≡ false
failed e h = sym e ∙ h

pub passed : {a b : Bool} → a ≡ b → a ≡ true → b ≡ true
passed e h = sym e ∙ h

module _ (f : Float → Bool) (l : List Float) (i : ℕ) (whole : every f l ≡ every f (drop i l)) where
  pub every_next : i < length l → f (get_or l i nan) ≡ true → every f l ≡ every f (drop (i + 1) l)
  unfolding every
  every_next h e =
      let s : every f (drop i l) ≡ every f (drop (i + 1) l) = rw (add-one i, drop-cons l i nan h, e) in
      whole ∙ s

  pub every_stop : i < length l → f (get_or l i nan) ≡ false → every f l ≡ false
  unfolding every
  every_stop h e =
      let s : every f (drop i l) ≡ false = rw (drop-cons l i nan h, e) in
      whole ∙ s

  pub every_done : length l ≤ i → every f l ≡ true
  unfolding every
  every_done h = whole ∙ ap (every f) (drop_of_length-le l h)

-- the same of the first n spots
module _ (f : Spot → Bool) (l : List Float) (n i : ℕ) (whole : every_spot f l 0 n ≡ every_spot f l i (n - i)) where
  pub spots_next : i < n → f (spot_at l i) ≡ true → every_spot f l 0 n ≡ every_spot f l (i + 1) (n - (i + 1))
  unfolding every_spot
  spots_next h e =
      let k : n - i ≡ suc (n - (i + 1)) = omega arith in
      let s : every_spot f l i (n - i) ≡ every_spot f l (i + 1) (n - (i + 1)) = rw (k, add-one i, e) in
      whole ∙ s

  pub spots_stop : i < n → f (spot_at l i) ≡ false → every_spot f l 0 n ≡ false
  unfolding every_spot
  spots_stop h e =
      let k : n - i ≡ suc (n - (i + 1)) = omega arith in
      let s : every_spot f l i (n - i) ≡ false = rw (k, e) in
      whole ∙ s

  pub spots_done : n ≤ i → every_spot f l 0 n ≡ true
  unfolding every_spot
  spots_done h =
      let k : n - i ≡ 0 = omega arith in
      whole ∙ ap (every_spot f l i) k

-- the two places of the match i
two : (ms : List ℕ) (i : ℕ) → 2 * i + 1 < length ms → drop (2 * i) ms ≡ get_or ms (2 * i) 0 ∷ get_or ms (2 * i + 1) 0 ∷ drop (2 * (i + 1)) ms
two ms i h =
    let e : 2 * (i + 1) ≡ suc (suc (2 * i)) = omega arith in
    let e1 : 2 * i + 1 ≡ suc (2 * i) = omega arith in
    let h0 : 2 * i < length ms = omega arith in
    let h1 : suc (2 * i) < length ms = omega arith in
    drop-cons ms (2 * i) 0 h0 ∙ rw (e, e1, drop-cons ms (suc (2 * i)) 0 h1)

short : (s d : ℕ) (l : List ℕ) → length l ≤ 1 → named s d l ≡ true
unfolding named
short s d [] h = refl
short s d (x ∷ []) h = refl
short s d (x ∷ y ∷ l) h = absurd (omega arith)

module _ (s d : ℕ) (ms : List ℕ) (i : ℕ) (whole : named s d ms ≡ named s d (drop (2 * i) ms)) where
  pub named_next : 2 * i + 1 < length ms → get_or ms (2 * i) 0 < s → get_or ms (2 * i + 1) 0 < d → named s d ms ≡ named s d (drop (2 * (i + 1)) ms)
  unfolding named
  named_next h a b = whole ∙ (ap (named s d) (two ms i h) ∙ rw (lt-ltb _ _ a, lt-ltb _ _ b))

  pub no_spot : 2 * i + 1 < length ms → s ≤ get_or ms (2 * i) 0 → named s d ms ≡ false
  unfolding named
  no_spot h a = whole ∙ (ap (named s d) (two ms i h) ∙ rw (le-ltb _ _ a))

  pub no_direction : 2 * i + 1 < length ms → get_or ms (2 * i) 0 < s → d ≤ get_or ms (2 * i + 1) 0 → named s d ms ≡ false
  unfolding named
  no_direction h a b = whole ∙ (ap (named s d) (two ms i h) ∙ rw (lt-ltb _ _ a, le-ltb _ _ b))

  pub named_done : length ms / 2 ≤ i → named s d ms ≡ true
  named_done h = whole ∙ short s d (drop (2 * i) ms) (omega (arith, length-drop (2 * i) ms))
