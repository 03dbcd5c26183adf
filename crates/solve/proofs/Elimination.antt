-- The steps of the solver's loops: each definition goes on from where one turn leaves it. Assumes nothing.
use Rattle.std.proofs.Common.{◌≡◌, ℕ, zero, suc, ◌-◌, ◌<◌, ◌≤◌, Bool, true, false, cond, List, [], ◌∷◌, ◌++◌, map, length, get_or, take, drop, set, sym, refl, ap, ◌∙◌, le_of_suc-le-suc, not-suc-le-zero, arith}
use lib.Ieee.{Float, nan, lt}
use Rattle.rounding.specs.Arith.{◌⊖◌, ◌⊗◌}
use Rattle.rounding.specs.Methods.{abs_f}
use Rattle.solve.specs.Vector.{entry}
use Rattle.solve.specs.Solve.{better, best_from, pivot_of, usable, swapped, minus_from, eliminated, solved_from, substituted}
use Rattle.solve.specs.declared.Pivot.{Pivot}
use Rattle.solve.specs.declared.Solution.{Solution}
use Rattle.solve.specs.declared.Solution.TheVariants.{Failed}

-- ---- `minus_from`, one place at a time

pub minus_next : (f : Float) (xs ps : List Float) (j : ℕ) → j < length xs → j < length ps →
    minus_from (suc j) f (set xs j (get_or xs j nan ⊖ f ⊗ get_or ps j nan)) ps ≡ minus_from j f xs ps
unfolding minus_from
minus_next f [] ps j h k = absurd (not-suc-le-zero h)
minus_next f (x ∷ xs) [] j h k = absurd (not-suc-le-zero k)
minus_next f (x ∷ xs) (p ∷ ps) zero h k = refl
minus_next f (x ∷ xs) (p ∷ ps) (suc j) h k = ap (λ (l : List Float). x ∷ l) (minus_next f xs ps j (le_of_suc-le-suc h) (le_of_suc-le-suc k))

-- past the end nothing is left to do
pub minus_done : (f : Float) (xs ps : List Float) (j : ℕ) → length xs ≤ j → minus_from j f xs ps ≡ xs
unfolding minus_from
minus_done f [] ps j h = refl
minus_done f (x ∷ xs) [] j h = refl
minus_done f (x ∷ xs) (p ∷ ps) zero h = absurd (not-suc-le-zero h)
minus_done f (x ∷ xs) (p ∷ ps) (suc j) h = ap (λ (l : List Float). x ∷ l) (minus_done f xs ps j (le_of_suc-le-suc h))

-- ---- a map over the end of a list, one element at a time

module _ {A : Type 0} (g : A → A) where
  pub map_next : (xs : List A) (i : ℕ) (d : A) → i < length xs →
      take (suc i) (set xs i (g (get_or xs i d))) ++ map g (drop (suc i) (set xs i (g (get_or xs i d)))) ≡ take i xs ++ map g (drop i xs)
  map_next [] i d h = absurd (not-suc-le-zero h)
  map_next (x ∷ xs) zero d h = refl
  map_next (x ∷ xs) (suc i) d h = ap (λ (l : List A). x ∷ l) (map_next xs i d (le_of_suc-le-suc h))

  pub map_done : (xs : List A) (i : ℕ) → length xs ≤ i → take i xs ++ map g (drop i xs) ≡ xs
  map_done [] zero h = refl
  map_done [] (suc i) h = refl
  map_done (x ∷ xs) zero h = absurd (not-suc-le-zero h)
  map_done (x ∷ xs) (suc i) h = ap (λ (l : List A). x ∷ l) (map_done xs i (le_of_suc-le-suc h))

-- ---- the pivot, one row at a time

pub one_less : (i : ℕ) → i < 3 → 3 - i ≡ suc (3 - suc i)
one_less i h = omega arith

pub best_next : (m : List (List Float)) (col : ℕ) (p : Pivot) (i : ℕ) → i < 3 →
    best_from m col (better p i (entry m i col)) (suc i) (3 - suc i) ≡ best_from m col p i (3 - i)
unfolding best_from
best_next m col p i h = ap (λ (k : ℕ). best_from m col p i k) (sym (one_less i h))

pub best_done : (m : List (List Float)) (col : ℕ) (p : Pivot) (i : ℕ) → 3 ≤ i → best_from m col p i (3 - i) ≡ p
unfolding best_from
best_done m col p i h =
    let e : 3 - i ≡ 0 = omega arith in
    ap (λ (k : ℕ). best_from m col p i k) e

pub best_start : (m : List (List Float)) (col : ℕ) {s : Float} → col < 3 → s ≡ abs_f (entry m col col) →
    best_from m col (record { row = col; size = s }) (suc col) (3 - suc col) ≡ pivot_of m col
unfolding pivot_of
best_start m col {s} h e =
    let n : 3 - suc col ≡ 2 - col = omega arith in
    ap (λ (x : Float). best_from m col (record { row = col; size = x }) (suc col) (3 - suc col)) e
    ∙ ap (λ (k : ℕ). best_from m col (record { row = col; size = abs_f (entry m col col) }) (suc col) k) n

either : (b : Bool) (p q : Pivot) → p.row < 3 → q.row < 3 → (cond b p q).row < 3
either true p q h k = h
either false p q h k = k

-- the pivot is one of the rows
pub better_row : (p : Pivot) (i : ℕ) (v : Float) → p.row < 3 → i < 3 → (better p i v).row < 3
unfolding better
better_row p i v h k = either (lt p.size (abs_f v)) (record { row = i; size = abs_f v }) p k h

-- ---- the whole, one column at a time

pub column_next : (col : ℕ) (m : List (List Float)) {p : Pivot} → col < 3 → p ≡ pivot_of m col → usable p.size ≡ true →
    solved_from (suc col) (3 - suc col) (eliminated (swapped m col p.row) col) ≡ solved_from col (3 - col) m
unfolding solved_from
column_next col m {p} h e u =
    let next : Pivot → Solution = λ q. solved_from (suc col) (3 - suc col) (eliminated (swapped m col q.row) col) in
    ap (λ (b : Bool). cond b (next p) Failed) (sym u)
    ∙ ap (λ (q : Pivot). cond (usable q.size) (next q) Failed) e
    ∙ ap (λ (k : ℕ). solved_from col k m) (sym (one_less col h))

pub column_fails : (col : ℕ) (m : List (List Float)) {p : Pivot} → col < 3 → p ≡ pivot_of m col → usable p.size ≡ false → Failed ≡ solved_from col (3 - col) m
unfolding solved_from
column_fails col m {p} h e u =
    let next : Pivot → Solution = λ q. solved_from (suc col) (3 - suc col) (eliminated (swapped m col q.row) col) in
    ap (λ (b : Bool). cond b (next p) Failed) (sym u)
    ∙ ap (λ (q : Pivot). cond (usable q.size) (next q) Failed) e
    ∙ ap (λ (k : ℕ). solved_from col k m) (sym (one_less col h))

pub columns_done : (col : ℕ) (m : List (List Float)) → 3 ≤ col → solved_from col (3 - col) m ≡ substituted m
unfolding solved_from
columns_done col m h =
    let e : 3 - col ≡ 0 = omega arith in
    ap (λ (k : ℕ). solved_from col k m) e
