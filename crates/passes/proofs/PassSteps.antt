-- The passes of the fit one by one: what is left of them, after those that were made, gives the whole. Assumes nothing.
use mathlib.Core.Path.{◌≡◌, refl, sym, ap, ◌∙◌}
use mathlib.Core.Bool.{Bool, true, false, cond}
use mathlib.Core.List.{List}
use Prim.Native.Nat.{ℕ, zero, suc, ◌+◌, ◌-◌, ◌/◌, ◌≤◌, ◌<◌}
use native.Mathlib.Omega.{arith}
use borrow.Author.Tests.{lt-ltb, le-ltb}
use lib.Dec.{ltb}
use lib.ListN.{length}
use lib.Ieee.{Float}
use Rattle.fit.specs.Normal.{ls_fit_once}
use Rattle.fit.specs.Rows.{Row, rows_from, rows, view_of}
use Rattle.fit.specs.declared.Pose.{Pose}
use Rattle.solve.specs.declared.Solution.{Solution}
use Rattle.solve.specs.declared.Solution.TheVariants.{Solved, Failed}
use Rattle.passes.specs.Fit.{moved, sound, still, Passes, goes_on, passed, fit_passes}

-- ---- as many rows as matches

module _ (ss ds : List Float) (ms : List ℕ) where
  from_length : (k n : ℕ) → length (rows_from ss ds ms k n) ≡ n
  unfolding rows_from
  from_length k zero = refl
  from_length k (suc n) = ap suc (from_length (suc k) n)

  pub rows_length : length (rows ss ds ms) ≡ length ms / 2
  unfolding rows
  rows_length = from_length 0 (length ms / 2)

  pub few_rows : length ms / 2 < 3 → ltb (length (rows ss ds ms)) 3 ≡ true
  few_rows h = ap (λ (n : ℕ). ltb n 3) rows_length ∙ lt-ltb _ _ h

  pub enough_rows : 3 ≤ length ms / 2 → ltb (length (rows ss ds ms)) 3 ≡ false
  enough_rows h = ap (λ (n : ℕ). ltb n 3) rows_length ∙ le-ltb _ _ h

-- ---- the passes

-- after i passes
abbrev pub later : ℕ → Passes → Passes
later i f = record { pose = f.pose; passes = i + f.passes; fine = f.fine }

abbrev ended : Pose → ℕ → Bool → Passes
ended p n b = record { pose = p; passes = n; fine = b }

pub too_few : (cut : Float) (rs : List Row) (p : Pose) → ltb (length rs) 3 ≡ true → ended p 0 true ≡ fit_passes 10 cut rs p
unfolding fit_passes
too_few cut rs p h = sym (ap (λ (b : Bool). cond b (ended p 0 true) (passed p (ls_fit_once (view_of p cut) rs) (λ q. fit_passes 9 cut rs q))) h)

module _ (cut : Float) (rs : List Row) (p : Pose) (i : ℕ) {whole : Passes} (enough : ltb (length rs) 3 ≡ false) (left : later i (fit_passes (10 - i) cut rs p) ≡ whole) where
  pass_next : i < 10 → fit_passes (10 - i) cut rs p ≡ passed p (ls_fit_once (view_of p cut) rs) (λ q. fit_passes (10 - (i + 1)) cut rs q)
  unfolding fit_passes
  pass_next h =
      let e : 10 - i ≡ suc (10 - (i + 1)) = omega arith in
      ap (λ (k : ℕ). fit_passes k cut rs p) e
      ∙ ap (λ (b : Bool). cond b (ended p 0 true) (passed p (ls_fit_once (view_of p cut) rs) (λ q. fit_passes (10 - (i + 1)) cut rs q))) enough

  pub pass_fails : i < 10 → {s : Solution} → s ≡ ls_fit_once (view_of p cut) rs → s ≡ Failed → ended p (i + 1) true ≡ whole
  unfolding passed
  pass_fails h e f =
      ap (λ (x : Solution). later i (passed p x (λ q. fit_passes (10 - (i + 1)) cut rs q))) (sym f ∙ e) ∙ sym (ap (later i) (pass_next h)) ∙ left

  module _ (h : i < 10) {s : Solution} {a b c : Float} {q : Pose} (e : s ≡ ls_fit_once (view_of p cut) rs) (f : s ≡ Solved a b c) (g : q ≡ moved p a b c) where
    pass_moves : later i (goes_on (sound q) (still a b c) q (λ q. fit_passes (10 - (i + 1)) cut rs q)) ≡ whole
    unfolding passed
    pass_moves =
        ap (λ (x : Pose). later i (goes_on (sound x) (still a b c) x (λ q. fit_passes (10 - (i + 1)) cut rs q))) g
        ∙ ap (λ (x : Solution). later i (passed p x (λ q. fit_passes (10 - (i + 1)) cut rs q))) (sym f ∙ e) ∙ sym (ap (later i) (pass_next h)) ∙ left

    pub pass_unsound : sound q ≡ false → ended q (i + 1) false ≡ whole
    unfolding goes_on
    pass_unsound n = ap (λ (x : Bool). later i (goes_on x (still a b c) q (λ q. fit_passes (10 - (i + 1)) cut rs q))) (sym n) ∙ pass_moves

    pass_settles : (t : Bool) → sound q ≡ true → still a b c ≡ t → later i (goes_on true t q (λ q. fit_passes (10 - (i + 1)) cut rs q)) ≡ whole
    pass_settles t n m =
        ap (λ (x : Bool). later i (goes_on true x q (λ q. fit_passes (10 - (i + 1)) cut rs q))) (sym m)
        ∙ ap (λ (x : Bool). later i (goes_on x (still a b c) q (λ q. fit_passes (10 - (i + 1)) cut rs q))) (sym n) ∙ pass_moves

    pub pass_rests : sound q ≡ true → still a b c ≡ true → ended q (i + 1) true ≡ whole
    unfolding goes_on
    pass_rests n m = pass_settles true n m

    pub pass_on : sound q ≡ true → still a b c ≡ false → later (i + 1) (fit_passes (10 - (i + 1)) cut rs q) ≡ whole
    unfolding goes_on
    pass_on n m =
        let r = fit_passes (10 - (i + 1)) cut rs q in
        let k : i + 1 + r.passes ≡ i + suc r.passes = omega arith in
        ap (λ (x : ℕ). ended r.pose x r.fine) k ∙ pass_settles false n m

  pub pass_ends : i ≡ 10 → ended p 10 true ≡ whole
  unfolding fit_passes
  pass_ends h =
      let e : 10 - i ≡ 0 = omega arith in
      let k : 10 ≡ i + 0 = omega arith in
      ap (λ (x : ℕ). ended p x true) k ∙ sym (ap (λ (x : ℕ). later i (fit_passes x cut rs p)) e) ∙ left
