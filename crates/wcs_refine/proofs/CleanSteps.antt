-- The closing clips one by one: the residuals at the front of their list, the clip, the refit, and what is left. Assumes nothing.
use Rattle.stats.specs.declared.MedianSigma.{MedianSigma}
use Rattle.std.specs.Prelude.{Option, Some, None, Result, Ok, Err}
use Rattle.refusal.specs.declared.Refusal.{Refusal}
use Rattle.std.proofs.Common.{◌≡◌, ℕ, suc, ◌+◌, ◌-◌, ◌*◌, ◌/◌, ◌<◌, ◌≤◌, Bool, true, false, cond, ltb, List, [], ◌∷◌, ◌++◌, length, take, drop, sym, refl, ap, ◌∙◌, le_of_suc-le-suc, not-suc-le-zero, arith, length-append, length-drop, length-take-le, take_at, le-ltb, lt-ltb}
use lib.ListN.{length-map}
use lib.Seq.{take-append-le}
use lib.Ieee.{Float}
use Rattle.fit.specs.Normal.{ls_fit_once}
use Rattle.fit.specs.Rows.{Row, rows, view_of}
use Rattle.fit.specs.declared.View.{View}
use Rattle.residuals.specs.Residual.{residual_of, residuals, in_front, over, Computed, Clipped, clipped as clipped_to, mad_clip_matches}
use Rattle.fit.specs.declared.Pose.{Pose}
use Rattle.solve.specs.declared.Solution.{Solution}
use Rattle.solve.specs.declared.Solution.TheVariants.{Solved, Failed}
use Rattle.entry.specs.Fixed.{Fixed}
use Rattle.passes.specs.Fit.{moved, sound}
use Rattle.wcs_refine.specs.Clip.{statistics, taken}
use Rattle.wcs_refine.specs.Closing.{Closed, unsound, fine, if_sound, refitted, recleaned, cleaned_by, cleaned}
use Rattle.wcs_refine.specs.Cleaning.{Statted, clip_by, closing_clip, follows}
use Rattle.wcs_refine.proofs.Along.{either}
use Rattle.passes.proofs.PassSteps.{rows_length}
use Rattle.wcs_refine.proofs.ClipSteps.{clip_fewer, clip_same}

-- ---- the refit

module _ (p : Pose) {s x : Solution} (e : s ≡ x) where
  pub refit_fails : s ≡ Failed → (after : Pose → Closed) → after p ≡ refitted p x after
  unfolding refitted
  refit_fails f after = ap (λ (y : Solution). refitted p y after) (sym f ∙ e)

  -- t: whether the pose is sound
  module _ {a b c : Float} {q : Pose} {t : Bool} (f : s ≡ Solved a b c) (g : q ≡ moved p a b c) (h : t ≡ sound q) (after : Pose → Closed) where
    refit_moves : if_sound t q after ≡ refitted p x after
    unfolding refitted
    refit_moves =
        ap (λ (y : Bool). if_sound y q after) h ∙ ap (λ (y : Pose). if_sound (sound y) y after) g
        ∙ ap (λ (y : Solution). refitted p y after) (sym f ∙ e)

    pub refit_sound : t ≡ true → after q ≡ refitted p x after
    unfolding if_sound
    refit_sound w = ap (λ (y : Bool). if_sound y q after) (sym w) ∙ refit_moves

    pub refit_unsound : t ≡ false → unsound ≡ refitted p x after
    unfolding if_sound
    refit_unsound w = ap (λ (y : Bool). if_sound y q after) (sym w) ∙ refit_moves

-- ---- the residuals, written over the front of their list

over_front : (rs l : List Float) → length rs ≤ length l → take (length rs) (over rs l) ≡ rs
unfolding over
over_front [] l h = refl
over_front (x ∷ rs) [] h = absurd (not-suc-le-zero h)
over_front (x ∷ rs) (y ∷ l) h = ap (λ (t : List Float). x ∷ t) (over_front rs l (le_of_suc-le-suc h))

residuals_length : (w : View) (rs : List Row) → length (residuals w rs) ≡ length rs
unfolding residuals
residuals_length w rs = length-map rs (residual_of w)

-- n numbers rs, over the front of a list
module _ (rs before after : List Float) (n : ℕ) {r : ℕ} (count : length rs ≡ n) (fits : n ≤ length before) (d : Computed rs before after r) where
  pub written_front : take n after ≡ rs
  written_front =
      let long : length rs ≤ length before = omega arith in
      ap (take n) d.written ∙ ap (λ (k : ℕ). take k (over rs before)) (sym count) ∙ over_front rs before long

  pub counted_front : r ≡ length (in_front (take n after))
  counted_front = d.counted ∙ ap (λ (l : List Float). length (in_front l)) (sym written_front)

-- ---- one clip

module _ (cut : Float) (ss ds : List Float) (p : Pose) (ms : List ℕ) where
  pub residual_count : length (residuals (view_of p cut) (rows ss ds ms)) ≡ length ms / 2
  residual_count = residuals_length (view_of p cut) (rows ss ds ms) ∙ rows_length ss ds ms

  pub closing_few : length ms / 2 < 6 → clipped_to None ms ≡ closing_clip cut ss ds p ms
  unfolding closing_clip
  closing_few h =
      let rs = residuals (view_of p cut) (rows ss ds ms) in
      sym (ap (λ (b : Bool). cond b (clipped_to None ms) (clip_by rs ms (statistics rs))) (lt-ltb (length ms / 2) 6 h))

  closing_by : 6 ≤ length ms / 2 → (t : Option MedianSigma) → t ≡ statistics (residuals (view_of p cut) (rows ss ds ms))
      → clip_by (residuals (view_of p cut) (rows ss ds ms)) ms t ≡ closing_clip cut ss ds p ms
  unfolding closing_clip
  closing_by h t e =
      let rs = residuals (view_of p cut) (rows ss ds ms) in
      ap (clip_by rs ms) e ∙ sym (ap (λ (b : Bool). cond b (clipped_to None ms) (clip_by rs ms (statistics rs))) (le-ltb (length ms / 2) 6 h))

  module _ (enough : 6 ≤ length ms / 2) (mid after : List Float) {s : Option MedianSigma} (front : take (length ms / 2) mid ≡ residuals (view_of p cut) (rows ss ds ms))
      (d : Statted mid after (length ms / 2) s) where
    pub closing_none : s ≡ None → clipped_to None ms ≡ closing_clip cut ss ds p ms
    unfolding clip_by
    closing_none f = closing_by enough None (sym f ∙ d.result ∙ ap statistics front)

    pub closing_some : (n : ℕ) {m : MedianSigma} {c : Option ℕ} {out : List ℕ} → n ≡ length ms / 2 → s ≡ Some m
        → clipped_to c out ≡ mad_clip_matches (take n after) ms m.median m.sigma
        → clipped_to c out ≡ closing_clip cut ss ds p ms
    unfolding clip_by
    closing_some n {m} w f e =
        e ∙ ap (λ (k : ℕ). mad_clip_matches (take k after) ms m.median m.sigma) w ∙ ap (λ (l : List Float). mad_clip_matches l ms m.median m.sigma) (d.front ∙ front)
        ∙ closing_by enough (Some m) (sym f ∙ d.result ∙ ap statistics front)

-- What any clip keeps to.
abbrev Keeps : List ℕ → Clipped → Type 0
Keeps ms x = (x.answer ≡ None → x.matches ≡ ms) × ((k : ℕ) → x.answer ≡ Some k → k ≤ length ms / 2)

as_it_was : (ms : List ℕ) → Keeps ms (clipped_to None ms)
as_it_was ms = (λ e. refl, λ k e. let z : ◌≡◌ {A = ℕ} 0 1 = cc in omega arith)

clip_keeps : (rs : List Float) (ms : List ℕ) (t : Option MedianSigma) → Keeps ms (clip_by rs ms t)
unfolding clip_by
clip_keeps rs ms None = as_it_was ms
clip_keeps rs ms (Some t) =
    let x = mad_clip_matches rs ms t.median t.sigma in
    (clip_same rs ms x.matches t.median t.sigma {c = x.answer} refl, clip_fewer rs ms x.matches t.median t.sigma {c = x.answer} refl)

closing_keeps : (cut : Float) (ss ds : List Float) (p : Pose) (ms : List ℕ) → Keeps ms (closing_clip cut ss ds p ms)
unfolding closing_clip
closing_keeps cut ss ds p ms =
    let rs = residuals (view_of p cut) (rows ss ds ms) in
    either (Keeps ms) (ltb (length ms / 2) 6) (clipped_to None ms) (clip_by rs ms (statistics rs)) (as_it_was ms) (clip_keeps rs ms (statistics rs))

-- ---- the definition, by its clip

module _ (k : Fixed) (ss ds : List Float) (p : Pose) (ms : List ℕ) (after : Pose → List ℕ → Closed) where
  by_stats : (rs : List Float) (t : Option MedianSigma) → cleaned_by k ss ds p ms rs t after ≡ recleaned k ss ds p ms (clip_by rs ms t).answer (clip_by rs ms t).matches after
  unfolding cleaned_by clip_by recleaned
  by_stats rs None = refl
  by_stats rs (Some t) = refl

  by_count : (b : Bool) {x : Closed} (y : Clipped) → x ≡ recleaned k ss ds p ms y.answer y.matches after
      → cond b (fine p ms) x ≡ recleaned k ss ds p ms (cond b (clipped_to None ms) y).answer (cond b (clipped_to None ms) y).matches after
  unfolding recleaned
  by_count true y e = refl
  by_count false y e = e

cleaned_next : (k : Fixed) (ss ds : List Float) (n : ℕ) (p : Pose) (ms : List ℕ)
    → cleaned k ss ds (suc n) p ms ≡ recleaned k ss ds p ms (closing_clip k.cut ss ds p ms).answer (closing_clip k.cut ss ds p ms).matches (λ q kept. cleaned k ss ds n q kept)
unfolding cleaned closing_clip
cleaned_next k ss ds n p ms =
    let rs = residuals (view_of p k.cut) (rows ss ds ms) in
    by_count k ss ds p ms (λ q kept. cleaned k ss ds n q kept) (ltb (length ms / 2) 6) (clip_by rs ms (statistics rs))
    (by_stats k ss ds p ms (λ q kept. cleaned k ss ds n q kept) rs (statistics rs))

-- ---- a turn of the loop: the first 2 n numbers of l, m of them, are clipped to out

module _ (cut : Float) (ss ds : List Float) (p : Pose) (l : List ℕ) (n m i : ℕ) (out : List ℕ) {c : Option ℕ} {whole : Fixed → Closed}
    (left : (k : Fixed) → k.cut ≡ cut → cleaned k ss ds (3 - i) p (take (2 * n) l) ≡ whole k) (h : i < 3) (fits : 2 * n ≤ length l) (is : m ≡ 2 * n)
    (e : clipped_to c out ≡ closing_clip cut ss ds p (take m l)) (long : length out ≡ length (take m l)) where
  out_length : length out ≡ 2 * n
  out_length = long ∙ ap (λ (x : ℕ). length (take x l)) is ∙ length-take-le (2 * n) l fits

  part_length : length (take m l) ≡ 2 * n
  part_length = sym long ∙ out_length

  pub turn_fewer : (x : ℕ) → c ≡ Some x → x ≤ n
  turn_fewer x f = omega (arith, (closing_keeps cut ss ds p (take m l)).1 x (sym (ap (λ (y : Clipped). y.answer) e) ∙ f), part_length)

  pub turn_length : length (out ++ drop m l) ≡ length l
  turn_length = length-append out (drop m l) ∙ omega (arith, out_length, length-drop m l)

  turn : (k : Fixed) → k.cut ≡ cut → recleaned k ss ds p (take m l) c out (λ q kept. cleaned k ss ds (3 - (i + 1)) q kept) ≡ whole k
  turn k w =
      let less : 3 - i ≡ suc (3 - (i + 1)) = omega arith in
      ap (λ (x : Clipped). recleaned k ss ds p (take m l) x.answer x.matches (λ q kept. cleaned k ss ds (3 - (i + 1)) q kept))
      (e ∙ ap (λ (x : Float). closing_clip x ss ds p (take m l)) (sym w))
      ∙ sym (cleaned_next k ss ds (3 - (i + 1)) p (take m l)) ∙ sym (ap (λ (x : ℕ). cleaned k ss ds x p (take m l)) less)
      ∙ ap (λ (x : ℕ). cleaned k ss ds (3 - i) p (take x l)) is ∙ left k w

  pub turn_ends : c ≡ None → (k : Fixed) → k.cut ≡ cut → fine p (take (2 * n) (out ++ drop m l)) ≡ whole k
  unfolding recleaned
  turn_ends f k w =
      ap (fine p) (take_at out (drop m l) (2 * n) out_length ∙ ap (λ (x : Clipped). x.matches) e ∙ (closing_keeps cut ss ds p (take m l)).0 (sym (ap (λ (y : Clipped). y.answer) e) ∙ f))
      ∙ ap (λ (x : Option ℕ). recleaned k ss ds p (take m l) x out (λ q kept. cleaned k ss ds (3 - (i + 1)) q kept)) (sym f) ∙ turn k w

  -- x matches are kept, the first j numbers, and refitted
  module _ (x j : ℕ) (r : Result Pose Refusal) (f : c ≡ Some x) (twice : j ≡ 2 * x)
      (g : (after : Pose → Closed) → follows r after ≡ refitted p (ls_fit_once (view_of p cut) (rows ss ds (take j (out ++ drop m l)))) after) where
    kept_front : take (2 * x) (out ++ drop m l) ≡ take (x + x) out
    kept_front =
        let double : 2 * x ≡ x + x = omega arith in
        let small : x + x ≤ length out = omega (arith, turn_fewer x f, out_length) in
        ap (λ (y : ℕ). take y (out ++ drop m l)) double ∙ take-append-le (x + x) out (drop m l) small

    pub turn_refits : (k : Fixed) → k.cut ≡ cut → follows r (λ q. cleaned k ss ds (3 - (i + 1)) q (take (2 * x) (out ++ drop m l))) ≡ whole k
    unfolding recleaned taken
    turn_refits k w =
        g (λ q. cleaned k ss ds (3 - (i + 1)) q (take (2 * x) (out ++ drop m l)))
        ∙ ap (λ (y : ℕ). refitted p (ls_fit_once (view_of p cut) (rows ss ds (take y (out ++ drop m l)))) (λ q. cleaned k ss ds (3 - (i + 1)) q (take (2 * x) (out ++ drop m l)))) twice
        ∙ ap (λ (y : List ℕ). refitted p (ls_fit_once (view_of p cut) (rows ss ds y)) (λ q. cleaned k ss ds (3 - (i + 1)) q y)) kept_front
        ∙ ap (λ (y : Float). refitted p (ls_fit_once (view_of p y) (rows ss ds (take (x + x) out))) (λ q. cleaned k ss ds (3 - (i + 1)) q (take (x + x) out))) (sym w)
        ∙ ap (λ (y : Option ℕ). recleaned k ss ds p (take m l) y out (λ q kept. cleaned k ss ds (3 - (i + 1)) q kept)) (sym f) ∙ turn k w

    pub turn_unsound : {u : Refusal} → r ≡ Err u → (k : Fixed) → k.cut ≡ cut → unsound ≡ whole k
    turn_unsound b k w =
        ap (λ (y : Result Pose Refusal). follows y (λ q. cleaned k ss ds (3 - (i + 1)) q (take (2 * x) (out ++ drop m l)))) (sym b) ∙ turn_refits k w

    pub turn_on : (q : Pose) → r ≡ Ok q → (k : Fixed) → k.cut ≡ cut → cleaned k ss ds (3 - (i + 1)) q (take (2 * x) (out ++ drop m l)) ≡ whole k
    turn_on q b k w =
        ap (λ (y : Result Pose Refusal). follows y (λ q. cleaned k ss ds (3 - (i + 1)) q (take (2 * x) (out ++ drop m l)))) (sym b) ∙ turn_refits k w

pub turns_end : (ss ds : List Float) (p : Pose) (ms : List ℕ) (i : ℕ) (k : Fixed) {whole : Closed} → 3 ≤ i → cleaned k ss ds (3 - i) p ms ≡ whole → fine p ms ≡ whole
unfolding cleaned
turns_end ss ds p ms i k h e =
    let over : 3 - i ≡ 0 = omega arith in
    sym (ap (λ (x : ℕ). cleaned k ss ds x p ms) over) ∙ e
