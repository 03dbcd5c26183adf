-- A round's parts: the matcher's radius, the clip in the working lists, and what phases B to D and a whole round come to. Assumes nothing.
use Rattle.stats.specs.declared.MedianSigma.{MedianSigma}
use Rattle.std.specs.Prelude.{Option, Some, None, Result, Ok, Err}
use Rattle.refusal.specs.declared.Refusal.{Refusal}
use Rattle.refusal.specs.declared.Refusal.TheVariants.{Unsound as OutOfBounds}
use Rattle.passes.specs.declared.Unsound.{Unsound}
use Rattle.std.proofs.Common.{◌≡◌, ℕ, ◌+◌, ◌-◌, ◌*◌, ◌/◌, ◌≤◌, List, ◌++◌, length, take, drop, sym, ap, ◌∙◌, subst, arith, take-append-drop, length-take-le}
use lib.Seq.{slice, take-append-le, take-append-add, drop-append-add}
use lib.Ieee.{Float}
use Rattle.rounding.specs.Arith.{◌⊗◌, ◌⊘◌, f64}
use Rattle.rounding.specs.Methods.{max_f, min_f}
use Rattle.fit.specs.Rows.{rows}
use Rattle.residuals.specs.Residual.{in_front, Computed}
use Rattle.fit.specs.declared.Pose.{Pose}
use Rattle.entry.specs.declared.Settings.{Settings}
use Rattle.entry.specs.Fixed.{radius_px}
use Rattle.entry.specs.Entry.{fixed_of}
use Rattle.passes.specs.Fit.{fit_passes}
use Rattle.wcs_refine.specs.Clip.{statistics, clipped}
use Rattle.wcs_refine.specs.Associate.{adaptive_px}
use Rattle.wcs_refine.specs.Round.{State, Found, Round, searched, rest, fitted, round}
use Rattle.passes.specs.Fit.{passes_at, passes_of}
use Rattle.wcs_refine.specs.Cleaning.{Statted, ClippedTo}
use Rattle.wcs_refine.specs.Keeping.{cache_of, held_cache, held_matches, held_state, Fits, SoughtAs, SearchedTo, RoundTo}
use Rattle.wcs_refine.specs.Stepping.{residuals_at, TrimmedTo}
use Rattle.query.specs.declared.Held.{Held}
use Rattle.passes.specs.declared.Passed.{Passed}
use Rattle.wcs_refine.specs.declared.searching.Sought.{Sought}
use Rattle.wcs_refine.specs.declared.rounds.Trimmed.{Trimmed}
use Rattle.wcs_refine.proofs.CleanSteps.{written_front, counted_front, residual_count}

-- ---- the matcher's radius

module _ (k : Settings) {s : Option MedianSigma} {most : Float} (e : most ≡ radius_px (fixed_of k)) where
  pub radius_missing : s ≡ None → most ≡ adaptive_px (fixed_of k) s
  unfolding adaptive_px
  radius_missing f = e ∙ ap (λ (x : Option MedianSigma). adaptive_px (fixed_of k) x) (sym f)

  pub radius_of : {m : MedianSigma} {wide r : Float} → s ≡ Some m → wide ≡ max_f (f64 0x4014000000000000 ⊗ m.sigma ⊘ k.scale) (f64 0x4004000000000000)
      → r ≡ min_f wide most → r ≡ adaptive_px (fixed_of k) s
  unfolding adaptive_px
  radius_of {wide = wide} f g h =
      h ∙ ap (λ (x : Float). min_f x most) g
      ∙ ap (min_f (max_f (f64 0x4014000000000000 ⊗ _ ⊘ k.scale) (f64 0x4004000000000000))) e
      ∙ ap (λ (x : Option MedianSigma). adaptive_px (fixed_of k) x) (sym f)

-- ---- the clip: n matches ms, their residuals at the front of a list of floats

module _ (k : Settings) (ss ds : List Float) (p : Pose) (ms : List ℕ) (before mid : List Float) {r : ℕ} (fits : 2 * (length ms / 2) ≤ length before)
    (d : Computed (residuals_at k ss ds p ms) before mid r) where
  residuals_front : take (length ms / 2) mid ≡ residuals_at k ss ds p ms
  residuals_front =
      let w : length ms / 2 ≤ length before = omega arith in
      written_front (residuals_at k ss ds p ms) before mid (length ms / 2) (residual_count k.cut ss ds p ms) w d

  pub trim_counts : r ≡ length (in_front (take (length ms / 2) mid))
  trim_counts =
      let w : length ms / 2 ≤ length before = omega arith in
      counted_front (residuals_at k ss ds p ms) before mid (length ms / 2) (residual_count k.cut ss ds p ms) w d

  pub trimmed : (after : List Float) (n j : ℕ) (out : List ℕ) (s : Option MedianSigma) {used : ℕ} {radius : Float} → n ≡ length ms / 2 → j ≡ length ms / 2 → Statted mid after n s
      → ClippedTo (take j after) s ms out used → radius ≡ adaptive_px (fixed_of k) s
      → TrimmedTo k ss ds p ms out (record { used = used; radius = radius })
  trimmed after n j out s {used} {radius} en ej t c g =
      let front : take j after ≡ residuals_at k ss ds p ms = ap (λ (x : ℕ). take x after) (ej ∙ sym en) ∙ t.front ∙ ap (λ (x : ℕ). take x mid) en ∙ residuals_front in
      let stats : s ≡ statistics (residuals_at k ss ds p ms) = t.result ∙ ap (λ (x : ℕ). statistics (take x mid)) en ∙ ap statistics residuals_front in
      record {
        fewer = c.fewer;
        front = c.front ∙ ap (λ (l : List Float). clipped l s ms) front ∙ ap (λ (x : Option MedianSigma). clipped (residuals_at k ss ds p ms) x ms) stats;
        radius = g ∙ ap (adaptive_px (fixed_of k)) stats;
      }

-- ---- a front that is replaced

past_front : (p d : List ℕ) (a b : ℕ) → length p ≤ a → length p ≤ b → slice a b (p ++ d) ≡ slice (a - length p) (b - length p) d
past_front p d a b h g =
    let e : a ≡ length p + (a - length p) = omega arith in
    let f : b ≡ length p + (b - length p) = omega arith in
    ap (λ (x : ℕ). slice x b (p ++ d)) e ∙ ap (λ (y : ℕ). slice (length p + (a - length p)) y (p ++ d)) f
    ∙ ap (drop (length p + (a - length p))) (take-append-add p d (b - length p)) ∙ drop-append-add p (take (b - length p) d) (a - length p)

same_past : (p l : List ℕ) (m a b : ℕ) → length p ≡ length (take m l) → length p ≤ a → length p ≤ b → slice a b (p ++ drop m l) ≡ slice a b l
same_past p l m a b e h g =
    let h' : length (take m l) ≤ a = omega arith in
    let g' : length (take m l) ≤ b = omega arith in
    past_front p (drop m l) a b h g ∙ ap (λ (x : ℕ). slice (a - x) (b - x) (drop m l)) e
    ∙ sym (past_front (take m l) (drop m l) a b h' g') ∙ ap (slice a b) (take-append-drop m l)

-- ---- a state with another count of matches, or at another pose

abbrev with_used : Held → ℕ → Held
with_used h n = record {
  pose = h.pose;
  used = n;
  filled = h.filled;
  boresight = h.boresight;
  theta = h.theta;
  cached = h.cached;
}

abbrev posed : Held → Pose → Held
posed h p = record {
  pose = p;
  used = h.used;
  filled = h.filled;
  boresight = h.boresight;
  theta = h.theta;
  cached = h.cached;
}

-- What phases B to D come to, from the pose of the state h.
abbrev rest_at : Settings → ℕ → List Float → List Float → Held → List ℕ → Found
rest_at k n ss ds h l =
    rest (fixed_of k) ss ds h.pose (held_matches h l) (held_cache n h l) (residuals_at k ss ds h.pose (held_matches h l))

-- ---- phases B to D: the first m numbers of l, the matches of h, are clipped to out

module _ (k : Settings) (n : ℕ) (ss ds : List Float) (h : Held) (l : List ℕ) (m : ℕ) (out : List ℕ) (t : Trimmed) (fits : Fits k n h) (room : 16 * n ≤ length l)
    (is : m ≡ 2 * h.used) (long : length out ≡ length (take m l)) (d : TrimmedTo k ss ds h.pose (take m l) out t) where
  part_length : length (take m l) ≡ 2 * h.used
  part_length =
      let w : m ≤ length l = omega (arith, fits.used) in
      length-take-le m l w ∙ is

  renew_matches : take (2 * t.used) (out ++ drop m l) ≡ clipped (residuals_at k ss ds h.pose (held_matches h l)) (statistics (residuals_at k ss ds h.pose (held_matches h l))) (held_matches h l)
  renew_matches =
      let w : 2 * t.used ≤ length out = omega (arith, d.fewer, part_length) in
      take-append-le (2 * t.used) out (drop m l) w ∙ d.front
      ∙ ap (λ (x : ℕ). clipped (residuals_at k ss ds h.pose (take x l)) (statistics (residuals_at k ss ds h.pose (take x l))) (take x l)) is

  renew_cache : held_cache n (with_used h t.used) (out ++ drop m l) ≡ held_cache n h l
  renew_cache =
      let v : length out ≤ 2 * n = omega (arith, fits.used, part_length) in
      let w : length out ≤ 2 * n + h.cached = omega (arith, fits.used, part_length) in
      ap (cache_of h.filled h.boresight h.theta) (same_past out l m (2 * n) (2 * n + h.cached) long v w)

  renew_radius : t.radius ≡ adaptive_px (fixed_of k) (statistics (residuals_at k ss ds h.pose (held_matches h l)))
  renew_radius = d.radius ∙ ap (λ (x : ℕ). adaptive_px (fixed_of k) (statistics (residuals_at k ss ds h.pose (take x l)))) is

  renew_rest : searched (fixed_of k) ss ds h.pose (held_matches (with_used h t.used) (out ++ drop m l)) t.radius (held_cache n (with_used h t.used) (out ++ drop m l)) ≡ rest_at k n ss ds h l
  unfolding rest
  renew_rest =
      let rs = residuals_at k ss ds h.pose (held_matches h l) in
      ap (λ (x : List ℕ). searched (fixed_of k) ss ds h.pose x t.radius (held_cache n (with_used h t.used) (out ++ drop m l))) renew_matches
      ∙ ap (λ (x : Float). searched (fixed_of k) ss ds h.pose (clipped rs (statistics rs) (held_matches h l)) x (held_cache n (with_used h t.used) (out ++ drop m l))) renew_radius
      ∙ ap (searched (fixed_of k) ss ds h.pose (clipped rs (statistics rs) (held_matches h l)) (adaptive_px (fixed_of k) (statistics rs))) renew_cache

  -- no more matches than there were
  pub renew_fewer : t.used ≤ h.used
  renew_fewer = omega (arith, d.fewer, part_length)

  pub renewed : (left : State) (s : Result Sought Refusal)
      → SearchedTo left
      (searched (fixed_of k) ss ds h.pose (held_matches (with_used h t.used) (out ++ drop m l)) t.radius (held_cache n (with_used h t.used) (out ++ drop m l))) s
      → SearchedTo left (rest_at k n ss ds h l) s
  renewed left s c = subst (λ (x : Found). SearchedTo left x s) renew_rest c

-- ---- one round: the passes over the matches of h

module _ (k : Settings) (n : ℕ) (ss ds : List Float) (h : Held) (l : List ℕ) (f : Passed)
    (e : passes_of f ≡ fit_passes 10 k.cut (rows ss ds (held_matches h l)) h.pose) where
  round_passed : fitted (fixed_of k) ss ds (held_state n h l) (rows ss ds (held_matches h l)) (passes_of f) ≡ round (fixed_of k) ss ds (held_state n h l)
  unfolding round
  round_passed =
      ap (fitted (fixed_of k) ss ds (held_state n h l) (rows ss ds (held_matches h l))) e

  -- how the passes ended
  round_ended : {x : Result Pose Unsound} → f.end ≡ x
      → fitted (fixed_of k) ss ds (held_state n h l) (rows ss ds (held_matches h l)) (passes_at f.passes x) ≡ round (fixed_of k) ss ds (held_state n h l)
  round_ended b =
      ap (λ (y : Result Pose Unsound). fitted (fixed_of k) ss ds (held_state n h l) (rows ss ds (held_matches h l)) (passes_at f.passes y)) (sym b) ∙ round_passed

  abbrev this : Round
  this = round (fixed_of k) ss ds (held_state n h l)

  pub round_unsound : {u : Unsound} → f.end ≡ Err u → (left : State) → RoundTo left this (Err OutOfBounds)
  unfolding fitted
  round_unsound b left = ap (λ (x : Round). x.found.next) (round_ended b)

  module _ {p : Pose} (left : State) (b : f.end ≡ Ok p) where
    rest_is : rest_at k n ss ds (posed h p) l ≡ this.found
    unfolding fitted
    rest_is = ap (λ (x : Round). x.found) (round_ended b)

    pub round_refused : (x : Refusal) → SearchedTo left (rest_at k n ss ds (posed h p) l) (Err x) → RoundTo left this (Err x)
    round_refused x c = c ∙ ap (λ (x : Found). x.next) rest_is

    pub round_sound : (s : Sought) → SearchedTo left (rest_at k n ss ds (posed h p) l) (Ok s)
        → RoundTo left this (Ok (record { found = s; passes = f.passes }))
    unfolding fitted
    round_sound s c = record {
      found = subst (λ (x : Found). SoughtAs left x s) rest_is c;
      passes = ap (λ (x : Round). x.passes) (round_ended b);
    }
