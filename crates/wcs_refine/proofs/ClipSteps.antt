-- The statistics of the residuals, and what a clip leaves. Assumes nothing.
use Rattle.std.specs.Prelude.{Option, Some, None, unwrap_or}
use Rattle.std.proofs.Common.{◌≡◌, ℕ, ◌+◌, ◌*◌, ◌/◌, ◌%◌, ◌<◌, ◌≤◌, Bool, true, false, cond, ◌&&◌, ltb, leb, List, ◌++◌, length, take, drop, replicate, sym, refl, ap, ◌∙◌, append_assoc, arith, length-take-le, take_all, take_at, ltb-true, le-ltb, lt-ltb}
use lib.Ieee.{Float}
use Rattle.rounding.specs.Arith.{zero64}
use Rattle.stats.specs.Median.{median_mad_sigma}
use Rattle.stats.specs.declared.MedianSigma.{MedianSigma}
use Rattle.residuals.specs.Residual.{in_front, leading, residual_median_sigma, Measured, Clipped, clipped as clipped_to, kept, mad_clip_matches}
use Rattle.wcs_refine.specs.Clip.{statistics, taken, clipped}
use Rattle.wcs_refine.specs.Cleaning.{Statted, ClippedTo}

-- ---- the statistics

few_residuals : (rs : List Float) → length (in_front rs) < 6 → None ≡ statistics rs
unfolding statistics
few_residuals rs h = sym (ap (λ (b : Bool). cond b None (Some (median_mad_sigma (in_front rs)))) (lt-ltb (length (in_front rs)) 6 h))

enough_residuals : (rs : List Float) → 6 ≤ length (in_front rs) → Some (median_mad_sigma (in_front rs)) ≡ statistics rs
unfolding statistics
enough_residuals rs h = sym (ap (λ (b : Bool). cond b None (Some (median_mad_sigma (in_front rs)))) (le-ltb (length (in_front rs)) 6 h))

pub no_stats : (l : List Float) (n k : ℕ) → k ≡ length (in_front (take n l)) → k < 6 → Statted l l n None
no_stats l n k e h = record { result = few_residuals (take n l) (omega arith); front = refl }

front_same : (l after more last : List Float) (n k : ℕ) → k ≡ n → n ≤ length l → after ≡ take k l ++ more ++ last → take n after ≡ take n l
front_same l after more last n k e h m =
    ap (take n) m ∙ ap (λ (j : ℕ). take n (take j l ++ more ++ last)) e ∙ ap (take n) (append_assoc (take n l) more last) ∙ take_at (take n l) (more ++ last) n (length-take-le n l h)

pub with_stats : (l after : List Float) (n k : ℕ) (m : MedianSigma) → 2 * n ≤ length l → k ≡ length (in_front (take n l)) → 6 ≤ k → Measured l after n m
    → Statted l after n (Some m)
unfolding residual_median_sigma
with_stats l after n k m w e h d =
    let whole : leading l n ≡ n = omega arith in
    let fits : n ≤ length l = omega arith in
    record {
      result = ap Some d.result ∙ ap (λ (j : ℕ). Some (median_mad_sigma (in_front (take j l)))) whole ∙ enough_residuals (take n l) (omega arith);
      front = front_same l after (replicate (length (in_front (take (leading l n) l))) zero64) (drop (leading l n + length (in_front (take (leading l n) l))) l) n (leading l n) whole fits d.lists;
    }

-- ---- the clip

-- By the two tests: fewer are kept, or the list is as it was.
kept_fewer : (t b : Bool) (x n k : ℕ) (ks ms : List ℕ) → ltb x n ≡ t → (cond (t && b) (clipped_to (Some x) ks) (clipped_to None ms)).answer ≡ Some k → k ≤ n
kept_fewer true true x n k ks ms h e =
    let f : x ≡ k = cc in
    omega (arith, ltb-true x n h)
kept_fewer true false x n k ks ms h e = let z : ◌≡◌ {A = ℕ} 0 1 = cc in omega arith
kept_fewer false b x n k ks ms h e = let z : ◌≡◌ {A = ℕ} 0 1 = cc in omega arith

same_list : (t : Bool) (x : ℕ) (ks ms : List ℕ) → (cond t (clipped_to (Some x) ks) (clipped_to None ms)).answer ≡ None → (cond t (clipped_to (Some x) ks) (clipped_to None ms)).matches ≡ ms
same_list true x ks ms e =
    let z : ◌≡◌ {A = ℕ} 0 1 = cc in
    let None : ⊥ = omega arith in
    absurd None
same_list false x ks ms e = refl

module _ (rs : List Float) (ms out : List ℕ) (median sigma : Float) {c : Option ℕ} (e : clipped_to c out ≡ mad_clip_matches rs ms median sigma) where
  pub clip_fewer : (k : ℕ) → c ≡ Some k → k ≤ length ms / 2
  unfolding mad_clip_matches
  clip_fewer k h =
      let ks = kept median sigma rs ms in
      kept_fewer (ltb (length ks / 2) (length ms / 2)) (leb 4 (length ks / 2)) (length ks / 2) (length ms / 2) k (ks ++ drop (length ks) ms) ms refl
      (sym (ap (λ (x : Clipped). x.answer) e) ∙ h)

  pub clip_same : c ≡ None → out ≡ ms
  unfolding mad_clip_matches
  clip_same h =
      let ks = kept median sigma rs ms in
      ap (λ (x : Clipped). x.matches) e
      ∙ same_list (ltb (length ks / 2) (length ms / 2) && leb 4 (length ks / 2)) (length ks / 2) (ks ++ drop (length ks) ms) ms (sym (ap (λ (x : Clipped). x.answer) e) ∙ h)

  clip_taken : taken c ms out ≡ clipped rs (Some (record { median = median; sigma = sigma })) ms
  unfolding clipped
  clip_taken = ap (λ (x : Clipped). taken x.answer ms x.matches) e

-- what a clip answers, or else all matches
pub clip_stats : (rs : List Float) (ms out : List ℕ) (m : MedianSigma) (c : Option ℕ) (s : Option MedianSigma) → length ms % 2 ≡ 0
    → clipped_to c out ≡ mad_clip_matches rs ms m.median m.sigma → s ≡ Some m → ClippedTo rs s ms out (unwrap_or c (length ms / 2))
unfolding taken
clip_stats rs ms out m (Some k) s w e f =
    let double : 2 * k ≡ k + k = omega arith in
    record {
      fewer = clip_fewer rs ms out m.median m.sigma e k refl;
      front =
          ap (λ (n : ℕ). take n out) double ∙ clip_taken rs ms out m.median m.sigma e
          ∙ ap (λ (x : Option MedianSigma). clipped rs x ms) (sym f);
    }
clip_stats rs ms out m None s w e f =
    let fits : length ms ≤ 2 * (length ms / 2) = omega arith in
    record {
      fewer = omega arith;
      front =
          ap (take (2 * (length ms / 2))) (clip_same rs ms out m.median m.sigma e refl) ∙ take_all (2 * (length ms / 2)) ms fits ∙ clip_taken rs ms out m.median m.sigma e
          ∙ ap (λ (x : Option MedianSigma). clipped rs x ms) (sym f);
    }

pub clip_missing : (rs : List Float) (ms : List ℕ) (s : Option MedianSigma) → length ms % 2 ≡ 0 → s ≡ None → ClippedTo rs s ms ms (length ms / 2)
unfolding clipped
clip_missing rs ms s w f =
    let fits : length ms ≤ 2 * (length ms / 2) = omega arith in
    record {
      fewer = omega arith;
      front = take_all (2 * (length ms / 2)) ms fits ∙ ap (λ (x : Option MedianSigma). clipped rs x ms) (sym f);
    }
