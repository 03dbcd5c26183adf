-- Median and deviation from the two selections of `median_mad_sigma`. Assumes nothing.
use mathlib.Core.Path.{◌≡◌, refl, sym, ap, ◌∙◌}
use mathlib.Core.Bool.{true, not}
use mathlib.Core.List.{List, [], ◌∷◌}
use Prim.Native.Nat.{ℕ, ◌/◌, ◌<◌}
use native.Mathlib.Omega.{arith}
use lib.Dec.{T}
use lib.ListN.{length, get_or, replicate, length-map}
use lib.Ieee.{Float, nan, binary64, fits}
use Rattle.rounding.specs.Arith.{◌⊗◌, zero64}
use Rattle.rounding.specs.Methods.{total_key}
use Rattle.stats.specs.Median.{sorted, middle, deviations, mad_scale, median_mad_sigma, Summarised}
use Rattle.stats.specs.declared.MedianSigma.{MedianSigma}
use Rattle.stats.specs.Rank.{Same}
use Rattle.stats.specs.Selection.{Selected}
use Rattle.stats.proofs.Counts.{same_map, same_long, ranks_same}
use Rattle.stats.proofs.Order.{AllFit, all_fit, stands}

-- Deviations of the same values are the same.
deviations_same : (m : Float) (l r : List Float) → Same l r → Same (deviations m l) (deviations m r)
unfolding deviations
deviations_same m l r s = same_map _ l r s

deviations_long : (m : Float) (l : List Float) → length (deviations m l) ≡ length l
unfolding deviations
deviations_long m l = length-map l _

middle_is : (l after : List Float) (k : ℕ) (r : Float) → k ≡ length l / 2 → AllFit l → fits binary64 r ≡ true → Selected l after k r → middle l ≡ r
unfolding middle
middle_is l after k r e F G S = ap (λ (i : ℕ). get_or (sorted l) i nan) (sym e) ∙ stands l k r F G S.ranks

-- Every element is an f64, as every element of a slice is.
abbrev Floats : List Float → Type 0
Floats l = (i : ℕ) → T (fits binary64 (get_or l i nan))

by_parts : (v : List Float) (m d : Float) → middle v ≡ m → middle (deviations m v) ≡ d
    → ◌≡◌ {A = MedianSigma} (record { median = middle v; sigma = mad_scale ⊗ middle (deviations (middle v) v) }) (record { median = m; sigma = mad_scale ⊗ d })
by_parts v m d e f = cc

-- v is the list at first, after the first selection, as deviations, after the second selection, and cleared.
pub summary : (v₀ v₁ v₂ v₃ v₄ : List Float) (m d : Float) → 0 < length v₀ → Floats v₀ → Floats v₂ → fits binary64 m ≡ true → fits binary64 d ≡ true
    → Selected v₀ v₁ (length v₀ / 2) m → v₂ ≡ deviations m v₁ → Selected v₂ v₃ (length v₀ / 2) d → v₄ ≡ replicate (length v₃) zero64
    → Summarised v₀ v₄ (record { median = m; sigma = mad_scale ⊗ d })
unfolding median_mad_sigma
summary [] v₁ v₂ v₃ v₄ m d h F₀ F₂ G₁ G₂ S₁ e S₂ c = absurd (omega arith)
summary (x ∷ xs) v₁ v₂ v₃ v₄ m d h F₀ F₂ G₁ G₂ S₁ e S₂ c =
    let v₀ = x ∷ xs in
    let D = deviations m v₀ in
    let same : Same D v₂ = rw e (deviations_same m v₀ v₁ S₁.same) in
    let first = middle_is v₀ v₁ (length v₀ / 2) m refl (all_fit v₀ F₀) G₁ S₁ in
    let second : middle D ≡ d =
    middle_is D v₃ (length v₀ / 2) d (ap (λ (n : ℕ). n / 2) (sym (deviations_long m v₀)))
    (same (λ y. not (fits binary64 y)) ∙ all_fit v₂ F₂) G₂
    (record { same = λ P. same P ∙ S₂.same P; ranks = ranks_same D v₂ (length v₀ / 2) (total_key d) same S₂.ranks }) in
    let long = same_long D v₂ same ∙ same_long v₂ v₃ S₂.same in
    record {
      result = sym (by_parts v₀ m d first second);
      scratch = c ∙ ap (λ (n : ℕ). replicate n zero64) (sym long ∙ deviations_long m v₀);
    }

pub nothing : (v : List Float) (r : MedianSigma) → r.median ≡ zero64 → r.sigma ≡ zero64 → length v < 1 → Summarised v v r
unfolding median_mad_sigma
nothing [] r m s h = record { result = ap (λ (x : Float). record { median = x; sigma = r.sigma }) m ∙ ap (λ (x : Float). record { median = zero64; sigma = x }) s; scratch = refl }
nothing (x ∷ xs) r m s h = absurd (omega arith)
