-- Fronts of lists: a count that goes past the end takes the whole list. Assumes nothing.
use mathlib.Core.Path.{◌≡◌, sym, ap, ◌∙◌}
use mathlib.Core.List.{List, [], ◌∷◌}
use Prim.Native.Nat.{ℕ, zero, suc, ◌-◌, ◌*◌, min}
use native.Mathlib.Omega.{arith}
use lib.ListN.{length, take}
use lib.Seq.{take-nil}
use lib.Ieee.{Float}
use Rattle.std.specs.Prelude.{Result}
use Rattle.panel.specs.Spots.{spot_numbers}
use Rattle.entry.specs.Arguments.{Call, Lent}
use Rattle.entry.specs.declared.Matcher.TheVariants.{Listing}
use Rattle.wcs_refine.specs.Call.{outcome}
use Rattle.refusal.specs.declared.Refusal.{Refusal}
use Rattle.wcs_refine.specs.declared.WcsRefineResult.{WcsRefineResult}
use Rattle.wcs_refine.specs.Returned.{returned, called, Answers}
use Rattle.record.specs.Header.{intake, numbered}
use Rattle.record.specs.declared.Header.{Header}
use Rattle.response.specs.Response.{asked}

take_min : {A : Type 0} (k : ℕ) (l : List A) → take (min k (length l)) l ≡ take k l
take_min zero l =
    let e : min 0 (length l) ≡ 0 = omega arith in
    ap (λ (j : ℕ). take j l) e
take_min {A = A} (suc k) [] = take-nil {A = A} (min (suc k) 0) ∙ sym (take-nil (suc k))
take_min {A = A} (suc k) (x ∷ xs) =
    let e : min (suc k) (suc (length xs)) ≡ suc (min k (length xs)) = omega arith in
    ap (λ (j : ℕ). take j (x ∷ xs)) e ∙ ap (λ (r : List A). x ∷ r) (take_min k xs)

-- A part that is lent from the front.
pub front : {A : Type 0} (k : ℕ) (l : List A) {n : ℕ} → n ≡ min k (length l) → take (n - 0) l ≡ take k l
front k l {n} e =
    let z : n - 0 ≡ n = omega arith in
    ap (λ (j : ℕ). take j l) (z ∙ e) ∙ take_min k l

-- The call on the fronts is the one that the header asks for.
abbrev with_header : Header → Lent → List Float → List ℕ → List Float → Call
with_header h lent ss ms ds = called ss ms ds h.rotation h.scale h.mirror h.radius h.cut h.limit h.rounds Listing lent

pub on_fronts : (h : Header) (ss : List Float) (ms : List ℕ) (ds : List Float) (lent : Lent) (r : Result WcsRefineResult Refusal) {s m d : ℕ} {after : Lent}
    → s ≡ min (spot_numbers * h.spots) (length ss) → m ≡ min (2 * h.matches) (length ms) → d ≡ min (3 * h.directions) (length ds)
    → Answers (with_header h lent (take (s - 0) ss) (take (m - 0) ms) (take (d - 0) ds)) r after → Answers (asked (intake (numbered 0 h) ss ms ds) lent) r after
on_fronts h ss ms ds lent r {s} {m} {d} es em ed a =
    a
    ∙ ap (λ (x : List Float). returned (outcome (with_header h lent x (take (m - 0) ms) (take (d - 0) ds)))) (front (spot_numbers * h.spots) ss es)
    ∙ ap (λ (x : List ℕ). returned (outcome (with_header h lent (take (spot_numbers * h.spots) ss) x (take (d - 0) ds)))) (front (2 * h.matches) ms em)
    ∙ ap (λ (x : List Float). returned (outcome (with_header h lent (take (spot_numbers * h.spots) ss) (take (2 * h.matches) ms) x))) (front (3 * h.directions) ds ed)
