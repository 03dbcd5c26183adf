-- Which text an answer has. Assumes nothing.
use mathlib.Core.Path.{◌≡◌, refl, sym, ap}
use mathlib.Core.Bool.{Bool, cond}
use mathlib.Core.List.{List}
use Prim.Native.Nat.{ℕ, zero, suc, ◌<◌}
use native.Mathlib.Omega.{arith}
use borrow.Author.Tests.{lt-ltb}
use Rattle.std.specs.Prelude.{ltb, Ok, Err}
use Rattle.refusal.specs.declared.Refusal.{Refusal}
use Rattle.refusal.specs.Number.{number_of}
use Rattle.refusal.proofs.Passing.{has_number}
use Rattle.wcs_refine.specs.declared.WcsRefineResult.{WcsRefineResult}
use Rattle.wcs_refine.specs.Returned.{refused_with, numbered, handed}
use Rattle.printing.specs.Text.{refused_text, accepted_text, answer_text}

pub above_zero : (n : ℕ) → (n ≡ 0 → ⊥) → 0 < n
above_zero zero h = absurd (h refl)
above_zero (suc n) h = omega arith

pub answer_refused : (x : Refusal) (ms : List ℕ) → refused_text (number_of x) ≡ answer_text (handed (Err x)) ms
unfolding answer_text handed refused_with
answer_refused x ms =
    sym (ap (λ (b : Bool). cond b (refused_text (number_of x)) (accepted_text (handed (Err x)) ms)) (lt-ltb 0 (number_of x) (above_zero (number_of x) (has_number x))))

pub answer_accepted : (r : WcsRefineResult) (ms : List ℕ) → accepted_text (numbered 0 r) ms ≡ answer_text (handed (Ok r)) ms
unfolding answer_text handed
answer_accepted r ms = refl

pub answer_numbered : (n : ℕ) (r : WcsRefineResult) (ms : List ℕ)
    → answer_text (numbered n r) ms ≡ cond (ltb 0 n) (refused_text n) (accepted_text (numbered 0 r) ms)
unfolding answer_text accepted_text
answer_numbered n r ms = refl
