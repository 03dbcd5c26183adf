-- A property along a list, of what a test leaves, and of what a `?` hands on. Assumes nothing.
use Rattle.std.specs.Prelude.{Result, Err, IsErrAnd}
use Rattle.std.proofs.lemmas.Result.{err_from_is_err_and}
use Rattle.std.proofs.Common.{◌≡◌, Bool, true, false, cond, List, [], ◌∷◌, ◌++◌}

module _ {A : Type 0} (P : A → Type 0) where
  abbrev pub All : List A → Type 0
  All [] = Unit {0}
  All (x ∷ l) = P x × All l

  pub all-++ : (l m : List A) → All (l ++ m) → All l × All m
  all-++ [] m h = (tt, h)
  all-++ (x ∷ l) m h = let r = all-++ l m h.1 in ((h.0, r.0), r.1)

  pub ++-all : (l m : List A) → All l → All m → All (l ++ m)
  ++-all [] m h k = k
  ++-all (x ∷ l) m h k = (h.0, ++-all l m h.1 k)

-- What holds of both ways holds of the way that a test chooses.
pub either {ℓ} : {A : Type ℓ} (P : A → Type 0) (b : Bool) (x y : A) → P x → P y → P (cond b x y)
either P true x y p q = p
either P false x y p q = q

-- What a `?` hands on is what it met.
pub hands_on : {A E : Type 0} (P : Result A E → Type 0) {x : E} (r : Result A E) → IsErrAnd r (λ y. y ≡ x) → P (Err x) → P r
hands_on P r e p = let q = err_from_is_err_and r e in rw (q.1, q.2) p
