-- A refusal passed on by `?`: its number is the answer's, and is never 0. Assumes nothing.
use mathlib.Core.Path.{◌≡◌, ◌∙◌, refl, sym, ap}
use mathlib.Core.List.{[], ◌∷◌}
use Prim.Native.Nat.{ℕ}
use lib.ListN.{get_or}
use native.Mathlib.Omega.{arith}
use Rattle.std.specs.Prelude.{Option, Some, None, Result, Ok, Err, IsErrAnd}
use Rattle.refusal.specs.Number.{number_of, number_given}
use Rattle.refusal.specs.declared.Refusal.{Refusal}
use Rattle.refusal.specs.declared.Refusal.TheVariants.{LongRecord, EndsEarly, WrongNumber, BytesAfter, Uneven, TooMany, Scale, Radius, Coordinate, UnknownMatch, ShortList, Unsound, ManyPairs, Cut, Weight}

pub has_number : (r : Refusal) → number_of r ≡ 0 → ⊥
has_number LongRecord h = omega arith
has_number EndsEarly h = omega arith
has_number WrongNumber h = omega arith
has_number BytesAfter h = omega arith
has_number Uneven h = omega arith
has_number TooMany h = omega arith
has_number Scale h = omega arith
has_number Radius h = omega arith
has_number Coordinate h = omega arith
has_number UnknownMatch h = omega arith
has_number ShortList h = omega arith
has_number Unsound h = omega arith
has_number ManyPairs h = omega arith
has_number Cut h = omega arith
has_number Weight h = omega arith

pub passed_on : {A : Type 0} (a : Result A Refusal) (r : Refusal) → IsErrAnd a (λ e. e ≡ r) → number_given a ≡ number_of r
passed_on (Ok x) r h = absurd h
passed_on (Err e) r h = ap number_of h

-- two refusals of one number are one
by_number : ℕ → Option Refusal
by_number n =
    get_or
    (None ∷ Some LongRecord ∷ Some EndsEarly ∷ Some WrongNumber ∷ Some BytesAfter ∷ Some Uneven ∷ Some TooMany ∷ Some Scale ∷ Some Radius
    ∷ Some Coordinate ∷ Some UnknownMatch ∷ Some ShortList ∷ Some Unsound ∷ Some ManyPairs ∷ Some Cut ∷ None ∷ None ∷ Some Weight ∷ [])
    n None

found_by : (r : Refusal) → by_number (number_of r) ≡ Some r
unfolding by_number
found_by LongRecord = refl
found_by EndsEarly = refl
found_by WrongNumber = refl
found_by BytesAfter = refl
found_by Uneven = refl
found_by TooMany = refl
found_by Scale = refl
found_by Radius = refl
found_by Coordinate = refl
found_by UnknownMatch = refl
found_by ShortList = refl
found_by Unsound = refl
found_by ManyPairs = refl
found_by Cut = refl
found_by Weight = refl

pub same_refusal : (a b : Refusal) → number_of a ≡ number_of b → a ≡ b
same_refusal a b e =
    let s : Some a ≡ Some b = sym (found_by a) ∙ ap by_number e ∙ found_by b in
    cc
