-- Text laid into a list piece by piece: two pieces are one, and all of it is `set_from`. Assumes nothing.
use mathlib.Core.Path.{◌≡◌, refl, sym, ap, ◌∙◌}
use mathlib.Core.Bool.{Bool, cond}
use mathlib.Core.List.{List, [], ◌∷◌, ◌++◌}
use mathlib.Core.Logic.{⊎_elim}
use Prim.Native.Nat.{ℕ, suc, ◌+◌, ◌≤◌, ◌<◌, min}
use native.Mathlib.Nat.{eq-or-lt_of_le}
use native.Mathlib.Numerals.{add-one}
use native.Mathlib.Omega.{arith}
use borrow.Author.Tests.{lt-ltb, le-ltb}
use lib.ListN.{length, set, length-set}
use lib.Seq.{set_out}
use Rattle.printing.specs.Text.{set_from}
use Rattle.printing.specs.Laying.{Laid, laid, laid_by, put, pushed, Writes}
use Rattle.printing.specs.declared.laying.Writer.{Writer}

-- ---- one byte

module _ (b i : ℕ) (l : List ℕ) where
  put_room : i < length l → put b (laid i l) ≡ laid (i + 1) (set l i b)
  unfolding put
  put_room h = ap (λ (t : Bool). cond t (laid (i + 1) (set l i b)) (laid i l)) (lt-ltb i (length l) h)

  put_full : length l ≤ i → put b (laid i l) ≡ laid i l
  unfolding put
  put_full h = ap (λ (t : Bool). cond t (laid (i + 1) (set l i b)) (laid i l)) (le-ltb i (length l) h)

-- ---- one piece after another

pub pushed_append : (s t : List ℕ) (x : Laid) → pushed (s ++ t) x ≡ pushed t (pushed s x)
unfolding pushed
pushed_append [] t x = refl
pushed_append (b ∷ s) t x = pushed_append s t (put b x)

-- ---- a writer

pub then_write : {s t : List ℕ} {x y z : Writer} → Writes s x y → Writes t y z → Writes (s ++ t) x z
then_write {s} {t} {x} e f = grind (arith, pushed_append s t (laid_by x))

-- ---- all of it

past_end : (i : ℕ) (bs l : List ℕ) → length l ≤ i → set_from i bs l ≡ l
unfolding set_from
past_end i [] l h = refl
past_end i (b ∷ bs) l h =
    let on : length l ≤ suc i = omega arith in
    ap (set_from (suc i) bs) (set_out l i b h) ∙ past_end (suc i) bs l on

pub laid_from : (i : ℕ) (bs l : List ℕ) → i ≤ length l → pushed bs (laid i l) ≡ laid (min (i + length bs) (length l)) (set_from i bs l)
unfolding set_from pushed
laid_from i [] l h = ap (λ (k : ℕ). laid k l) (omega arith)
laid_from i (b ∷ bs) l h = ⊎_elim
    (λ end.
    let full : length l ≤ i = omega arith in
    let on : length l ≤ suc i = omega arith in
    let count : min (i + length bs) (length l) ≡ min (i + suc (length bs)) (length l) = omega arith in
    ap (pushed bs) (put_full b i l full)
    ∙ laid_from i bs l h
    ∙ ap (λ (k : ℕ). laid k (set_from i bs l)) count
    ∙ ap (laid (min (i + suc (length bs)) (length l)))
    (past_end i bs l full ∙ sym (past_end (suc i) bs l on) ∙ ap (set_from (suc i) bs) (sym (set_out l i b full))))
    (λ room.
    let e : length (set l i b) ≡ length l = length-set l i b in
    let on : suc i ≤ length (set l i b) = omega arith in
    let count : min (suc i + length bs) (length (set l i b)) ≡ min (i + suc (length bs)) (length l) = omega arith in
    ap (pushed bs) (put_room b i l room ∙ ap (λ (k : ℕ). laid k (set l i b)) (add-one i))
    ∙ laid_from (suc i) bs (set l i b) on
    ∙ ap (λ (k : ℕ). laid k (set_from (suc i) bs (set l i b))) count)
    (eq-or-lt_of_le h)
