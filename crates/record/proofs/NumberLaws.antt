-- The bytes of a number and its reading, both ways. Assumes nothing.
use mathlib.Core.Path.{◌≡◌, refl, sym, ap, subst, ◌∙◌}
use mathlib.Core.Logic.{◌⊎◌, inl, inr}
use mathlib.Core.Bool.{Bool, true, false, cond, ◌&&◌, ◌||◌}
use Rattle.std.specs.Prelude.{Result, Ok, Err}
use mathlib.Core.List.{List, [], ◌∷◌, ◌++◌}
use Prim.Native.Nat.{ℕ, zero, suc, ◌+◌, ◌*◌, ◌/◌, ◌%◌, ◌^◌, ◌≤◌, ◌<◌}
use native.Mathlib.Nat.{mul-le-mul_right, mul_assoc, add-mul, pow-suc}
use native.Mathlib.Omega.{arith}
use borrow.Author.Tests.{lt-ltb, le-ltb, ltb-true, ltb-false, eq-eqb, eqb-true}
use lib.Dec.{ltb, eqb}
use lib.ListN.{length, drop}
use lib.Seq.{drop-append_seam}
use lib.Pow.{pow_mono, pow_pos}
use Rattle.refusal.specs.declared.Refusal.{Refusal}
use Rattle.record.specs.declared.Number.{Number}
use Rattle.refusal.specs.declared.Refusal.TheVariants.{EndsEarly, WrongNumber}
use Rattle.refusal.specs.Number.{number_of}
use Rattle.record.specs.Number.{groups, written, ends, leaves, number_from, number, numbered}
use Rattle.record.specs.Claims.{Octets, Begins, NumberBytes}
use Rattle.record.proofs.NumberSteps.{last_is, more_is, leaves_is, ends_is, or_true, both_true, same_number}
use Rattle.record.proofs.RunSteps.{taken}
use Rattle.record.proofs.Laws.{Out, got, bad, Laws, Faults}

-- ---- the groups of a number

-- x * w, by its lowest group
split : (x w : ℕ) → x * w ≡ x % 128 * w + x / 128 * (128 * w)
split x w =
    let e : x ≡ x % 128 + x / 128 * 128 = omega arith in
    ap (λ (t : ℕ). t * w) e ∙ add-mul (x % 128) (x / 128 * 128) w ∙ ap (λ (t : ℕ). x % 128 * w + t) (mul_assoc (x / 128) 128 w)

groups_last : (k x : ℕ) → x < 128 → groups k x ≡ x ∷ []
unfolding groups
groups_last zero x h = refl
groups_last (suc k) x h = ap (λ (t : Bool). cond t (x ∷ []) ((128 + x % 128) ∷ groups k (x / 128))) (lt-ltb x 128 h)

groups_more : (k x : ℕ) → 128 ≤ x → groups (suc k) x ≡ (128 + x % 128) ∷ groups k (x / 128)
unfolding groups
groups_more k x h = ap (λ (t : Bool). cond t (x ∷ []) ((128 + x % 128) ∷ groups k (x / 128))) (le-ltb x 128 h)

-- A byte with its top bit set, before the groups of x.
groups_front : (k b x : ℕ) → 128 ≤ b → b < 256 → 0 < x → b % 128 + x * 128 < 128 ^ suc k → (j : ℕ) × (x < 128 ^ suc j) × (groups k (b % 128 + x * 128) ≡ b ∷ groups j x)
groups_front zero b x g h p s = absurd (omega arith)
groups_front (suc j) b x g h p s =
    let y = b % 128 + x * 128 in
    let big : 128 ≤ y = omega arith in
    let low : 128 + y % 128 ≡ b = omega arith in
    let high : y / 128 ≡ x = omega arith in
    (j, omega (arith, pow-suc 128 (suc j)), groups_more j y big ∙ ap (λ (t : ℕ). t ∷ groups j (y / 128)) low ∙ ap (λ (t : ℕ). b ∷ groups j t) high)

-- ---- a needless zero

-- Not a needless zero.
abbrev Needed : ℕ → ℕ → Type 0
Needed x w = (0 < x) ⊎ (w ≡ 1)

needed_true : (x w : ℕ) → Needed x w → (ltb 0 x || eqb w 1) ≡ true
needed_true x w (inl p) = ap (λ (t : Bool). t || eqb w 1) (lt-ltb 0 x p)
needed_true x w (inr p) = ap (λ (t : Bool). ltb 0 x || t) (eq-eqb w 1 p) ∙ or_true (ltb 0 x)

true_needed : (x w : ℕ) (t : Bool) → ltb 0 x ≡ t → (t || eqb w 1) ≡ true → Needed x w
true_needed x w true e f = inl (ltb-true 0 x e)
true_needed x w false e f = inr (eqb-true w 1 f)

-- ---- what is written is read

module _ (x : ℕ) (rest : List ℕ) (most v w n : ℕ) (less : v + x * w < most) where
  reads_last : (k : ℕ) → x < 128 → Needed x w → number_from (groups k x ++ rest) most v w n ≡ numbered (v + x * w) (length (groups k x) + n)
  reads_last k h need =
      ap (λ (l : List ℕ). number_from (l ++ rest) most v w n) (groups_last k x h) ∙ last_is x rest most v w n h
      ∙ ap (λ (t : Bool). cond t (numbered (v + x * w) (suc n)) (Err WrongNumber))
      (ends_is most v w x ∙ ap (λ (t : Bool). t && ltb (v + x * w) most) (needed_true x w need) ∙ lt-ltb (v + x * w) most less)
      ∙ ap (numbered (v + x * w)) (omega (arith, ap length (groups_last k x h)))

  pub less_on : v + x % 128 * w + x / 128 * (128 * w) < most
  less_on = omega (arith, split x w)

  reads_more : (k : ℕ) → 128 ≤ x
      → number_from (groups k (x / 128) ++ rest) most (v + x % 128 * w) (128 * w) (suc n) ≡ numbered (v + x % 128 * w + x / 128 * (128 * w)) (length (groups k (x / 128)) + suc n)
      → number_from (groups (suc k) x ++ rest) most v w n ≡ numbered (v + x * w) (length (groups (suc k) x) + n)
  reads_more k h go =
      let b = 128 + x % 128 in
      let g = groups k (x / 128) ++ rest in
      let low : b % 128 ≡ x % 128 = omega arith in
      let up : 128 * w ≤ x / 128 * (128 * w) = one_more (x / 128) (omega arith) in
      ap (λ (l : List ℕ). number_from (l ++ rest) most v w n) (groups_more k x h) ∙ more_is b g most v w n (omega arith)
      ∙ ap (λ (t : Bool). cond t (number_from g most (v + b % 128 * w) (128 * w) (suc n)) (Err WrongNumber))
      (leaves_is most v w b ∙ ap (λ (t : ℕ). ltb (v + t * w + 128 * w) most) low ∙ lt-ltb (v + x % 128 * w + 128 * w) most (omega (arith, less_on)))
      ∙ ap (λ (t : ℕ). number_from g most (v + t * w) (128 * w) (suc n)) low ∙ go
      ∙ ap (λ (t : ℕ). numbered t (length (groups k (x / 128)) + suc n)) (omega (arith, split x w))
      ∙ ap (numbered (v + x * w)) (omega (arith, ap length (groups_more k x h)))
    where
      one_more : (y : ℕ) → 1 ≤ y → 128 * w ≤ y * (128 * w)
      one_more y h = let p : 1 * (128 * w) ≤ y * (128 * w) = mul-le-mul_right (128 * w) h in omega arith

from_reads : (k x : ℕ) (rest : List ℕ) (most v w n : ℕ) → x < 128 ^ suc k → v + x * w < most → Needed x w
    → number_from (groups k x ++ rest) most v w n ≡ numbered (v + x * w) (length (groups k x) + n)
from_reads zero x rest most v w n small less need = reads_last x rest most v w n less zero (omega arith) need
from_reads (suc k) x rest most v w n small less need =
    by (ltb x 128) refl (λ h. from_reads k (x / 128) rest most (v + x % 128 * w) (128 * w) (suc n)
    (omega (arith, pow-suc 128 (suc k))) (less_on x rest most v w n less) (inl (omega arith)))
  where
    by : (t : Bool) → ltb x 128 ≡ t
        → (128 ≤ x → number_from (groups k (x / 128) ++ rest) most (v + x % 128 * w) (128 * w) (suc n) ≡ numbered (v + x % 128 * w + x / 128 * (128 * w)) (length (groups k (x / 128)) + suc n))
        → number_from (groups (suc k) x ++ rest) most v w n ≡ numbered (v + x * w) (length (groups (suc k) x) + n)
    by true e go = reads_last x rest most v w n less (suc k) (ltb-true x 128 e) need
    by false e go = reads_more x rest most v w n less k (ltb-false x 128 e) (go (ltb-false x 128 e))

-- ---- what is read was written

pub record Meant (l : List ℕ) (v w n r c : ℕ) : Type 0 where
  pub x : ℕ
  pub rest : List ℕ
  pub value : r ≡ v + x * w
  pub need : Needed x w
  pub bytes : (k : ℕ) → x < 128 ^ suc k → l ≡ groups k x ++ rest
  pub count : (k : ℕ) → x < 128 ^ suc k → c ≡ length (groups k x) + n

-- v + x' * w', one group on, is v + x * w
group_on : (v w b x : ℕ) → v + b % 128 * w + x * (128 * w) ≡ v + (b % 128 + x * 128) * w
group_on v w b x = omega (arith, add-mul (b % 128) (x * 128) w, mul_assoc x 128 w)

meant_on : (b : ℕ) (bs : List ℕ) (v w n r c : ℕ) → 128 ≤ b → b < 256 → Meant bs (v + b % 128 * w) (128 * w) (suc n) r c → Meant (b ∷ bs) v w n r c
meant_on b bs v w n r c g h m = record {
  x = b % 128 + m.x * 128;
  rest = m.rest;
  value = m.value ∙ group_on v w b m.x;
  need = inl (omega (arith, pos m.need));
  bytes = λ k s.
      let f = groups_front k b m.x g h (pos m.need) s in
      ap (λ (l : List ℕ). b ∷ l) (m.bytes f.0 f.1) ∙ ap (λ (l : List ℕ). l ++ m.rest) (sym f.2);
  count = λ k s.
      let f = groups_front k b m.x g h (pos m.need) s in
      m.count f.0 f.1 ∙ omega (arith, ap length f.2);
}
  where
    pos : Needed m.x (128 * w) → 0 < m.x
    pos (inl p) = p
    pos (inr p) = absurd (omega arith)

meant_last : (b : ℕ) (bs : List ℕ) (v w n : ℕ) → b < 128 → Needed b w → Meant (b ∷ bs) v w n (v + b * w) (suc n)
meant_last b bs v w n h need = record {
  x = b;
  rest = bs;
  value = refl;
  need = need;
  bytes = λ k s. ap (λ (l : List ℕ). l ++ bs) (sym (groups_last k b h));
  count = λ k s. omega (arith, ap length (groups_last k b h));
}

from_means : (l : List ℕ) (most v w n r c : ℕ) → Octets l → number_from l most v w n ≡ numbered r c → Meant l v w n r c
unfolding number_from
from_means [] most v w n r c o e = let z : ◌≡◌ {A = ℕ} 0 1 = cc in absurd (omega arith)
from_means (b ∷ bs) most v w n r c o e = by (ltb b 128) refl (from_means bs most (v + b % 128 * w) (128 * w) (suc n) r c o.1)
  where
    last : (t : Bool) → ends most v w b ≡ t → b < 128 → cond t (numbered (v + b * w) (suc n)) (Err WrongNumber) ≡ numbered r c → Meant (b ∷ bs) v w n r c
    last true f h e =
        let p : v + b * w ≡ r = (same_number e).0 in
        let q : suc n ≡ c = (same_number e).1 in
        let need = true_needed b w (ltb 0 b) refl (both_true (ltb 0 b || eqb w 1) (ltb (v + b * w) most) (sym (ends_is most v w b) ∙ f)).0 in
        subst (λ (y : ℕ). Meant (b ∷ bs) v w n y c) p (subst (λ (y : ℕ). Meant (b ∷ bs) v w n (v + b * w) y) q (meant_last b bs v w n h need))
    last false f h e = let z : ◌≡◌ {A = ℕ} 0 1 = cc in absurd (omega arith)

    more : (t : Bool) → (number_from bs most (v + b % 128 * w) (128 * w) (suc n) ≡ numbered r c → Meant bs (v + b % 128 * w) (128 * w) (suc n) r c)
        → 128 ≤ b → cond t (number_from bs most (v + b % 128 * w) (128 * w) (suc n)) (Err WrongNumber) ≡ numbered r c → Meant (b ∷ bs) v w n r c
    more true go h e = meant_on b bs v w n r c h o.0 (go e)
    more false go h e = let z : ◌≡◌ {A = ℕ} 0 1 = cc in absurd (omega arith)

    by : (t : Bool) → ltb b 128 ≡ t → (number_from bs most (v + b % 128 * w) (128 * w) (suc n) ≡ numbered r c → Meant bs (v + b % 128 * w) (128 * w) (suc n) r c) → Meant (b ∷ bs) v w n r c
    by true f go = last (ends most v w b) refl (ltb-true b 128 f) (sym (last_is b bs most v w n (ltb-true b 128 f)) ∙ e)
    by false f go = more (leaves most v w b) go (ltb-false b 128 f) (sym (more_is b bs most v w n (ltb-false b 128 f)) ∙ e)

-- ---- bytes that end inside a number can be ended lawfully, by a 1

pub record Ended (l : List ℕ) (v w most : ℕ) : Type 0 where
  pub x : ℕ
  pub some : 0 < x
  pub less : v + x * w < most
  pub bytes : (k : ℕ) → x < 128 ^ suc k → groups k x ≡ l ++ 1 ∷ []

ended_on : (b : ℕ) (bs : List ℕ) (v w most : ℕ) → 128 ≤ b → b < 256 → Ended bs (v + b % 128 * w) (128 * w) most → Ended (b ∷ bs) v w most
ended_on b bs v w most g h m = record {
  x = b % 128 + m.x * 128;
  some = omega (arith, m.some);
  less = omega (arith, m.less, group_on v w b m.x);
  bytes = λ k s.
      let f = groups_front k b m.x g h m.some s in
      f.2 ∙ ap (λ (l : List ℕ). b ∷ l) (m.bytes f.0 f.1);
}

from_short : (l : List ℕ) (most v w n : ℕ) → Octets l → (l ≡ [] → v + w < most) → number_from l most v w n ≡ Err EndsEarly → Ended l v w most
unfolding number_from
from_short [] most v w n o h e = record { x = 1; some = omega arith; less = omega (arith, h refl); bytes = λ k s. groups_last k 1 (omega arith) }
from_short (b ∷ bs) most v w n o h e = by (ltb b 128) refl (λ p. from_short bs most (v + b % 128 * w) (128 * w) (suc n) o.1 (λ z. p))
  where
    last : (t : Bool) → cond t (numbered (v + b * w) (suc n)) (Err WrongNumber) ≡ Err EndsEarly → Ended (b ∷ bs) v w most
    last true e = let z : ◌≡◌ {A = ℕ} 0 1 = cc in absurd (omega arith)
    last false e = let z : ◌≡◌ {A = ℕ} 0 1 = cc in absurd (omega arith)

    Go : Type 0
    Go = v + b % 128 * w + 128 * w < most → number_from bs most (v + b % 128 * w) (128 * w) (suc n) ≡ Err EndsEarly → Ended bs (v + b % 128 * w) (128 * w) most

    more : (t : Bool) → leaves most v w b ≡ t → Go → 128 ≤ b → cond t (number_from bs most (v + b % 128 * w) (128 * w) (suc n)) (Err WrongNumber) ≡ Err EndsEarly → Ended (b ∷ bs) v w most
    more true f go h e = ended_on b bs v w most h o.0 (go (ltb-true (v + b % 128 * w + 128 * w) most (sym (leaves_is most v w b) ∙ f)) e)
    more false f go h e = let z : ◌≡◌ {A = ℕ} 0 1 = cc in absurd (omega arith)

    by : (t : Bool) → ltb b 128 ≡ t → Go → Ended (b ∷ bs) v w most
    by true f go = last (ends most v w b) (sym (last_is b bs most v w n (ltb-true b 128 f)) ∙ e)
    by false f go = more (leaves most v w b) refl go (ltb-false b 128 f) (sym (more_is b bs most v w n (ltb-false b 128 f)) ∙ e)

-- ---- a byte that leaves no lawful ending is not mended by what follows

from_stuck : (l r : List ℕ) (most v w n : ℕ) → number_from l most v w n ≡ Err WrongNumber → number_from (l ++ r) most v w n ≡ Err WrongNumber
unfolding number_from
from_stuck [] r most v w n e = let z : ◌≡◌ {A = ℕ} 0 1 = cc in absurd (omega arith)
from_stuck (b ∷ bs) r most v w n e = by (ltb b 128) (leaves most v w b) e (from_stuck bs r most (v + b % 128 * w) (128 * w) (suc n))
  where
    Go : Type 0
    Go = number_from bs most (v + b % 128 * w) (128 * w) (suc n) ≡ Err WrongNumber → number_from (bs ++ r) most (v + b % 128 * w) (128 * w) (suc n) ≡ Err WrongNumber

    by : (t u : Bool) → cond t (cond (ends most v w b) (numbered (v + b * w) (suc n)) (Err WrongNumber)) (cond u (number_from bs most (v + b % 128 * w) (128 * w) (suc n)) (Err WrongNumber)) ≡ Err WrongNumber → Go
        → cond t (cond (ends most v w b) (numbered (v + b * w) (suc n)) (Err WrongNumber)) (cond u (number_from (bs ++ r) most (v + b % 128 * w) (128 * w) (suc n)) (Err WrongNumber)) ≡ Err WrongNumber
    by true u e go = e
    by false true e go = go e
    by false false e go = refl

-- ---- what is refused ends early or is wrong

abbrev Why : Refusal → Type 0
Why r = (r ≡ EndsEarly) ⊎ (r ≡ WrongNumber)

from_why : (l : List ℕ) (most v w n : ℕ) {r : Refusal} → number_from l most v w n ≡ Err r → Why r
unfolding number_from
from_why [] most v w n {r} e = let p : EndsEarly ≡ r = cc in inl (sym p)
from_why (b ∷ bs) most v w n {r} e = by (ltb b 128) (ends most v w b) (leaves most v w b) e (from_why bs most (v + b % 128 * w) (128 * w) (suc n))
  where
    wrong : ◌≡◌ {A = Result Number Refusal} (Err WrongNumber) (Err r) → Why r
    wrong e = let p : WrongNumber ≡ r = cc in inr (sym p)

    by : (t u x : Bool) → cond t (cond u (numbered (v + b * w) (suc n)) (Err WrongNumber)) (cond x (number_from bs most (v + b % 128 * w) (128 * w) (suc n)) (Err WrongNumber)) ≡ Err r
        → (number_from bs most (v + b % 128 * w) (128 * w) (suc n) ≡ Err r → Why r) → Why r
    by true true x e go = let z : ◌≡◌ {A = ℕ} 0 1 = cc in absurd (omega arith)
    by true false x e go = wrong e
    by false u true e go = go e
    by false u false e go = wrong e

why : (bits : ℕ) (l : List ℕ) {r : Refusal} → number bits l ≡ Err r → Why r
unfolding number
why bits l e = from_why l (2 ^ bits) 0 1 0 e

-- ---- a number of so many bits, as a reader

unfoldable pub out_of : List ℕ → Result Number Refusal → Out ℕ
out_of l (Ok n) = got n.value (drop n.bytes l)
out_of l (Err r) = bad (number_of r)

abbrev pub single : ℕ → List ℕ → Out ℕ
single bits l = out_of l (number bits l)

abbrev pub Below : ℕ → ℕ → Type 0
Below bits n = n < 2 ^ bits

ten : (bits x : ℕ) → bits ≤ 64 → x < 2 ^ bits → x < 128 ^ suc 9
ten bits x h k = let p : 2 ^ bits ≤ 2 ^ 64 = pow_mono h in omega arith

pub single_faults : (bits : ℕ) (l : List ℕ) → Faults (single bits l)
unfolding out_of
single_faults bits l n e = by (number bits l) refl e
  where
    which : (r : Refusal) → number_of r ≡ n → Why r → (n ≡ 2) ⊎ (n ≡ 3)
    which r p (inl q) = inl (sym p ∙ ap number_of q)
    which r p (inr q) = inr (sym p ∙ ap number_of q)

    by : (y : Result Number Refusal) → number bits l ≡ y → out_of l y ≡ bad n → (n ≡ 2) ⊎ (n ≡ 3)
    by (Ok c) f e = let z : ◌≡◌ {A = ℕ} 0 1 = cc in absurd (omega arith)
    by (Err r) f e = let p : number_of r ≡ n = cc in which r p (why bits l f)

module _ (bits : ℕ) (h : bits ≤ 64) where
  pub number_reads_at : (n : ℕ) (rest : List ℕ) → n < 2 ^ bits → number bits (written n ++ rest) ≡ numbered n (length (written n))
  unfolding number written
  number_reads_at n rest k =
      from_reads 9 n rest (2 ^ bits) 0 1 0 (ten bits n h k) (omega arith) (inr refl)
      ∙ ap (λ (t : ℕ). numbered t (length (groups 9 n) + 0)) (omega arith) ∙ ap (numbered n) (omega arith)

  pub number_means_at : (l : List ℕ) (n c : ℕ) → Octets l → number bits l ≡ numbered n c → (rest : List ℕ) × (l ≡ written n ++ rest) × (c ≡ length (written n))
  unfolding number written
  number_means_at l n c o e =
      let m = from_means l (2 ^ bits) 0 1 0 n c o e in
      let same : m.x ≡ n = omega (arith, m.value) in
      let small : m.x < 128 ^ suc 9 = ten bits m.x h (omega (arith, (taken bits l e).small)) in
      (m.rest, m.bytes 9 small ∙ ap (λ (t : ℕ). groups 9 t ++ m.rest) same, m.count 9 small ∙ omega arith ∙ ap (λ (t : ℕ). length (groups 9 t)) same)

  number_short_at : (l : List ℕ) → Octets l → number bits l ≡ Err EndsEarly → Begins (NumberBytes bits) l
  unfolding number written
  number_short_at [] o e = (0, [], (0, pow_pos bits, sym (groups_last 9 0 (omega arith))))
  number_short_at (b ∷ bs) o e =
      let m = from_short (b ∷ bs) (2 ^ bits) 0 1 0 o (λ z. absurd (cons_nil z)) e in
      let less : m.x < 2 ^ bits = omega (arith, m.less) in
      (1, [], (m.x, less, sym (m.bytes 9 (ten bits m.x h less))))
    where
      cons_nil : b ∷ bs ≡ [] → ⊥
      cons_nil z = let p : suc (length bs) ≡ 0 = ap length z in omega arith

  pub un_short : (l : List ℕ) → single bits l ≡ bad 2 → number bits l ≡ Err EndsEarly
  unfolding out_of
  un_short l e = by (number bits l) refl e
    where
      which : (r : Refusal) → number_of r ≡ 2 → Why r → ◌≡◌ {A = Result Number Refusal} (Err r) (Err EndsEarly)
      which r p (inl q) = ap Err q
      which r p (inr q) = let z : ◌≡◌ {A = ℕ} 3 2 = sym (ap number_of q) ∙ p in absurd (omega arith)

      by : (y : Result Number Refusal) → number bits l ≡ y → out_of l y ≡ bad 2 → y ≡ Err EndsEarly
      by (Ok n) f e = let z : ◌≡◌ {A = ℕ} 0 1 = cc in absurd (omega arith)
      by (Err r) f e = let p : number_of r ≡ 2 = cc in which r p (why bits l f)

  pub un_wrong : (l : List ℕ) → single bits l ≡ bad 3 → number bits l ≡ Err WrongNumber
  unfolding out_of
  un_wrong l e = by (number bits l) refl e
    where
      which : (r : Refusal) → number_of r ≡ 3 → Why r → ◌≡◌ {A = Result Number Refusal} (Err r) (Err WrongNumber)
      which r p (inl q) = let z : ◌≡◌ {A = ℕ} 2 3 = sym (ap number_of q) ∙ p in absurd (omega arith)
      which r p (inr q) = ap Err q

      by : (y : Result Number Refusal) → number bits l ≡ y → out_of l y ≡ bad 3 → y ≡ Err WrongNumber
      by (Ok n) f e = let z : ◌≡◌ {A = ℕ} 0 1 = cc in absurd (omega arith)
      by (Err r) f e = let p : number_of r ≡ 3 = cc in which r p (why bits l f)

  single_reads : (n : ℕ) (r : List ℕ) → n < 2 ^ bits → single bits (written n ++ r) ≡ got n r
  unfolding out_of
  single_reads n r k = ap (out_of (written n ++ r)) (number_reads_at n r k) ∙ ap (got n) (drop-append_seam (written n) r)

  single_means : (l : List ℕ) (n : ℕ) (r : List ℕ) → Octets l → single bits l ≡ got n r → Below bits n × (l ≡ written n ++ r)
  unfolding out_of
  single_means l n r o e = by (number bits l) refl e
    where
      by : (y : Result Number Refusal) → number bits l ≡ y → out_of l y ≡ got n r → Below bits n × (l ≡ written n ++ r)
      by (Ok c) f e =
          let p : c.value ≡ n = cc in
          let q : drop c.bytes l ≡ r = cc in
          let m = number_means_at l c.value c.bytes o f in
          let t : m.0 ≡ r = sym (drop-append_seam (written c.value) m.0) ∙ ap (λ (k : ℕ). drop k (written c.value ++ m.0)) (sym m.2) ∙ ap (drop c.bytes) (sym m.1) ∙ q in
          (subst (Below bits) p (taken bits l f).small, m.1 ∙ ap (λ (z : List ℕ). written c.value ++ z) t ∙ ap (λ (z : ℕ). written z ++ r) p)
      by (Err k) f e = let z : ◌≡◌ {A = ℕ} 0 1 = cc in absurd (omega arith)

  single_stuck : (l r : List ℕ) → Octets l → single bits l ≡ bad 3 → single bits (l ++ r) ≡ bad 3
  unfolding out_of number
  single_stuck l r o e = ap (out_of (l ++ r)) (from_stuck l r (2 ^ bits) 0 1 0 (un_wrong l e))

  pub single_laws : Laws (single bits) written (Below bits)
  single_laws = record {
    some = 0;
    some_ok = pow_pos bits;
    reads = single_reads;
    means = single_means;
    short = λ l o e. number_short_at l o (un_short l e);
    stuck = single_stuck;
    faults = λ l. single_faults bits l;
  }
