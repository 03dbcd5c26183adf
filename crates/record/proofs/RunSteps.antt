-- Numbers one after another: what is read so far stands before what is left to read. Assumes nothing.
use mathlib.Core.Path.{◌≡◌, refl, sym, ap, subst, ◌∙◌}
use mathlib.Core.Bool.{Bool, true, false, cond, ◌&&◌, ◌||◌}
use Rattle.std.proofs.lemmas.Result.{err_from_is_err_and}
use Rattle.std.specs.Prelude.{IsErrAnd, Result, Ok, Err}
use mathlib.Core.List.{List, [], ◌∷◌, ◌++◌, map, append_assoc, append-nil, map-append}
use Prim.Native.Nat.{ℕ, suc, ◌+◌, ◌-◌, ◌*◌, ◌%◌, ◌^◌, ◌≤◌, ◌<◌}
use native.Mathlib.Numerals.{add-one}
use native.Mathlib.Omega.{arith}
use borrow.Author.Tests.{ltb-true}
use lib.Dec.{ltb, eqb}
use lib.ListN.{length, take, drop, length-append, length-drop, length-map, set, get_or, drop_of_length-le}
use lib.Seq.{take_all, drop-cons, set_at}
use Rattle.std.proofs.lemmas.List.{drop-drop}
use Rattle.refusal.specs.declared.Refusal.{Refusal}
use Rattle.record.specs.declared.Number.{Number}
use Rattle.refusal.specs.declared.Refusal.TheVariants.{WrongNumber}
use Rattle.refusal.specs.Number.{number_of}
use Rattle.record.specs.Number.{ends, leaves, number_from, number, numbered}
use lib.Ieee.{Float, Format, of_bits}
use Rattle.record.specs.Header.{floats_of}
use Rattle.record.specs.Passes.{Lies, Standing}
use Rattle.record.specs.Reading.{Values, values, fault, onward, following, numbers, run}
use Rattle.record.proofs.NumberSteps.{same_number}

-- What a `?` hands on is the refusal that it met.
pub hands_on : {A : Type 0} (P : Result A Refusal → Type 0) {x : Refusal} (r : Result A Refusal) → IsErrAnd r (λ y. y ≡ x) → P (Err x) → P r
hands_on P r e p = let q = err_from_is_err_and r e in rw (q.1, q.2) p

-- ---- a number that is read is below its power of two, and takes bytes that are there

pub record Taken (most k r n : ℕ) (l : List ℕ) : Type 0 where
  pub small : r < most
  pub some : k < n
  pub inside : n ≤ k + length l

and_second : (x y : Bool) → (x && y) ≡ true → y ≡ true
and_second true y e = e
and_second false true e = refl
and_second false false e = e

from_taken : (l : List ℕ) (most v w k r n : ℕ) → number_from l most v w k ≡ numbered r n → Taken most k r n l
unfolding number_from
from_taken [] most v w k r n e = let z : ◌≡◌ {A = ℕ} 0 1 = cc in absurd (omega arith)
from_taken (b ∷ bs) most v w k r n e = by (ltb b 128) (from_taken bs most (v + b % 128 * w) (128 * w) (suc k) r n) e
  where
    last : (t : Bool) → ends most v w b ≡ t → cond t (numbered (v + b * w) (suc k)) (Err WrongNumber) ≡ numbered r n → Taken most k r n (b ∷ bs)
    last true f e =
        let p : v + b * w ≡ r = (same_number e).0 in
        let q : suc k ≡ n = (same_number e).1 in
        let s : v + b * w < most = ltb-true (v + b * w) most (and_second (ltb 0 b || eqb w 1) (ltb (v + b * w) most) f) in
        record { small = omega arith; some = omega arith; inside = omega arith }
    last false f e = let z : ◌≡◌ {A = ℕ} 0 1 = cc in absurd (omega arith)

    after : Type 0
    after = number_from bs most (v + b % 128 * w) (128 * w) (suc k) ≡ numbered r n → Taken most (suc k) r n bs

    inner : (t : Bool) → after → cond t (number_from bs most (v + b % 128 * w) (128 * w) (suc k)) (Err WrongNumber) ≡ numbered r n → Taken most k r n (b ∷ bs)
    inner true go e =
        let g = go e in
        record { small = g.small; some = omega (arith, g.some); inside = omega (arith, g.inside) }
    inner false go e = let z : ◌≡◌ {A = ℕ} 0 1 = cc in absurd (omega arith)

    by : (t : Bool) → after → cond t (cond (ends most v w b) (numbered (v + b * w) (suc k)) (Err WrongNumber)) (cond (leaves most v w b) (number_from bs most (v + b % 128 * w) (128 * w) (suc k)) (Err WrongNumber)) ≡ numbered r n → Taken most k r n (b ∷ bs)
    by true go e = last (ends most v w b) refl e
    by false go e = inner (leaves most v w b) go e

pub taken : (bits : ℕ) (l : List ℕ) {r n : ℕ} → number bits l ≡ numbered r n → Taken (2 ^ bits) 0 r n l
unfolding number
taken bits l {r} {n} e = from_taken l (2 ^ bits) 0 1 0 r n e

-- ---- one number, and what follows it

unfoldable pub ahead : List ℕ → Values → Values
unfolding onward
ahead vs x = onward x (λ ws more. values (vs ++ ws) more)

unfoldable pub one : ℕ → List ℕ → (List ℕ → Values) → Values
unfolding onward following number
one b l next = following l (number b l) (λ v rest. onward (next rest) (λ vs more. values (v ∷ vs) more))

module _ (b : ℕ) (l : List ℕ) (next : List ℕ → Values) (vs : List ℕ) where
  pub one_got : {v n : ℕ} → number b l ≡ numbered v n → ahead vs (one b l next) ≡ ahead (vs ++ v ∷ []) (next (drop n l))
  unfolding ahead one
  one_got {v} {n} e =
      ap (λ (x : Result Number Refusal). ahead vs (following l x (λ v rest. onward (next rest) (λ vs more. values (v ∷ vs) more)))) e ∙ by (next (drop n l))
    where
      by : (x : Values) → ahead vs (onward x (λ vs more. values (v ∷ vs) more)) ≡ ahead (vs ++ v ∷ []) x
      by (values ws more) = ap (λ (y : List ℕ). values y more) (sym (append_assoc vs (v ∷ []) ws))
      by (fault n) = refl

  pub one_refused : {r : Refusal} → number b l ≡ Err r → ahead vs (one b l next) ≡ fault (number_of r)
  unfolding ahead one
  one_refused e = ap (λ (x : Result Number Refusal). ahead vs (following l x (λ v rest. onward (next rest) (λ vs more. values (v ∷ vs) more)))) e

pub run_one : (k b : ℕ) (l : List ℕ) → run (suc k) b l ≡ one b l (run k b)
unfolding run one
run_one k b l = refl

pub numbers_one : (b : ℕ) (bs l : List ℕ) → numbers (b ∷ bs) l ≡ one b l (numbers bs)
unfolding numbers one
numbers_one b bs l = refl

pub ahead_none : (vs l : List ℕ) → ahead vs (values [] l) ≡ values vs l
unfolding ahead
ahead_none vs l = ap (λ (x : List ℕ). values x l) (append-nil vs)

pub ahead_first : (x : Values) → x ≡ ahead [] x
unfolding ahead
ahead_first (values vs more) = refl
ahead_first (fault n) = refl

-- what stands after the first n bytes, as a slice
abbrev pub past : ℕ → List ℕ → List ℕ
past n l = take (length l - n) (drop n l)

pub past_is : (n : ℕ) (l : List ℕ) → drop n l ≡ past n l
past_is n l = sym (take_all (length l - n) (drop n l) (omega (arith, length-drop n l)))

pub past_past : (n at : ℕ) (l : List ℕ) → past n (past at l) ≡ past (at + n) l
past_past n at l = sym (past_is n (past at l)) ∙ ap (drop n) (sym (past_is at l)) ∙ drop-drop n at l ∙ past_is (at + n) l

pub past_length : (n : ℕ) (l : List ℕ) → length (past n l) ≡ length l - n
past_length n l = ap length (sym (past_is n l)) ∙ length-drop n l

-- ---- a run: `done` is read, and what is left lies in `rest`

pub record Passing (bits all : ℕ) (bytes rest : List ℕ) (i : ℕ) (done : List ℕ) : Type 0 where
  pub count : length done ≡ i
  pub is : run all bits bytes ≡ ahead done (run (all - i) bits rest)

pub passing_first : (bits all : ℕ) (bytes : List ℕ) → Passing bits all bytes bytes 0 []
passing_first bits all bytes = record {
  count = refl;
  is = ahead_first (run all bits bytes) ∙ ap (λ (k : ℕ). ahead [] (run k bits bytes)) (omega arith);
}

module _ (bits all : ℕ) (bytes rest : List ℕ) (i : ℕ) (done : List ℕ) (p : Passing bits all bytes rest i done) where
  pub passed_all : all ≤ i → run all bits bytes ≡ values done rest
  unfolding run
  passed_all h =
      p.is ∙ ap (λ (k : ℕ). ahead done (run k bits rest)) none ∙ ahead_none done rest
    where
      none : all - i ≡ 0
      none = omega arith

  module _ (h : i < all) where
    open_one : run all bits bytes ≡ ahead done (one bits rest (run (all - (i + 1)) bits))
    open_one =
        let k : all - i ≡ suc (all - (i + 1)) = omega arith in
        p.is ∙ ap (λ (k : ℕ). ahead done (run k bits rest)) k ∙ ap (ahead done) (run_one (all - (i + 1)) bits rest)

    pub passing_on : {v n : ℕ} → number bits rest ≡ numbered v n → Passing bits all bytes (past n rest) (i + 1) (done ++ v ∷ [])
    passing_on {v} {n} e = record {
      count = length-append done (v ∷ []) ∙ omega (arith, p.count);
      is = open_one ∙ one_got bits rest (run (all - (i + 1)) bits) done e ∙ ap (λ (l : List ℕ). ahead (done ++ v ∷ []) (run (all - (i + 1)) bits l)) (past_is n rest);
    }

    pub passing_refused : {r : Refusal} → number bits rest ≡ Err r → run all bits bytes ≡ fault (number_of r)
    passing_refused e = open_one ∙ one_refused bits rest (run (all - (i + 1)) bits) done e

-- ---- a list whose first places hold what the numbers read so far stand for

pub record Filling {A : Type 0} (f : ℕ → A) (bits : ℕ) (bytes rest : List ℕ) (i : ℕ) (before after : List A) : Type 0 where
  pub done : List ℕ
  pub passing : Passing bits (length before) bytes rest i done
  pub inside : i ≤ length before
  pub is : after ≡ map f done ++ drop i before

pub filling_first : {A : Type 0} (f : ℕ → A) (bits : ℕ) (bytes : List ℕ) (before : List A) → Filling f bits bytes bytes 0 before before
filling_first f bits bytes before = record { done = []; passing = passing_first bits (length before) bytes; inside = omega arith; is = refl }

module _ {A : Type 0} (f : ℕ → A) (bits : ℕ) (bytes rest : List ℕ) (i : ℕ) (before after : List A) (p : Filling f bits bytes rest i before after) where
  done_count : length (map f p.done) ≡ i
  done_count = length-map p.done f ∙ p.passing.count

  pub filled : length before ≤ i → (vs : List ℕ) → Standing (length before) bits bytes vs → after ≡ map f vs
  filled all vs s =
      let q : values p.done rest ≡ values vs s.rest = sym (passed_all bits (length before) bytes rest i p.done p.passing all) ∙ s.is in
      let same : p.done ≡ vs = cc in
      p.is ∙ ap (λ (l : List A). map f p.done ++ l) (drop_of_length-le before all) ∙ append-nil (map f p.done) ∙ ap (map f) same

  module _ (short : i < length before) where
    -- a number stands where the list goes on
    pub filling_got : (vs : List ℕ) → Standing (length before) bits bytes vs → (v : ℕ) × (n : ℕ) × (number bits rest ≡ numbered v n)
    filling_got vs s = by (number bits rest) refl
      where
        by : (x : Result Number Refusal) → number bits rest ≡ x → (v : ℕ) × (n : ℕ) × (number bits rest ≡ numbered v n)
        by (Ok n) e = (n.value, n.bytes, e)
        by (Err r) e =
            let q : fault (number_of r) ≡ values vs s.rest = sym (passing_refused bits (length before) bytes rest i p.done p.passing short e) ∙ s.is in
            let z : ◌≡◌ {A = ℕ} 0 1 = cc in
            absurd (omega arith)

    module _ (vs : List ℕ) (s : Standing (length before) bits bytes vs) where
      pub filling_lies : bits ≤ 64 → Lies rest
      filling_lies h = record { bits = bits; narrow = h; value = (filling_got vs s).0; count = (filling_got vs s).1; is = (filling_got vs s).2 }

      module _ (value t : ℕ) (known : (b v n : ℕ) → number b rest ≡ numbered v n → (value ≡ v) × (t ≡ n)) where
        is_known : (value ≡ (filling_got vs s).0) × (t ≡ (filling_got vs s).1)
        is_known = known bits (filling_got vs s).0 (filling_got vs s).1 (filling_got vs s).2

        pub filling_small : value < 2 ^ bits
        filling_small = omega (arith, is_known.0, (taken bits rest (filling_got vs s).2).small)

        pub filling_inside : t ≤ length rest
        filling_inside = omega (arith, is_known.1, (taken bits rest (filling_got vs s).2).inside)

        pub filling_on : (x : A) → x ≡ f value → Filling f bits bytes (past t rest) (i + 1) before (set after i x)
        filling_on x is =
            let v = (filling_got vs s).0 in
            record {
              done = p.done ++ v ∷ [];
              passing = subst (λ (y : ℕ). Passing bits (length before) bytes (past y rest) (i + 1) (p.done ++ v ∷ [])) (sym is_known.1)
                  (passing_on bits (length before) bytes rest i p.done p.passing short (filling_got vs s).2);
              inside = omega (arith, short);
              is =
                  ap (λ (l : List A). set l i x) (p.is ∙ ap (λ (l : List A). map f p.done ++ l) (drop-cons before i x short))
                  ∙ set_at (map f p.done) (get_or before i x) (drop (suc i) before) x i done_count
                  ∙ ap (λ (y : A). map f p.done ++ y ∷ drop (suc i) before) (is ∙ ap f is_known.0)
                  ∙ sym (append_assoc (map f p.done) (f v ∷ []) (drop (suc i) before))
                  ∙ ap (λ (l : List A). l ++ drop (suc i) before) (sym (map-append f p.done (v ∷ [])))
                  ∙ ap (λ (k : ℕ). map f (p.done ++ v ∷ []) ++ drop k before) (sym (add-one i));
            }

pub floats_map : (f : Format) (vs : List ℕ) → floats_of f vs ≡ map (of_bits f) vs
unfolding floats_of
floats_map f [] = refl
floats_map f (v ∷ vs) = ap (λ (l : List Float). of_bits f v ∷ l) (floats_map f vs)
