-- Digits from the first to the last: all but the last, then the last. Assumes nothing.
use mathlib.Core.Path.{◌≡◌, refl, sym, ap, ◌∙◌}
use mathlib.Core.Bool.{Bool, true, false, cond}
use mathlib.Core.List.{List, [], ◌∷◌, ◌++◌, append_assoc}
use Prim.Native.Nat.{ℕ, zero, suc, ◌+◌, ◌-◌, ◌/◌, ◌%◌, ◌≤◌, ◌<◌}
use native.Mathlib.Omega.{arith}
use borrow.Author.Tests.{lt-ltb, le-ltb}
use lib.Dec.{ltb}
use Rattle.printing.specs.Text.{decimal_from, hex_digit, hex_from}

-- ---- decimal

either_before : (b : Bool) {x y : List ℕ} (x' y' after : List ℕ) → x ≡ x' ++ after → y ≡ y' ++ after → cond b x y ≡ cond b x' y' ++ after
either_before true x' y' after e f = e
either_before false x' y' after e f = f

decimal_before : (k n : ℕ) (after : List ℕ) → decimal_from k n after ≡ decimal_from k n [] ++ after
unfolding decimal_from
decimal_before zero n after = refl
decimal_before (suc k) n after =
    let d = 48 + n % 10 in
    either_before (ltb n 10) ((48 + n) ∷ []) (decimal_from k (n / 10) (d ∷ [])) after refl
    (decimal_before k (n / 10) (d ∷ after) ∙ sym (append_assoc (decimal_from k (n / 10) []) (d ∷ []) after)
    ∙ ap (λ (s : List ℕ). s ++ after) (sym (decimal_before k (n / 10) (d ∷ []))))

pub decimal_one : (k n : ℕ) → n < 10 → decimal_from k n [] ≡ (48 + n % 10) ∷ []
unfolding decimal_from
decimal_one zero n h = refl
decimal_one (suc k) n h =
    let d = 48 + n % 10 in
    let same : 48 + n ≡ d = omega arith in
    ap (λ (b : Bool). cond b ((48 + n) ∷ []) (decimal_from k (n / 10) (d ∷ []))) (lt-ltb n 10 h) ∙ ap (λ (x : ℕ). x ∷ []) same

pub decimal_more : (k n : ℕ) → 0 < k → 10 ≤ n → decimal_from k n [] ≡ decimal_from (k - 1) (n / 10) [] ++ (48 + n % 10) ∷ []
unfolding decimal_from
decimal_more zero n g h = absurd (omega arith)
decimal_more (suc k) n g h =
    let d = 48 + n % 10 in
    let less : k ≡ suc k - 1 = omega arith in
    ap (λ (b : Bool). cond b ((48 + n) ∷ []) (decimal_from k (n / 10) (d ∷ []))) (le-ltb n 10 h)
    ∙ decimal_before k (n / 10) (d ∷ []) ∙ ap (λ (j : ℕ). decimal_from j (n / 10) [] ++ d ∷ []) less

-- ---- hexadecimal

hex_before : (k n : ℕ) (after : List ℕ) → hex_from k n after ≡ hex_from k n [] ++ after
unfolding hex_from
hex_before zero n after = refl
hex_before (suc k) n after =
    let d = hex_digit (n % 16) in
    hex_before k (n / 16) (d ∷ after) ∙ sym (append_assoc (hex_from k (n / 16) []) (d ∷ []) after)
    ∙ ap (λ (s : List ℕ). s ++ after) (sym (hex_before k (n / 16) (d ∷ [])))

pub hex_more : (k n : ℕ) → 0 < k → hex_from k n [] ≡ hex_from (k - 1) (n / 16) [] ++ hex_digit (n % 16) ∷ []
unfolding hex_from
hex_more zero n g = absurd (omega arith)
hex_more (suc k) n g =
    let less : k ≡ suc k - 1 = omega arith in
    hex_before k (n / 16) (hex_digit (n % 16) ∷ []) ∙ ap (λ (j : ℕ). hex_from j (n / 16) [] ++ hex_digit (n % 16) ∷ []) less
