-- A record from its head to its last number: the first fault is the refusal, and without one the lists stand at known places. Assumes nothing.
use mathlib.Core.Path.{◌≡◌, refl, sym, ap, subst, ◌∙◌}
use mathlib.Core.Bool.{Bool, cond}
use Rattle.std.specs.Prelude.{Result, Ok, Err}
use mathlib.Core.List.{List, [], ◌∷◌}
use Prim.Native.Nat.{ℕ, zero, suc, ◌*◌, ◌^◌, ◌≤◌, ◌<◌}
use native.Mathlib.Omega.{arith}
use borrow.Author.Tests.{lt-ltb, le-ltb}
use lib.ListN.{length, drop}
use Rattle.panel.specs.Spots.{spot_numbers}
use Rattle.refusal.specs.declared.Refusal.{Refusal}
use Rattle.record.specs.declared.Number.{Number}
use Rattle.record.specs.Number.{number, numbered}
use Rattle.record.specs.Reading.{Values, values, fault, onward, following, numbers, run, Read, refused, whole, closed, then, body, reading}
use Rattle.record.specs.Layout.{Exposure}
use Rattle.record.specs.Head.{head_spots, head_matches, head_directions, head_bits, place, exposure}
use Rattle.record.specs.Passes.{Fit}
use Rattle.record.proofs.RunSteps.{taken, one, run_one, numbers_one}

-- ---- what a number and its followers come from

pub record Opened (b : ℕ) (l : List ℕ) (next : List ℕ → Values) (vs rest : List ℕ) : Type 0 where
  pub v : ℕ
  pub n : ℕ
  pub ws : List ℕ
  pub got : number b l ≡ numbered v n
  pub onwards : next (drop n l) ≡ values ws rest
  pub is : vs ≡ v ∷ ws

pub opened : (b : ℕ) (l : List ℕ) (next : List ℕ → Values) (vs rest : List ℕ) → one b l next ≡ values vs rest → Opened b l next vs rest
unfolding one
opened b l next vs rest e = by (number b l) refl e
  where
    inner : (v n : ℕ) → number b l ≡ numbered v n → (x : Values) → next (drop n l) ≡ x → onward x (λ ws more. values (v ∷ ws) more) ≡ values vs rest → Opened b l next vs rest
    inner v n f (values ws more) g e =
        let p : v ∷ ws ≡ vs = cc in
        let q : more ≡ rest = cc in
        record { v = v; n = n; ws = ws; got = f; onwards = g ∙ ap (values ws) q; is = sym p }
    inner v n f (fault k) g e = let z : ◌≡◌ {A = ℕ} 0 1 = cc in absurd (omega arith)

    by : (x : Result Number Refusal) → number b l ≡ x → following l x (λ v more. onward (next more) (λ ws more. values (v ∷ ws) more)) ≡ values vs rest → Opened b l next vs rest
    by (Ok n) f e = inner n.value n.bytes f (next (drop n.bytes l)) refl e
    by (Err r) f e = let z : ◌≡◌ {A = ℕ} 0 1 = cc in absurd (omega arith)

fit_cons : (b : ℕ) (bs : List ℕ) (v : ℕ) (ws : List ℕ) → v < 2 ^ b → Fit bs ws → Fit (b ∷ bs) (v ∷ ws)
fit_cons b bs v ws h f zero k = h
fit_cons b bs v ws h f (suc i) k = f i (omega arith)

pub numbers_fit : (bs l vs rest : List ℕ) → numbers bs l ≡ values vs rest → Fit bs vs
numbers_fit [] l vs rest e = λ i h. absurd (omega arith)
numbers_fit (b ∷ bs) l vs rest e =
    let o = opened b l (numbers bs) vs rest (sym (numbers_one b bs l) ∙ e) in
    subst (λ (x : List ℕ). Fit (b ∷ bs) x) (sym o.is)
    (fit_cons b bs o.v o.ws (taken b l o.got).small (numbers_fit bs (drop o.n l) o.ws rest o.onwards))

pub run_length : (k b : ℕ) (l vs rest : List ℕ) → run k b l ≡ values vs rest → length vs ≡ k
unfolding run
run_length zero b l vs rest e = let p : [] ≡ vs = cc in ap length (sym p)
run_length (suc k) b l vs rest e =
    let o = opened b l (run k b) vs rest (sym (run_one k b l) ∙ e) in
    ap length o.is ∙ ap suc (run_length k b (drop o.n l) o.ws rest o.onwards)

-- ---- refused or not

pub read_long : (bytes : List ℕ) → 65536 < length bytes → reading bytes ≡ refused 1
unfolding reading
read_long bytes h = ap (λ (t : Bool). cond t (refused 1) (then (numbers head_bits bytes) (λ h rest. body h rest))) (lt-ltb 65536 (length bytes) h)

pub then_values : {x : Values} {vs rest : List ℕ} (f : List ℕ → List ℕ → Read) → x ≡ values vs rest → then x f ≡ f vs rest
unfolding then
then_values f e = ap (λ (y : Values). then y f) e

pub then_fault : {x : Values} {n : ℕ} (f : List ℕ → List ℕ → Read) → x ≡ fault n → then x f ≡ refused n
unfolding then
then_fault f e = ap (λ (y : Values). then y f) e

unfoldable pub after_matches : List ℕ → List ℕ → List ℕ → List ℕ → Read
after_matches h spots matches bytes = then (run (3 * place h head_directions) 32 bytes) (λ directions rest. closed (exposure h spots matches directions) rest)

unfoldable pub after_spots : List ℕ → List ℕ → List ℕ → Read
after_spots h spots bytes = then (run (2 * place h head_matches) 32 bytes) (λ matches rest. after_matches h spots matches rest)

pub body_is : (h bytes : List ℕ) → body h bytes ≡ then (run (spot_numbers * place h head_spots) 64 bytes) (λ spots rest. after_spots h spots rest)
unfolding body after_spots after_matches
body_is h bytes = refl

module _ (bytes : List ℕ) (small : length bytes ≤ 65536) where
  pub by_head : reading bytes ≡ then (numbers head_bits bytes) (λ h rest. body h rest)
  unfolding reading
  by_head = ap (λ (t : Bool). cond t (refused 1) (then (numbers head_bits bytes) (λ h rest. body h rest))) (le-ltb 65536 (length bytes) small)

  pub head_bad : {n : ℕ} → numbers head_bits bytes ≡ fault n → reading bytes ≡ refused n
  head_bad e = by_head ∙ then_fault (λ h rest. body h rest) e

  module _ (h rest : List ℕ) (e : numbers head_bits bytes ≡ values h rest) where
    read_body : reading bytes ≡ then (run (spot_numbers * place h head_spots) 64 rest) (λ spots rest. after_spots h spots rest)
    read_body = by_head ∙ then_values (λ h rest. body h rest) e ∙ body_is h rest

    pub spots_bad : {n : ℕ} → run (spot_numbers * place h head_spots) 64 rest ≡ fault n → reading bytes ≡ refused n
    spots_bad f = read_body ∙ then_fault (λ spots rest. after_spots h spots rest) f

    module _ (spots rest1 : List ℕ) (f : run (spot_numbers * place h head_spots) 64 rest ≡ values spots rest1) where
      read_spots : reading bytes ≡ then (run (2 * place h head_matches) 32 rest1) (λ matches rest. after_matches h spots matches rest)
      unfolding after_spots
      read_spots = read_body ∙ then_values (λ spots rest. after_spots h spots rest) f

      pub matches_bad : {n : ℕ} → run (2 * place h head_matches) 32 rest1 ≡ fault n → reading bytes ≡ refused n
      matches_bad g = read_spots ∙ then_fault (λ matches rest. after_matches h spots matches rest) g

      module _ (matches rest2 : List ℕ) (g : run (2 * place h head_matches) 32 rest1 ≡ values matches rest2) where
        read_matches : reading bytes ≡ then (run (3 * place h head_directions) 32 rest2) (λ directions rest. closed (exposure h spots matches directions) rest)
        unfolding after_matches
        read_matches = read_spots ∙ then_values (λ matches rest. after_matches h spots matches rest) g

        pub directions_bad : {n : ℕ} → run (3 * place h head_directions) 32 rest2 ≡ fault n → reading bytes ≡ refused n
        directions_bad k = read_matches ∙ then_fault (λ directions rest. closed (exposure h spots matches directions) rest) k

        pub read_all : (directions rest3 : List ℕ) → run (3 * place h head_directions) 32 rest2 ≡ values directions rest3
            → reading bytes ≡ closed (exposure h spots matches directions) rest3
        read_all directions rest3 k = read_matches ∙ then_values (λ directions rest. closed (exposure h spots matches directions) rest) k

pub followed : (e : Exposure) (rest : List ℕ) → 0 < length rest → closed e rest ≡ refused 4
unfolding closed
followed e [] h = absurd (omega arith)
followed e (b ∷ bs) h = refl

pub ended : (e : Exposure) (rest : List ℕ) → length rest ≡ 0 → closed e rest ≡ whole e
unfolding closed
ended e [] h = refl
ended e (b ∷ bs) h = absurd (omega arith)
