-- Pairs pushed one after the other: a spot's pairs prediction by prediction, all pairs spot by spot, and what the lists hold in the end. Assumes nothing.
use Rattle.std.proofs.Common.{◌≡◌, ℕ, suc, ◌+◌, ◌-◌, ◌*◌, ◌/◌, ◌<◌, ◌≤◌, Bool, true, false, List, [], ◌∷◌, ◌++◌, length, take, set, sym, refl, ap, ◌∙◌, subst, ⊎_elim, append_assoc, append-nil, add-one, arith, length-set, take-suc-set, le-ltb, lt-ltb}
use lib.Ieee.{Float, le}
use Rattle.pairs.specs.Pairs.{Pair, Point, point_at, squared, within, pairs_of, pairs_from, pairs, spots_within}
use Rattle.std.specs.Prelude.{⊤, Option, Some, None}
use Rattle.pairs.specs.Candidates.{pair, Inside, laid, Found, found, push, pushed, Beyond}
use Rattle.pairs.specs.Lent.{found_in, how_many, Same, Tried}
use Rattle.pairs.specs.declared.candidates.Candidates.{Candidates}
use Rattle.pairs.specs.Elements.{All}
use Rattle.pairs.specs.Strips.{Candidate}
use Rattle.lists.proofs.Cases.{below_or}
use Rattle.pairs.proofs.Elements.{all_map}
use Rattle.pairs.proofs.Rearranged.{candidates_from}
use Rattle.pairs.proofs.Lent.{same_self, same_on}
use Rattle.pairs.proofs.Laying.{laid_set, laid_long, stays, then, later, stored}

-- ---- one push

module _ (cap n : ℕ) (d : List Float) (ix : List ℕ) (p : Pair) where
  pub push_fits : n < cap → push cap (found n d ix) p ≡ found (n + 1) (set d n p.d2) (set (set ix (2 * n) p.spot) (2 * n + 1) p.prediction)
  unfolding push
  push_fits h = rw (lt-ltb n cap h)

  pub push_full : cap ≤ n → push cap (found n d ix) p ≡ found (cap + 1) d ix
  unfolding push
  push_full h = rw (le-ltb n cap h)

-- past the end nothing is written any more
pub pushed_full : (cap : ℕ) (d : List Float) (ix : List ℕ) (ps : List Pair) → pushed cap (found (cap + 1) d ix) ps ≡ found (cap + 1) d ix
unfolding pushed
pushed_full cap d ix [] = refl
pushed_full cap d ix (p ∷ ps) = ap (λ (s : Found). pushed cap s ps) (push_full cap (cap + 1) d ix p (omega arith)) ∙ pushed_full cap d ix ps

pub pushed_append : (cap : ℕ) (s : Found) (ps qs : List Pair) → pushed cap s (ps ++ qs) ≡ pushed cap (pushed cap s ps) qs
unfolding pushed
pushed_append cap s [] qs = refl
pushed_append cap s (p ∷ ps) qs = pushed_append cap (push cap s p) ps qs

-- a pair that is tried, and those that follow it
pub within_first : (r2 : Float) (p : Pair) (ps : List Pair) → within r2 p ps ≡ within r2 p [] ++ ps
unfolding within
within_first r2 p ps = by (le p.d2 r2) refl
  where
    by : (b : Bool) → le p.d2 r2 ≡ b → within r2 p ps ≡ within r2 p [] ++ ps
    by true e = rw e
    by false e = rw e

-- ---- a search through the pairs of a list

-- the pairs that stand in the lists, with those of l that are to come, make what is to stand there in the end
pub record Going (c₀ c : Candidates) (l : List Pair) (end : Found) : Type 0 where
  pub same : Same c₀ c
  pub whole : pushed c₀.cap (found_in c) l ≡ end

pub begun : {c : Candidates} {l l' : List Pair} → l ≡ l' → Going c c l (pushed c.cap (found_in c) l')
begun {c} e = record { same = same_self c; whole = ap (pushed c.cap (found_in c)) e }

-- the last one was tried
pub ended : {c₀ c : Candidates} {l : List Pair} {end : Found} → Going c₀ c l end → l ≡ [] → Tried c₀ (Some tt) c end
unfolding pushed how_many
ended g e = record { same = g.same; pairs = rw e at g.whole; full = tt }

-- a first part was tried
module _ {c₀ c : Candidates} {l : List Pair} (ps qs : List Pair) {end : Found} (g : Going c₀ c l end) (e : l ≡ ps ++ qs)
    {o : Option ⊤} {c' : Candidates} (did : Tried c o c' (pushed c.cap (found_in c) ps)) where
  whole : pushed c₀.cap (pushed c₀.cap (found_in c) ps) qs ≡ end
  whole = sym (pushed_append c₀.cap (found_in c) ps qs) ∙ (rw e at g.whole)

  -- and fits
  pub going_on : {u : ⊤} → o ≡ Some u → Going c₀ c' qs end
  unfolding how_many
  going_on {u} q =
      let t : Tried c (Some u) c' (pushed c.cap (found_in c) ps) = rw q at did in
      let made : found_in c' ≡ pushed c₀.cap (found_in c) ps = rw (← g.same.cap) t.pairs in
      record { same = same_on g.same t.same; whole = ap (λ (s : Found). pushed c₀.cap s qs) made ∙ whole }

  -- and was too much
  pub gone_full : o ≡ None → {a : Option ⊤} → a ≡ None → Tried c₀ a c' end
  unfolding how_many
  gone_full q {a} p =
      let t : Tried c None c' (pushed c.cap (found_in c) ps) = rw q at did in
      let s = same_on g.same t.same in
      let made : found (c'.cap + 1) c'.distances.now c'.indices.now ≡ pushed c₀.cap (found_in c) ps = rw (← g.same.cap) t.pairs in
      let ended : found (c'.cap + 1) c'.distances.now c'.indices.now ≡ pushed c₀.cap (found (c'.cap + 1) c'.distances.now c'.indices.now) qs =
      rw s.cap (sym (pushed_full c₀.cap c'.distances.now c'.indices.now qs)) in
      rw p (record { same = s; pairs = ended ∙ ap (λ (s : Found). pushed c₀.cap s qs) made ∙ whole; full = t.full })

-- ---- a spot's pairs, one prediction more

module _ (r2 : Float) (predicted : List Float) (i : ℕ) (c : Point) (n j : ℕ) (h : j < n) where
  abbrev pub this : Pair
  this = pair (squared c (point_at predicted j)) i j

  pub pairs_next : pairs_of r2 predicted i c j (n - j) ≡ within r2 this [] ++ pairs_of r2 predicted i c (j + 1) (n - (j + 1))
  unfolding pairs_of
  pairs_next =
      let e : n - j ≡ suc (n - (j + 1)) = omega arith in
      rw (e, add-one j) (within_first r2 this (pairs_of r2 predicted i c (suc j) (n - suc j)))

-- ---- all pairs, one spot more

pub all_pairs : (points : List Float) (np : ℕ) (predicted : List Float) (r2 : Float) → 2 * np ≤ length points
    → pairs points np predicted r2 ≡ pairs_from r2 points predicted 0 np
unfolding pairs
all_pairs points np predicted r2 h =
    let e : spots_within points np ≡ np = omega arith in
    rw e

pub pairs_spot : (r2 : Float) (points predicted : List Float) (n i : ℕ) → i < n
    → pairs_from r2 points predicted i (n - i)
    ≡ pairs_of r2 predicted i (point_at points i) 0 (length predicted / 2) ++ pairs_from r2 points predicted (i + 1) (n - (i + 1))
unfolding pairs_from
pairs_spot r2 points predicted n i h =
    let e : n - i ≡ suc (n - (i + 1)) = omega arith in
    rw (e, add-one i)

-- ---- what the lists hold in the end

-- k pairs were pushed after n others: all of them stand there, and nothing else was changed
pub record Filled (n : ℕ) (d : List Float) (ix : List ℕ) (ps : List Pair) (s : Found) : Type 0 where
  pub count : s.count ≡ n + length ps
  pub pairs : take (n + length ps) (laid s.distances s.indices) ≡ take n (laid d ix) ++ ps
  pub beyond : Beyond (n + length ps) d ix s.distances s.indices

pub pushed_fits : (cap : ℕ) (ps : List Pair) (n : ℕ) (d : List Float) (ix : List ℕ) → n + length ps ≤ cap → cap ≤ length d → 2 * cap ≤ length ix
    → Filled n d ix ps (pushed cap (found n d ix) ps)
unfolding pushed
pushed_fits cap [] n d ix h u v =
    let e : n + 0 ≡ n = omega arith in
    record { count = sym e; pairs = rw e (sym (append-nil (take n (laid d ix)))); beyond = stays (n + 0) d ix }
pushed_fits cap (p ∷ ps) n d ix h u v =
    let d' = set d n p.d2 in
    let ix' = set (set ix (2 * n) p.spot) (2 * n + 1) p.prediction in
    let e : n + 1 + length ps ≡ n + suc (length ps) = omega arith in
    let long = laid_long d ix (n + 1) (omega arith) (omega arith) in
    let now : take (n + 1) (laid d' ix') ≡ take n (laid d ix) ++ (p ∷ []) =
    rw (laid_set d ix n p.d2 p.spot p.prediction, add-one n) (take-suc-set (laid d ix) n p (omega arith)) in
    let rest = pushed_fits cap ps (n + 1) d' ix' (omega arith) (rw length-set u) (simp length-set v) in
    subst (λ (s : Found). Filled n d ix (p ∷ ps) (pushed cap s ps)) (sym (push_fits cap n d ix p (omega arith)))
    (record {
      count = rest.count ∙ e;
      pairs =
          ap (λ (k : ℕ). take k (laid (pushed cap (found (n + 1) d' ix') ps).distances (pushed cap (found (n + 1) d' ix') ps).indices)) (sym e)
          ∙ rest.pairs ∙ ap (λ (l : List Pair). l ++ ps) now ∙ append_assoc (take n (laid d ix)) (p ∷ []) ps;
      beyond = then (stored (n + suc (length ps)) d ix n p.d2 p.spot p.prediction (omega arith)) (later (n + suc (length ps)) (omega arith) rest.beyond);
    })

-- there were more than fit
pub record Overfull (cap : ℕ) (d : List Float) (ix : List ℕ) (s : Found) : Type 0 where
  pub count : s.count ≡ cap + 1
  pub beyond : Beyond cap d ix s.distances s.indices

pub pushed_over : (cap : ℕ) (ps : List Pair) (n : ℕ) (d : List Float) (ix : List ℕ) → n ≤ cap → cap < n + length ps
    → Overfull cap d ix (pushed cap (found n d ix) ps)
unfolding pushed
pushed_over cap [] n d ix h k = absurd (omega arith)
pushed_over cap (p ∷ ps) n d ix h k =
    ⊎_elim
    (λ (q : n < cap).
    let rest = pushed_over cap ps (n + 1) (set d n p.d2) (set (set ix (2 * n) p.spot) (2 * n + 1) p.prediction) (omega arith) (omega arith) in
    subst (λ (s : Found). Overfull cap d ix (pushed cap s ps)) (sym (push_fits cap n d ix p q))
    (record { count = rest.count; beyond = then (stored cap d ix n p.d2 p.spot p.prediction q) rest.beyond }))
    (λ (q : cap ≤ n).
    subst (λ (s : Found). Overfull cap d ix s) (sym (ap (λ (s : Found). pushed cap s ps) (push_full cap n d ix p q) ∙ pushed_full cap d ix ps))
    (record { count = refl; beyond = stays cap d ix }))
    (below_or n cap)

-- ---- every pair is of a spot and a prediction that there are

pub candidates_inside : (np : ℕ) (r2 : Float) (points predicted : List Float) (l : List Pair) → All (Candidate np points predicted r2) l
    → All (Inside np (length predicted / 2)) l
candidates_inside np r2 points predicted l h = all_map _ _ (λ p c. (c.spot, c.prediction)) l h

pub pairs_inside : (np : ℕ) (r2 : Float) (points predicted : List Float) (k i : ℕ) → i + k ≤ np → All (Inside np (length predicted / 2)) (pairs_from r2 points predicted i k)
pairs_inside np r2 points predicted k i h = candidates_inside np r2 points predicted (pairs_from r2 points predicted i k) (candidates_from np points predicted r2 i k h)
