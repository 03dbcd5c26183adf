-- The parts put together: what is left after ordering, offering and clearing, and the three answers of the whole call. Assumes nothing.
use mathlib.Core.Path.{◌≡◌, refl, sym, ap, subst, ◌∙◌}
use mathlib.Core.List.{List, [], ◌∷◌, ◌++◌, append_assoc, append-nil}
use mathlib.Core.Logic.{⊎_elim}
use Prim.Native.Nat.{ℕ, zero, suc, ◌+◌, ◌-◌, ◌*◌, ◌/◌, ◌<◌, ◌≤◌, min}
use native.Mathlib.Nat.{not-suc-le-zero, zero-add}
use native.Mathlib.Omega.{arith}
use borrow.Author.Tests.{lt-ltb, le-ltb}
use lib.Ieee.{Float}
use mathlib.Core.Bool.{false, ◌||◌}
use lib.Dec.{ltb}
use lib.ListN.{length, take, drop, get_or, replicate, length-append, length-drop, length-replicate, replicate-append-replicate}
use lib.Seq.{slice, length-slice, get_or-take, get_or-drop, take_at, drop_at, take-length, drop-length}
use Rattle.rounding.specs.Arith.{zero64}
use Rattle.std.specs.Prelude.{⊤, Option, Some, None, Result, Ok, Err}
use Rattle.refusal.specs.declared.Refusal.{Refusal}
use Rattle.refusal.specs.declared.Refusal.TheVariants.{ManyPairs, ShortList}
use Rattle.pairs.specs.Pairs.{Pair, pairs, spots_within}
use Rattle.pairs.specs.Elements.{All}
use Rattle.pairs.specs.Candidates.{capacity, Inside, nothing, laid, Beyond, found, pushed}
use Rattle.pairs.specs.Lent.{held, found_in, how_many, Tried}
use Rattle.pairs.specs.declared.candidates.Candidates.{Candidates}
use Rattle.pairs.specs.Strips.{strip_room, pairs_nearby, room_after}
use Rattle.pairs.specs.Spots.{by_spot, put_behind, Put}
use Rattle.lists.specs.Cleared as clearing
use Rattle.matching.specs.Merge.{not_after, merged}
use Rattle.matching.specs.Comparisons.{comparisons}
use Rattle.matching.specs.Greedy.{Outcome, assigned, flat, cleared, cleared_n, needed, placed, overfull, matches_of, greedy_unique_matches, greedy_by_strips}
use Rattle.matching.specs.Layout.{taking, Taking, offers, outcome}
use Rattle.matching.specs.Halves.{begin, standing}
use Rattle.matching.specs.declared.half.Half.{Half}
use Rattle.matching.specs.declared.half.Half.TheVariants.{First, Second}
use Rattle.lists.proofs.Cases.{below_or}
use Rattle.lists.proofs.Clearing.{cleared_within}
use Rattle.pairs.proofs.Laying.{laid_get, laid_long, later, then}
use Rattle.pairs.proofs.Pushing.{Filled, Overfull, pushed_fits, pushed_over, pairs_inside}
use Rattle.pairs.proofs.Elements.{all_head, all_tail}
use Rattle.matching.proofs.Merging.{all_merged}
use Rattle.matching.proofs.Marks.{Taken, offers_of, all_offered, offers_laid}
use Rattle.matching.proofs.Unique.{same_length}
use Rattle.pairs.proofs.Nearby.{nearby_same}
use Rattle.pairs.proofs.BySpot.{nearby_by_spot}

pub same_outcome : {a a' : Result ℕ Refusal} {n n' : ℕ} {d d' : List Float} {ix ix' w w' : List ℕ} → a ≡ a' → n ≡ n' → d ≡ d' → ix ≡ ix' → w ≡ w'
    → outcome a n d ix w ≡ outcome a' n' d' ix' w'
same_outcome p c q r s = cc

all_at : {A : Type 0} (P : A → Type 0) (z : A) (l : List A) (k : ℕ) → k < length l → All P l → P (get_or l k z)
all_at P z [] k h g = absurd (not-suc-le-zero h)
all_at P z (x ∷ l) zero h g = all_head P g
all_at P z (x ∷ l) (suc k) h g = all_at P z l k (omega arith) (all_tail P g)

-- ---- after the pairs are found

module _ (np nq m : ℕ) (d : List Float) (ix w : List ℕ) (d' : List Float) (ix' : List ℕ) (from c : ℕ) (ps : List Pair)
    (ld : 2 * m ≤ length d') (li : 4 * m ≤ length ix') (inside : All (Inside np nq) ps)
    (ordered : (from ≤ m) × (slice from (from + m) (laid d' ix') ≡ merged not_after ps) × Beyond (2 * m) d ix d' ix' × (c ≡ comparisons not_after ps)) where
  ordered_inside : All (Inside np nq) (slice from (from + m) (laid d' ix'))
  ordered_inside = rw ordered.1 (all_merged not_after (Inside np nq) ps inside)

  -- each pair names a prediction that there is
  pub names_one : (k : ℕ) → k < m → get_or ix' (2 * (from + k) + 1) 0 < nq
  names_one k h =
      let o = laid d' ix' in
      let long = laid_long d' ix' (from + m) (omega arith) (omega arith) in
      let at : get_or (slice from (from + m) o) k nothing ≡ get_or o (from + k) nothing =
      get_or-drop from (take (from + m) o) k nothing ∙ get_or-take (from + m) o (from + k) nothing (omega arith) in
      let in_it = all_at (Inside np nq) nothing (slice from (from + m) o) k (omega (arith, length-slice from (from + m) o long)) ordered_inside in
      rw (at, laid_get d' ix' (from + k) (omega arith) (omega arith)) at in_it.1

  pub settled : (t : ℕ) (w' : List ℕ) → np + nq + 2 * min np nq ≤ length w → taking t w' ≡ offers np (np + nq) ix' from m (taking 0 (cleared_n (np + nq) w))
      → outcome (Ok t) c (cleared (2 * m) d') (cleared_n (4 * m) ix') (cleared_n (np + nq) w')
      ≡ placed (np + nq) m (comparisons not_after ps) (assigned [] (merged not_after ps)) d ix w
  unfolding placed
  settled t w' room did =
      let ms = assigned [] (merged not_after ps) in
      let e : 2 * (2 * m) ≡ 4 * m = omega arith in
      let went : taking t w' ≡ offers_of np (np + nq) (taking 0 (cleared_n (np + nq) w)) (merged not_after ps) =
      did ∙ offers_laid np (np + nq) d' ix' m from (taking 0 (cleared_n (np + nq) w)) (omega arith) (omega arith)
      ∙ ap (offers_of np (np + nq) (taking 0 (cleared_n (np + nq) w))) ordered.1 in
      let end = subst (λ (s : Taking). Taken (np + nq) w s (length ms) (flat ms)) (sym went)
      (all_offered np nq w room (merged not_after ps) (all_merged not_after (Inside np nq) ps inside)) in
      same_outcome
      (ap Ok end.count)
      ordered.3
      (ap (λ (l : List Float). replicate (2 * m) zero64 ++ l) ordered.2.distances)
      (ap (λ (l : List ℕ). replicate (4 * m) 0 ++ l) (rw e at ordered.2.indices))
      (ap (λ (l : List ℕ). replicate (np + nq) 0 ++ l) end.matches ∙ sym (append_assoc (replicate (np + nq) 0) (flat ms) (drop (np + nq + 2 * length ms) w)))

-- ---- after the pairs are counted

module _ (cap : ℕ) (ps : List Pair) (d : List Float) (ix : List ℕ) (ld : cap ≤ length d) (li : 2 * cap ≤ length ix) (r : ℕ) (d' : List Float) (ix' : List ℕ)
    (did : found r d' ix' ≡ pushed cap (found 0 d ix) ps) where
  filled : length ps ≤ cap → (take r (laid d' ix') ≡ ps) × (r ≡ length ps) × Beyond r d ix d' ix'
  filled h =
      let f = subst (Filled 0 d ix ps) (sym did) (pushed_fits cap ps 0 d ix (omega arith) ld li) in
      (rw f.count f.pairs, rw (zero-add (length ps)) at f.count, rw f.count f.beyond)

  pub too_full : cap < r → (cap < length ps) × Beyond cap d ix d' ix'
  too_full h =
      ⊎_elim
      (λ (q : cap < length ps). (q, (subst (Overfull cap d ix) (sym did) (pushed_over cap ps 0 d ix (omega arith) (omega arith))).beyond))
      (λ (q : length ps ≤ cap). absurd (omega (arith, (filled q).1)))
      (below_or cap (length ps))

  pub all_there : r ≤ cap → (length ps ≤ cap) × (take r (laid d' ix') ≡ ps) × (r ≡ length ps) × Beyond r d ix d' ix'
  all_there h =
      ⊎_elim
      (λ (q : cap < length ps). absurd (omega (arith, (subst (Overfull cap d ix) (sym did) (pushed_over cap ps 0 d ix (omega arith) (omega arith))).count)))
      (λ (q : length ps ≤ cap). (q, (filled q).0, (filled q).1, (filled q).2))
      (below_or cap (length ps))

-- ---- after a search

-- More pairs than the lists hold were found, and nothing behind those was written,
pub record Over (ps : List Pair) (c₀ c : Candidates) : Type 0 where
  pub more : c₀.cap < length ps
  pub beyond : Beyond c₀.cap c₀.distances.now c₀.indices.now c.distances.now c.indices.now

-- or all of them stand in a half, and nothing behind the halves was written.
pub record Gathered (ps : List Pair) (c₀ c : Candidates) (h : Half) : Type 0 where
  pub fits : c.n ≤ c₀.cap
  pub stand : standing h c ≡ ps
  pub count : c.n ≡ length ps
  pub beyond : Beyond (2 * c.n) c₀.distances.now c₀.indices.now c.distances.now c.indices.now

module _ (ps : List Pair) {c₀ c : Candidates} {a : Option ⊤} (none : c₀.n ≡ 0) (did : Tried c₀ a c (pushed c₀.cap (found_in c₀) ps)) where
  over : a ≡ None → Over ps c₀ c
  unfolding how_many
  over e =
      let t : Tried c₀ None c (pushed c₀.cap (found_in c₀) ps) = rw e at did in
      let made : found (c.cap + 1) c.distances.now c.indices.now ≡ pushed c₀.cap (found 0 c₀.distances.now c₀.indices.now) ps = rw none at t.pairs in
      let f = too_full c₀.cap ps c₀.distances.now c₀.indices.now (omega (arith, c₀.fits)) (omega (arith, c₀.fits)) (c.cap + 1) c.distances.now c.indices.now made
      (omega (arith, did.same.cap)) in
      record { more = f.0; beyond = f.1 }

  there : {u : ⊤} → a ≡ Some u → (take c.n (held c) ≡ ps) × (c.n ≡ length ps) × Beyond c.n c₀.distances.now c₀.indices.now c.distances.now c.indices.now
  unfolding how_many
  there {u} e =
      let t : Tried c₀ (Some u) c (pushed c₀.cap (found_in c₀) ps) = rw e at did in
      let made : found c.n c.distances.now c.indices.now ≡ pushed c₀.cap (found 0 c₀.distances.now c₀.indices.now) ps = rw none at t.pairs in
      let f = all_there c₀.cap ps c₀.distances.now c₀.indices.now (omega (arith, c₀.fits)) (omega (arith, c₀.fits)) c.n c.distances.now c.indices.now made
      (omega (arith, c.few, did.same.cap)) in
      (f.1, f.2, f.3)

module _ (points : List Float) (limit : ℕ) (predicted : List Float) (r2 : Float) where
  abbrev ps : List Pair
  ps = pairs points limit predicted r2

  -- the spots within the limit are as many within their own number
  again : spots_within points (spots_within points limit) ≡ spots_within points limit
  again = omega arith

  module _ {c₀ c : Candidates} {a : Option ⊤} (none : c₀.n ≡ 0) (np : ℕ) (spots : np ≡ spots_within points limit) where
    -- all pairs, found in their own order
    module _ (did : Tried c₀ a c (pushed c₀.cap (found_in c₀) (pairs points np predicted r2))) where
      found_all : Tried c₀ a c (pushed c₀.cap (found_in c₀) ps)
      unfolding pairs
      found_all = rw (spots, again) at did

      pub over_in_turn : a ≡ None → Over ps c₀ c
      over_in_turn e = over ps none found_all e

      pub in_turn : {u : ⊤} → a ≡ Some u → Gathered ps c₀ c First
      unfolding begin
      in_turn e =
          let f = there ps none found_all e in
          record {
            fits = omega (arith, c.few, did.same.cap);
            stand = rw (zero-add c.n) f.0;
            count = f.1;
            beyond = later (2 * c.n) (omega arith) f.2;
          }

    -- and those found by strips, put by spot behind themselves
    module _ (places : ℕ) (did : Tried c₀ a c (pushed c₀.cap (found_in c₀) (pairs_nearby points np predicted r2 places))) where
      abbrev list : List Pair
      list = pairs_nearby points limit predicted r2 places

      found_near : Tried c₀ a c (pushed c₀.cap (found_in c₀) list)
      unfolding pairs_nearby pairs
      found_near = rw (spots, again) at did

      as_many : length list ≡ length ps
      as_many = same_length list ps (nearby_same points limit predicted r2 places)

      sorted : by_spot 0 np list ≡ ps
      sorted = rw spots (nearby_by_spot points limit predicted r2 places)

      pub over_by_strips : a ≡ None → Over ps c₀ c
      over_by_strips e =
          let f = over list none found_near e in
          record { more = omega (arith, f.more, as_many); beyond = f.beyond }

      module _ (c' : Candidates) (v v' : List ℕ) (many : c'.n ≡ c.n) (put : Put c.n np c.distances.now c.indices.now v c'.distances.now c'.indices.now v')
          (lw : np ≤ length v) where
        moved : (ltb (capacity c.distances.now c.indices.now) c.n || ltb (length v) np) ≡ false
        moved = rw (le-ltb (capacity c.distances.now c.indices.now) c.n (omega (arith, c.fits, c.few)), le-ltb (length v) np lw) refl

        stand : take c.n (held c) ≡ list → held c' ≡ list ++ ps ++ drop (c.n + length ps) (held c)
        unfolding put_behind
        stand f = rw (moved, f, sorted) at put.moved

        pub by_strips : {u : ⊤} → a ≡ Some u → Gathered ps c₀ c' Second
        unfolding begin
        by_strips e =
            let f = there list none found_near e in
            let rest = drop (c.n + length ps) (held c) in
            record {
              fits = omega (arith, c.few, did.same.cap, many);
              stand = rw (many, stand f.0, take_at (list ++ ps) rest (c.n + c.n) (omega (arith, length-append list ps, f.1, as_many))) (drop_at list ps c.n (sym f.1));
              count = many ∙ f.1 ∙ as_many;
              beyond = rw many (then (later (2 * c.n) (omega arith) f.2) (rw moved at put.others));
            }

  -- ---- the whole call

  module _ {c₀ c : Candidates} (w : List ℕ) (room : needed points limit predicted ≤ length w) where
    pub over_whole : Over ps c₀ c
        → outcome (Err ManyPairs) 0 (cleared c₀.cap c.distances.now) (cleared_n (2 * c₀.cap) c.indices.now) w
        ≡ greedy_unique_matches points limit predicted r2 c₀.distances.now c₀.indices.now w
    unfolding greedy_unique_matches overfull
    over_whole o =
        rw (le-ltb (length w) _ room, ← c₀.fits, lt-ltb c₀.cap _ o.more)
        (same_outcome refl refl
        (ap (λ (l : List Float). replicate c₀.cap zero64 ++ l) o.beyond.distances)
        (ap (λ (l : List ℕ). replicate (2 * c₀.cap) 0 ++ l) o.beyond.indices)
        refl)

    pub placed_whole : {h : Half} → Gathered ps c₀ c h
        → placed (spots_within points limit + length predicted / 2) c.n (comparisons not_after (standing h c)) (assigned [] (merged not_after (standing h c)))
        c.distances.now c.indices.now w
        ≡ greedy_unique_matches points limit predicted r2 c₀.distances.now c₀.indices.now w
    unfolding greedy_unique_matches matches_of placed
    placed_whole {h} g =
        let e : 2 * (2 * c.n) ≡ 4 * c.n = omega arith in
        rw g.stand
        (rw (le-ltb (length w) _ room, ← c₀.fits, le-ltb c₀.cap (length ps) (omega (arith, g.count, g.fits)), ← g.count)
        (same_outcome refl refl
        (ap (λ (l : List Float). replicate (2 * c.n) zero64 ++ l) g.beyond.distances)
        (ap (λ (l : List ℕ). replicate (4 * c.n) 0 ++ l) (rw e at g.beyond.indices))
        refl))

  -- where they all fit, they are what is ordered and assigned
  pub given : {c₀ c : Candidates} {h : Half} → Gathered ps c₀ c h → All (Inside (spots_within points limit) (length predicted / 2)) (standing h c)
  unfolding pairs
  given g = rw g.stand (pairs_inside (spots_within points limit) r2 points predicted (spots_within points limit) 0 (omega arith))

  -- a `work` list that is too short
  module _ (d : List Float) (ix w : List ℕ) where
    pub too_short : length w < needed points limit predicted → outcome (Err ShortList) 0 d ix w ≡ greedy_unique_matches points limit predicted r2 d ix w
    unfolding greedy_unique_matches
    too_short h = rw (lt-ltb _ _ h)

    pub too_short_for_strips : length w < strip_room points limit + needed points limit predicted
        → outcome (Err ShortList) 0 d ix w ≡ greedy_by_strips points limit predicted r2 d ix w
    unfolding greedy_by_strips
    too_short_for_strips h = rw (lt-ltb _ _ h)

    -- behind the strips the same is left as by the call without strips
    behind_strips : strip_room points limit + needed points limit predicted ≤ length w → (o : Outcome)
        → o ≡ greedy_unique_matches points limit predicted r2 d ix (drop (strip_room points limit) w)
        → outcome o.answer o.comparisons o.distances o.indices (replicate (strip_room points limit) 0 ++ o.work) ≡ greedy_by_strips points limit predicted r2 d ix w
    unfolding greedy_by_strips
    behind_strips fits o e =
        rw (le-ltb (length w) _ fits) (ap (λ (o : Outcome). outcome o.answer o.comparisons o.distances o.indices (replicate (strip_room points limit) 0 ++ o.work)) e)

  -- ---- with room for strips

  -- The strips, and the places of the spots, stood in front; there the list is cleared, and behind it is as before. That rest is lent and comes back.
  module _ (np : ℕ) (spots : np ≡ spots_within points limit) (w : List ℕ) (fits : 2 * np + needed points limit predicted ≤ length w) where
    -- the strips were cleared,
    left_zero : {v : List ℕ} → v ≡ room_after points np w → v ≡ replicate (2 * np) 0 ++ drop (2 * np) w
    unfolding room_after
    left_zero left =
        let e : spots_within points np ≡ np = omega arith in
        left ∙ rw (e, le-ltb (length w) (2 * np) (omega arith))

    -- and where they had been the places of the spots again
    pub room_again : {v v' : List ℕ} → v ≡ room_after points np w → v' ≡ clearing.cleared 0 np v → v' ≡ replicate (2 * np) 0 ++ drop (2 * np) w
    room_again {v} {v'} left again =
        let z = left_zero left in
        let t : np + np ≡ 2 * np = omega arith in
        let s : replicate (2 * np) 0 ++ drop (2 * np) w ≡ replicate np 0 ++ (replicate np 0 ++ drop (2 * np) w) =
        ap (λ (l : List ℕ). l ++ drop (2 * np) w) (sym (rw t at (replicate-append-replicate {A = ℕ} np np 0)))
        ∙ append_assoc (replicate np 0) (replicate np 0) (drop (2 * np) w) in
        let long : np ≤ length v = rw (z ∙ s) (simp (length-append, length-replicate) (omega arith)) in
        again
        ∙ cleared_within 0 np v long
        ∙ ap (λ (l : List ℕ). replicate np 0 ++ drop np l) (z ∙ s)
        ∙ ap (λ (l : List ℕ). replicate np 0 ++ l) (drop_at (replicate np 0) (replicate np 0 ++ drop (2 * np) w) np (length-replicate np 0))
        ∙ sym s

    enough_behind : needed points limit predicted ≤ length (drop (2 * np) w)
    enough_behind = rw (length-drop (2 * np) w) (omega arith)

    pub over_behind : {c₀ c : Candidates} (v : List ℕ) → v ≡ room_after points np w → Over ps c₀ c
        → outcome (Err ManyPairs) 0 (cleared c₀.cap c.distances.now) (cleared_n (2 * c₀.cap) c.indices.now) v
        ≡ greedy_by_strips points limit predicted r2 c₀.distances.now c₀.indices.now w
    over_behind {c₀} {c} v left o =
        let whole = over_whole (drop (2 * np) w) enough_behind o in
        rw (left_zero left, spots)
        (behind_strips c₀.distances.now c₀.indices.now w (rw spots at fits)
        (outcome (Err ManyPairs) 0 (cleared c₀.cap c.distances.now) (cleared_n (2 * c₀.cap) c.indices.now) (drop (2 * spots_within points limit) w)) (rw spots at whole))

    module _ (v : List ℕ) (left : v ≡ replicate (2 * np) 0 ++ drop (2 * np) w) where
      front_zero : take (2 * np) v ≡ replicate (2 * np) 0
      front_zero = rw left (take_at (replicate (2 * np) 0) (drop (2 * np) w) (2 * np) (length-replicate (2 * np) 0))

      rest_kept : drop (2 * np) v ≡ drop (2 * np) w
      rest_kept = rw left (drop_at (replicate (2 * np) 0) (drop (2 * np) w) (2 * np) (length-replicate (2 * np) 0))

      lent_rest : take (length v - 2 * np) (drop (2 * np) v) ≡ drop (2 * np) w
      lent_rest = rw (← length-drop (2 * np) v) (take-length (drop (2 * np) v)) ∙ rest_kept

      rest_back : (l : List ℕ) → take (2 * np) v ++ (l ++ drop (length v - 2 * np) (drop (2 * np) v)) ≡ replicate (2 * np) 0 ++ l
      rest_back l = rw (← length-drop (2 * np) v, drop-length (drop (2 * np) v), append-nil l, front_zero)

      pub enough_lent : np + length predicted / 2 + 2 * min np (length predicted / 2) ≤ length (take (length v - 2 * np) (drop (2 * np) v))
      enough_lent = rw (lent_rest, spots) (rw spots at enough_behind)

      pub placed_behind : {c₀ c : Candidates} {h : Half} → Gathered ps c₀ c h → (a : Result ℕ Refusal) (n : ℕ) (e : List Float) (jx l : List ℕ)
          → outcome a n e jx l
          ≡ placed (np + length predicted / 2) c.n (comparisons not_after (standing h c)) (assigned [] (merged not_after (standing h c)))
          c.distances.now c.indices.now (take (length v - 2 * np) (drop (2 * np) v))
          → outcome a n e jx (take (2 * np) v ++ (l ++ drop (length v - 2 * np) (drop (2 * np) v)))
          ≡ greedy_by_strips points limit predicted r2 c₀.distances.now c₀.indices.now w
      placed_behind {c₀} g a n e jx l done =
          let whole = (rw (lent_rest, spots) at done) ∙ (rw spots at (placed_whole (drop (2 * np) w) enough_behind g)) in
          rw (rest_back l, spots) (behind_strips c₀.distances.now c₀.indices.now w (rw spots at fits) (outcome a n e jx l) whole)
