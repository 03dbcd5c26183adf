-- What the calls of the matcher hand back: `CallMeant` and `CallByStripsMeant` of `specs/Meant.antt`. Assumes nothing.
use Rattle.std.proofs.Common.{◌≡◌, ℕ, ◌+◌, ◌*◌, Bool, true, false, cond, ltb, List, [], ◌∷◌, ◌++◌, length, take, drop, replicate, refl, sym, ap, ap₂, ◌∙◌, arith, drop_at, take_at, length-append, append_assoc}
use lib.ListN.{length-replicate}
use lib.Ieee.{Float}
use Rattle.pairs.specs.Pairs.{pairs}
use Rattle.pairs.specs.Candidates.{capacity}
use Rattle.pairs.specs.Strips.{strip_room}
use Rattle.matching.specs.Merge.{not_after}
use Rattle.matching.specs.Comparisons.{comparisons}
use Rattle.matching.specs.Greedy.{Match, Outcome, matches_of, flat, marks, needed, placed, overfull, greedy_unique_matches, greedy_by_strips}
use Rattle.std.specs.Prelude.{Result, Ok, Err}
use Rattle.refusal.specs.declared.Refusal.{Refusal}
use Rattle.refusal.specs.declared.Refusal.TheVariants.{ManyPairs, ShortList}
use Rattle.matching.specs.Meaning.{Frame}
use Rattle.matching.specs.Meant.{HandedBack, CallMeant, CallByStripsMeant}
use Rattle.matching.proofs.Meaning.{matcher_meant}

pub flat_many : (ms : List Match) → length (flat ms) ≡ 2 * length ms
unfolding flat
flat_many [] = refl
flat_many (m ∷ ms) = omega (arith, flat_many ms)

too_many : (n : ℕ) → ◌≡◌ {A = Result ℕ Refusal} (Err ManyPairs) (Ok n) → ⊥
too_many n h = cc

pub short : (n : ℕ) → ◌≡◌ {A = Result ℕ Refusal} (Err ShortList) (Ok n) → ⊥
short n h = cc

pub counted : (m n : ℕ) → ◌≡◌ {A = Result ℕ Refusal} (Ok m) (Ok n) → m ≡ n
counted m n h = cc

module _ (f : Frame) where
  abbrev list : List Match
  list = matches_of f.points f.limit f.predicted f.radius_sq

  abbrev marked : ℕ
  marked = marks f.points f.limit f.predicted

  -- what stands in front is as long as it says, so behind it stands the list
  pub left : (n from : ℕ) (work front rest : List ℕ) → length front ≡ from → work ≡ front ++ (flat list ++ rest) → length list ≡ n → HandedBack f n from work
  left n from work front rest long is many = record {
    list = list;
    the = matcher_meant f;
    long = many;
    stands =
        ap (λ (k : ℕ). take (2 * k) (drop from work)) (sym many)
        ∙ ap (λ (l : List ℕ). take (2 * length list) (drop from l)) is
        ∙ ap (take (2 * length list)) (drop_at front (flat list ++ rest) from long)
        ∙ take_at (flat list) rest (2 * length list) (flat_many list);
  }

  module _ (distances : List Float) (indices work : List ℕ) where
    abbrev o : Outcome
    o = greedy_unique_matches f.points f.limit f.predicted f.radius_sq distances indices work

    abbrev all : Outcome
    all =
        placed marked (length (pairs f.points f.limit f.predicted f.radius_sq)) (comparisons not_after (pairs f.points f.limit f.predicted f.radius_sq))
        list distances indices work

    -- a call that answers matches has placed the list
    answered : (n : ℕ) → o.answer ≡ Ok n → o ≡ all
    unfolding greedy_unique_matches overfull
    answered n h =
        by (ltb (length work) (needed f.points f.limit f.predicted))
        (ltb (capacity distances indices) (length (pairs f.points f.limit f.predicted f.radius_sq))) h
      where
        shorter : Outcome
        shorter = record { answer = Err ShortList; comparisons = 0; distances = distances; indices = indices; work = work }

        by : (s t : Bool) → (cond s shorter (cond t (overfull distances indices work) all)).answer ≡ Ok n
            → cond s shorter (cond t (overfull distances indices work) all) ≡ all
        by true t e = absurd (short n e)
        by false true e = absurd (too_many n e)
        by false false e = refl

    many : (n : ℕ) → o.answer ≡ Ok n → length list ≡ n
    unfolding placed
    many n h = counted (length list) n (sym (ap (λ (x : Outcome). x.answer) (answered n h)) ∙ h)

    rest : List ℕ
    rest = drop (marked + 2 * length list) work

    stands : (n : ℕ) → o.answer ≡ Ok n → o.work ≡ replicate marked 0 ++ (flat list ++ rest)
    unfolding placed rest
    stands n h = ap (λ (x : Outcome). x.work) (answered n h) ∙ append_assoc (replicate marked 0) (flat list) rest

pub call_meant : CallMeant
call_meant f d ix w n h =
    left f n (marked f) (o f d ix w).work (replicate (marked f) 0) (rest f d ix w) (length-replicate (marked f) 0) (stands f d ix w n h) (many f d ix w n h)

pub call_by_strips_meant : CallByStripsMeant
unfolding greedy_by_strips
call_by_strips_meant f d ix w n h =
    by (ltb (length w) (room + needed f.points f.limit f.predicted)) h
  where
    room : ℕ
    room = strip_room f.points f.limit

    inner : Outcome
    inner = o f d ix (drop room w)

    behind : Outcome
    behind = record {
      answer = inner.answer;
      comparisons = inner.comparisons;
      distances = inner.distances;
      indices = inner.indices;
      work = replicate room 0 ++ inner.work;
    }

    shorter : Outcome
    shorter = record { answer = Err ShortList; comparisons = 0; distances = d; indices = ix; work = w }

    zeros : List ℕ
    zeros = replicate room 0

    zeros' : List ℕ
    zeros' = replicate (marked f) 0

    by : (s : Bool) → (cond s shorter behind).answer ≡ Ok n → HandedBack f n (room + marked f) (cond s shorter behind).work
    by true e = absurd (short n e)
    by false e =
        left f n (room + marked f) behind.work (zeros ++ zeros') (rest f d ix (drop room w))
        (length-append zeros zeros' ∙ ap₂ (λ (a b : ℕ). a + b) (length-replicate room 0) (length-replicate (marked f) 0))
        (ap (λ (l : List ℕ). zeros ++ l) (stands f d ix (drop room w) n e)
        ∙ sym (append_assoc zeros zeros' (flat (list f) ++ rest f d ix (drop room w))))
        (many f d ix (drop room w) n e)
