-- What a match list means: each claim of `specs/Meaning.antt` and `specs/Meant.antt`. The matcher's list is what is picked of the pairs in order
-- (`Picking.antt`), and what is picked is said there without a list of pairs. Assumes nothing.
use Rattle.std.proofs.Common.{◌≡◌, ◌⊎◌, ℕ, true, List, [], inl, inr, sym, subst}
use Rattle.matching.specs.Greedy.{Match, matches_of}
use Rattle.matching.specs.Meaning.{Frame, At, Taken, Share, Near, Earlier, Meant, Ordered, ExactlyOne, SamePairs}
use Rattle.matching.specs.Meant.{MatcherMeant}
use Rattle.matching.proofs.Members.{Has, all_has}
use Rattle.matching.proofs.Picking.{clash, picked, Taking, picks, Chosen, chosen, same_list}
use Rattle.matching.proofs.Sharing.{share, share_self, shares, shared, none_free, none_taken, mapped, assigned_picked}
use Rattle.matching.proofs.Nearness.{in_order, near_there, there_near}
use Rattle.matching.proofs.Precedence.{NotAfter, never, against, asym, strict, rising_of, pairs_chain}
use Rattle.matching.proofs.Places.{at_has, has_at, at_same, chain_once, ordered_chain, chain_ordered}

module _ (f : Frame) where
  abbrev list : List Match
  list = matches_of f.points f.limit f.predicted f.radius_sq

  list_picked : list ≡ picked share [] (mapped (in_order f))
  unfolding matches_of
  list_picked = assigned_picked (in_order f) []

  -- ---- the matcher's list has the properties

  abbrev Picked : List Match → Type 0
  Picked ms = Taking share (NotAfter f) (Earlier f) share_self (never f) (against f) (strict f) (mapped (in_order f)) [] ms

  list_taken : Picked list
  list_taken =
      subst Picked (sym list_picked)
      (picks share (NotAfter f) (Earlier f) share_self (never f) (against f) (strict f) (mapped (in_order f)) [] (pairs_chain f))

  list_ordered : Ordered f list
  list_ordered = chain_ordered f list list_taken.chain list_taken.alone

  -- why a pair is accounted for, by places and by what the list has
  abbrev ByPlace : List Match → Match → Type 0
  ByPlace ms m = Taken ms m ⊎ ((n : Match) × Taken ms n × Share m n × Earlier f n m)

  abbrev ByHaving : List Match → Match → Type 0
  ByHaving ms m = Has m ms ⊎ ((clash share m [] ≡ true) ⊎ ((n : Match) × Has n ms × (share m n ≡ true) × Earlier f n m))

  by_place : (ms : List Match) (m : Match) → ByHaving ms m → ByPlace ms m
  by_place ms m (inl q) = inl (has_at ms m q)
  by_place ms m (inr (inl c)) = absurd (none_taken m c)
  by_place ms m (inr (inr (n, q, h, e))) = inr (n, has_at ms n q, shared m n h, e)

  by_having : (ms : List Match) (m : Match) → ByPlace ms m → ByHaving ms m
  by_having ms m (inl (i, a)) = inl (at_has ms i m a)
  by_having ms m (inr (n, (i, a), h, e)) = inr (inr (n, at_has ms i n a, shares m n h, e))

  list_meant : Meant f list
  list_meant = record {
    once = chain_once f list list_taken.alone;
    near = λ i m a. there_near f m (list_taken.offered m (at_has list i m a));
    rising = λ i m n a b. rising_of f m n (list_ordered i m n a b);
    explained = λ m h. by_place list m (list_taken.explained m (near_there f m h));
  }

  -- ---- and what has the properties has the same pairs

  module _ (ms : List Match) (t : Meant f ms) where
    near : (m : Match) → Has m ms → Near f m
    near m q = let r = has_at ms m q in t.near r.0 m r.1

    as_chosen : Chosen share (NotAfter f) (Earlier f) share_self (never f) (against f) (strict f) (mapped (in_order f)) [] (λ m. Has m ms)
    as_chosen = record {
      offered = λ m q. near_there f m (near m q);
      free = λ m q. none_free m;
      alone = λ m n q r h.
          let a = has_at ms m q in
          let b = has_at ms n r in
          let e = t.once a.0 b.0 m n a.1 b.1 (shared m n h) in
          at_same ms b.0 m n (subst (λ (i : ℕ). At ms i m) e a.1) b.1;
      explained = λ m q. by_having ms m (t.explained m (there_near f m q));
    }

    same : (m : Match) → (Has m ms → Has m list) × (Has m list → Has m ms)
    same m =
        let r = chosen share (NotAfter f) (Earlier f) share_self (never f) (against f) (strict f) (mapped (in_order f)) [] (λ m. Has m ms) (pairs_chain f) as_chosen m in (
          λ q. subst (Has m) (sym list_picked) (r.0 q),
          λ q. r.1 (subst (Has m) list_picked q),
        )

    -- in the same order, if both stand in order
    list_only : Ordered f ms → ms ≡ list
    list_only o =
        same_list share (NotAfter f) (Earlier f) share_self (never f) (against f) (strict f) (asym f) ms list
        (ordered_chain f ms (all_has (Near f) ms near) o)
        (ordered_chain f list (all_has (Near f) list (λ m q. there_near f m (list_taken.offered m q))) list_ordered)
        (λ m. (same m).0) (λ m. (same m).1)

pub matcher_meant : MatcherMeant
matcher_meant f = record { meant = list_meant f; ordered = list_ordered f; only = list_only f }

pub exactly_one : ExactlyOne
exactly_one f = (matches_of f.points f.limit f.predicted f.radius_sq, matcher_meant f)

pub same_pairs : SamePairs
same_pairs f ms ns t u m (i, a) = has_at ns m ((same f ns u m).1 ((same f ms t m).0 (at_has ms i m a)))
