-- Demand 3: two calls that are alike in all but unseen directions and spots come to the same outcome. specs/Unseen.antt has the statement. Assumes nothing.
use Rattle.std.proofs.Common.{◌≡◌, ℕ, zero, suc, ◌/◌, ◌<◌, ◌⊎◌, List, [], ◌∷◌, length, sym, refl, ap, ◌∙◌, subst, inl, inr, arith}
use native.Mathlib.Decide.{dec_lt}
use lib.Ieee.{Float}
use Rattle.rounding.specs.Arith.{zero64}
use Rattle.panel.specs.Points.{within_limit}
use Rattle.panel.specs.Spots.{spot_numbers, spot_at}
use Rattle.fit.specs.Rows.{direction_at}
use Rattle.entry.specs.Arguments.{Call, Given, spot_count, direction_count}
use Rattle.entry.specs.Check.{refusal}
use Rattle.entry.specs.Fixed.{Fixed, fixed_from, fixed, distance, farthest}
use Rattle.wcs_refine.specs.Associate.{Link, links}
use Rattle.wcs_refine.specs.Round.{Ending, refused, ended, Run, loop}
use Rattle.wcs_refine.specs.Closing.{Closed, unsound, fine, cleaned, reported}
use Rattle.wcs_refine.specs.Call.{ok, start, run_of, queries_after, queries, closed, finished, answer_after, answer, left, outcome}
use Rattle.wcs_refine.specs.Unseen.{NamesSpot, NamesDirection, In, Listed, DirectionUnseen, SpotUnseen, OnlyUnseen, UnseenChangesNothing}
use Rattle.wcs_refine.proofs.Along.{All}
use Rattle.wcs_refine.proofs.Remaining.{Both}
use Rattle.wcs_refine.proofs.Lookups.{SameSpot, SameDirection, Shared, rows_same}
use Rattle.wcs_refine.proofs.Lockstep.{StateShared, EndShared, loop_same}
use Rattle.wcs_refine.proofs.SameClosing.{ClosedShared, cleaned_same, cleaned_shared}
use Rattle.wcs_refine.proofs.BitOrder.{Plain, le_itself}
use Rattle.wcs_refine.proofs.Distances.{at, Reached, distance_plain, farthest_same}
use Rattle.wcs_refine.proofs.Unchanged.{spot_dec, direction_dec, spot_past, direction_past}
use Rattle.wcs_refine.proofs.SameChecks.{Accepted, accepted, made, refusal_same}

-- ---- from what is named and listed to a property along it
links_all : (P Q : ℕ → Type 0) (ms : List Link) → ((i : ℕ) → NamesSpot i ms → P i) → ((j : ℕ) → NamesDirection j ms → Q j) → All (Both P Q) ms
links_all P Q [] h k = tt
links_all P Q (m ∷ ms) h k = ((h m.spot (inl refl), k m.direction (inl refl)), links_all P Q ms (λ i n. h i (inr n)) (λ j n. k j (inr n)))

in_all : (Q : ℕ → Type 0) (l : List ℕ) → ((j : ℕ) → In j l → Q j) → All Q l
in_all Q [] h = tt
in_all Q (x ∷ l) h = (h x (inl refl), in_all Q l (λ j n. h j (inr n)))

listed_all : (Q : ℕ → Type 0) (qs : List (List ℕ)) → ((j : ℕ) → Listed j qs → Q j) → All (All Q) qs
listed_all Q [] h = tt
listed_all Q (q ∷ qs) h = (in_all Q q (λ j n. h j (inl n)), listed_all Q qs (λ j n. h j (inr n)))

module _ (g : Given) (sa sb da db : List Float) (ls : length sa ≡ length sb) (ld : length da ≡ length db) (un : OnlyUnseen (made sa da g) (made sb db g)) where
  abbrev a : Call
  a = made sa da g

  abbrev b : Call
  b = made sb db g

  -- ---- past the checks
  module _ (ka : Accepted a) (kb : Accepted b) where
    spot_or : (i : ℕ) → SameSpot sa sb i ⊎ (SpotUnseen a b i × SpotUnseen b a i)
    spot_or i = go (spot_dec (spot_at sa i) (spot_at sb i)) (dec_lt i (spot_count a))
      where
        go : Dec (SameSpot sa sb i) → Dec (i < spot_count a) → SameSpot sa sb i ⊎ (SpotUnseen a b i × SpotUnseen b a i)
        go (yes e) l = inl e
        go (no n) (yes l) = inr (un.spot i l n)
        go (no n) (no l) = inl (spot_past sa sb ls ka.spots i (omega arith))

    direction_or : (j : ℕ) → SameDirection da db j ⊎ (DirectionUnseen a j × DirectionUnseen b j)
    direction_or j = go (direction_dec (direction_at da j) (direction_at db j)) (dec_lt j (direction_count a))
      where
        go : Dec (SameDirection da db j) → Dec (j < direction_count a) → SameDirection da db j ⊎ (DirectionUnseen a j × DirectionUnseen b j)
        go (yes e) l = inl e
        go (no n) (yes l) = inr (un.direction j l n)
        go (no n) (no l) = inl (direction_past da db ld ka.directions j (omega arith))

    -- ---- the greatest distance
    plain_a : (i : ℕ) → i < spot_count a → Plain (at sa i)
    plain_a i l = distance_plain (spot_at sa i) (ka.lawful i l)

    plain_b : (i : ℕ) → i < spot_count a → Plain (at sb i)
    plain_b i l = distance_plain (spot_at sb i) (kb.lawful i (omega arith))

    reached_a : Reached sa sb (spot_count a)
    reached_a i l = elim (spot_or i) [
      | inl e ↦ (i, l, ap distance e, le_itself (at sa i) (plain_a i l))
      | inr u ↦ let n = u.0.nearer in (n.0, n.1, ap distance n.2, n.3)
    ]

    reached_b : Reached sb sa (spot_count a)
    reached_b i l = elim (spot_or i) [
      | inl e ↦ (i, l, ap distance (sym e), le_itself (at sb i) (plain_b i l))
      | inr u ↦ let n = u.1.nearer in (n.0, omega (arith, n.1), ap distance n.2, n.3)
    ]

    far_same : farthest sa 0 (spot_count a) zero64 ≡ farthest sb 0 (spot_count b) zero64
    far_same = farthest_same sa sb (spot_count a) plain_a plain_b reached_a reached_b ∙ ap (λ (n : ℕ). farthest sb 0 (n / spot_numbers) zero64) ls

    fixed_same : fixed a ≡ fixed b
    unfolding fixed fixed_from
    fixed_same = λ i. record {
      scale = g.scale;
      mirror = g.mirror;
      radius = g.radius;
      limit = g.limit;
      matcher = g.matcher;
      count = ld i / 3;
      capacity = (fixed a).capacity;
      cut = g.cut;
      far = far_same i;
    }

    -- ---- the start
    near : (n : ℕ) → n < within_limit sa g.limit → SameSpot sa sb n
    near n l = elim (spot_or n) [ inl e ↦ e | inr u ↦ absurd (omega (arith, u.0.beyond)) ]

    starts : Shared sa sb da db g.matches
    starts = links_all (SameSpot sa sb) (SameDirection da db) (links g.matches)
        (λ i m. elim (spot_or i) [ inl e ↦ e | inr u ↦ absurd (u.0.unnamed m) ])
        (λ j m. elim (direction_or j) [ inl e ↦ e | inr u ↦ absurd (u.0.unnamed m) ])

    -- ---- the run and the closing
    module _ (qa : queries a ≡ (run_of a).queries) (qb : queries b ≡ (run_of b).queries) where
      listed_a : All (All (SameDirection da db)) (run_of a).queries
      listed_a = listed_all (SameDirection da db) (run_of a).queries
          (λ j m. elim (direction_or j) [ inl e ↦ e | inr u ↦ absurd (u.0.unlisted (subst (Listed j) (sym qa) m)) ])

      listed_b : All (All (SameDirection da db)) (run_of b).queries
      listed_b = listed_all (SameDirection da db) (run_of b).queries
          (λ j m. elim (direction_or j) [ inl e ↦ e | inr u ↦ absurd (u.1.unlisted (subst (Listed j) (sym qb) m)) ])

      run_same : (run_of a ≡ run_of b) × EndShared sa sb da db (run_of a).ending
      unfolding run_of start
      run_same =
          let s : StateShared sa sb da db (start g) = record { matches = starts; cache = tt } in
          subst (λ (k : Fixed). All (All (SameDirection da db)) (loop k sb db g.rounds (start g)).queries
          → (run_of a ≡ loop k sb db g.rounds (start g)) × EndShared sa sb da db (run_of a).ending)
          fixed_same (loop_same sa sb da db (fixed a) ls (unfold fixed in near) g.rounds (start g) s listed_a) listed_b

      closed_same : (c : Closed) (r : Run) → ClosedShared sa sb da db c → closed a c r ≡ closed b c r
      unfolding closed
      closed_same unsound r h = refl
      closed_same (fine p ms) r h = λ i. ok (reported (fixed_same i) p ms (rows_same sa sb da db ms h i)) r.rounds r.passes (length r.queries) r.comparisons

      finished_same : (e : Ending) (r : Run) → EndShared sa sb da db e → finished a e r ≡ finished b e r
      unfolding finished
      finished_same (refused n) r h = refl
      finished_same (ended s) r h =
          closed_same (cleaned (fixed a) sa da 3 s.pose s.matches) r (cleaned_shared sa sb da db (fixed a) 3 s.pose s.matches h.matches)
          ∙ ap (λ (c : Closed). closed b c r) (cleaned_same sa sb da db (fixed a) 3 s.pose s.matches h.matches ∙ ap (λ (k : Fixed). cleaned k sb db 3 s.pose s.matches) fixed_same)

      pub end_same : finished a (run_of a).ending (run_of a) ≡ finished b (run_of b).ending (run_of b)
      end_same = finished_same (run_of a).ending (run_of a) run_same.1 ∙ ap (λ (r : Run). finished b r.ending r) run_same.0

  -- ---- the whole call
  answer_same : answer a ≡ answer b
  unfolding answer
  answer_same = go (refusal a) refl (sym (refusal_same g sa sb da db ls ld un)) ∙ ap (answer_after b) (refusal_same g sa sb da db ls ld un)
    where
      go : (n : ℕ) → refusal a ≡ n → refusal b ≡ n → answer_after a n ≡ answer_after b n
      go zero p q = end_same (accepted a p) (accepted b q) (unfold queries in ap (queries_after a) p) (unfold queries in ap (queries_after b) q)
      go (suc n) p q = refl

  outcome_same : outcome a ≡ outcome b
  unfolding outcome
  outcome_same = λ i. record { answer = answer_same i; lent = left g.lent (refusal_same g sa sb da db ls ld un i) (answer_same i) }

pub unseen_changes_nothing : UnseenChangesNothing
unseen_changes_nothing a b al un =
    subst (λ (g : Given). OnlyUnseen a (made b.spots b.directions g) → outcome a ≡ outcome (made b.spots b.directions g)) al.given
    (outcome_same a.given a.spots b.spots a.directions b.directions al.spots al.directions) un
