-- 01: "The queries of a call are those that this run makes on its arguments before its end or refusal; refused before the run, it makes none."
-- An instance of the last half: two calls that are refused by 11 and differ in a direction that each would list, were its list one place
-- longer. Nothing is queried, so the direction is unseen and demand 3 speaks of them. All is computed. Assumes nothing.
use Rattle.std.specs.Prelude.{◌≡◌, refl, List, [], ◌∷◌, ℕ, zero, suc, ◌<◌, Float}
use Rattle.std.proofs.Common.{ap, sym, subst, true≢false, inl, inr, arith}
use Rattle.std.specs.Float.Ieee.{neg, lt}
use Rattle.rounding.specs.Arith.{f64, zero64, one64}
use Rattle.solve.specs.Vector.{at}
use Rattle.panel.specs.Spots.{spot_at}
use Rattle.fit.specs.Rows.{direction_at}
use Rattle.entry.specs.Arguments.{Call}
use Rattle.entry.specs.declared.Matcher.TheVariants.{Listing}
use Rattle.entry.specs.Check.{between, every}
use Rattle.wcs_refine.specs.Associate.{links}
use Rattle.wcs_refine.specs.Call.{Outcome, no, outcome, queries}
use Rattle.wcs_refine.specs.Unseen.{Alike, OnlyUnseen, SpotUnchanged, DirectionUnchanged, DirectionUnseen, SpotUnseen, Listed}
use Rattle.wcs_refine.proofs.TwoCalls.{unseen_changes_nothing}
use Rattle.rounding.specs.Computed.{arithmetic}
use Rattle.calls.specs.Computed.{everything}
use Rattle.calls.specs.Instance.{with}

-- 2^-10
abbrev little : Float
little = f64 0x3F50000000000000

-- The call of Instance.antt with n places for whole numbers and the second direction (1, v, 0), close to the camera's axis.
abbrev pub aside : ℕ → Float → Call
aside n v = with Listing n (f64 0x4008000000000000) zero64 one64 one64 v

-- One place short, the second direction a little to one side before and to the other after.
abbrev pub before : Call
before = aside 79 little

abbrev pub after : Call
after = aside 79 (neg little)

-- Refused by 11, with every lent list as it came.
abbrev pub turned_away : Call → Outcome
turned_away c = record { answer = no 11; lent = c.given.lent }

-- The sentence above, of these calls.
pub record Queried : Type 0 where
  -- The second direction differs; where the list is long enough, each run lists it, and it is not unseen.
  pub differs : DirectionUnchanged before after 1 → ⊥
  pub long_before : queries (aside 80 little) ≡ (0 ∷ 1 ∷ []) ∷ []
  pub long_after : queries (aside 80 (neg little)) ≡ (0 ∷ 1 ∷ []) ∷ []
  pub long_seen : OnlyUnseen (aside 80 little) (aside 80 (neg little)) → ⊥
  -- Refused before the run, the two calls make no query.
  pub none_before : queries before ≡ []
  pub none_after : queries after ≡ []
  -- So they meet the premises of demand 3.
  pub alike : Alike before after
  pub only_unseen : OnlyUnseen before after
  -- What demand 3 then says of them, and what each comes to.
  pub same : outcome before ≡ outcome after
  pub computed_before : outcome before ≡ turned_away before
  pub computed_after : outcome after ≡ turned_away after

apart : DirectionUnchanged before after 1 → ⊥
unfolding direction_at arithmetic
apart e = true≢false (ap (λ (v : List Float). lt zero64 (at v 1)) e)

listed_before : queries (aside 80 little) ≡ (0 ∷ 1 ∷ []) ∷ []
unfolding everything
listed_before = refl

listed_after : queries (aside 80 (neg little)) ≡ (0 ∷ 1 ∷ []) ∷ []
unfolding everything
listed_after = refl

seen : OnlyUnseen (aside 80 little) (aside 80 (neg little)) → ⊥
seen h = (h.direction 1 (omega arith) apart).0.unlisted (subst (Listed 1) (sym listed_before) (inl (inr (inl refl))))

nothing_before : queries before ≡ []
unfolding everything
nothing_before = refl

nothing_after : queries after ≡ []
unfolding everything
nothing_after = refl

only : OnlyUnseen before after
unfolding spot_at direction_at links between every arithmetic
only = record {
  direction = directions;
  spot = spots;
}
  where
    directions : (j : ℕ) → j < 2 → (DirectionUnchanged before after j → ⊥) →
        DirectionUnseen before j × DirectionUnseen after j
    directions zero h d = absurd (d refl)
    directions (suc zero) h d = (
      record { unnamed = λ n. n; unlisted = subst (Listed 1) nothing_before; lawful = tt },
      record { unnamed = λ n. n; unlisted = subst (Listed 1) nothing_after; lawful = tt },
    )
    directions (suc (suc j)) h d = absurd (omega arith)

    spots : (i : ℕ) → i < 3 → (SpotUnchanged before after i → ⊥) → SpotUnseen before after i × SpotUnseen after before i
    spots i h d = absurd (d refl)

refused_before : outcome before ≡ turned_away before
unfolding everything
refused_before = refl

refused_after : outcome after ≡ turned_away after
unfolding everything
refused_after = refl

-- The sentence holds of them.
pub queried : Queried
queried = record {
  differs = apart;
  long_before = listed_before;
  long_after = listed_after;
  long_seen = seen;
  none_before = nothing_before;
  none_after = nothing_after;
  alike = record { spots = refl; directions = refl; given = refl };
  only_unseen = only;
  same = unseen_changes_nothing before after (record { spots = refl; directions = refl; given = refl }) only;
  computed_before = refused_before;
  computed_after = refused_after;
}
