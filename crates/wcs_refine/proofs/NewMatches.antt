-- The matcher's matches have each spot once, one within the limit, and so have they by their directions. Assumes nothing.
use Rattle.std.proofs.Common.{◌≡◌, ℕ, ◌*◌, ◌<◌, Bool, true, false, cond, ◌||◌, eqb, List, [], ◌∷◌, length, sym, refl, ap, ◌∙◌, ⊎_elim, arith, eq-eqb, eqb-true}
use lib.Ieee.{Float}
use Rattle.pairs.specs.Pairs.{Pair, pairs, spots_within}
use Rattle.matching.specs.Merge.{not_after, merged}
use Rattle.matching.specs.Greedy.{Match, clashes, assigned, matches_of, flat}
use Rattle.wcs_refine.specs.Associate.{links}
use Rattle.wcs_refine.specs.Listing.{renamed_by}
use Rattle.wcs_refine.specs.Comparing.{names, Lone}
use Rattle.wcs_refine.proofs.Along.{All}
use Rattle.wcs_refine.proofs.Remaining.{matches_all}
use Rattle.std.proofs.lemmas.Bool.{or_cases, or_left, or_right}
use Rattle.wcs_refine.proofs.SameLinks.{never}

-- whether a match has a spot, and that each spot has one match
unfoldable has : ℕ → List Match → Bool
has s [] = false
has s (m ∷ ms) = eqb s m.spot || has s ms

abbrev Apart : List Match → Type 0
Apart [] = Unit {0}
Apart (m ∷ ms) = (has m.spot ms ≡ false) × Apart ms

clash : (p : Pair) (ms : List Match) → has p.spot ms ≡ true → clashes p ms ≡ true
unfolding has clashes
clash p [] h = h
clash p (m ∷ ms) h =
    ⊎_elim (λ u. rw u) (λ u. or_right (eqb p.spot m.spot || eqb p.prediction m.prediction) (clashes p ms) (clash p ms u))
    (or_cases (eqb p.spot m.spot) (has p.spot ms) h)

-- a spot that is taken is not taken again
fresh_past : (s : ℕ) (taken : List Match) (p : Pair) (ps : List Pair) → has s taken ≡ true → has s (assigned taken ps) ≡ false
    → (let m : Match = record { spot = p.spot; prediction = p.prediction } in has s (assigned (m ∷ taken) ps) ≡ false)
    → (b : Bool) → clashes p taken ≡ b
    → (let m : Match = record { spot = p.spot; prediction = p.prediction } in has s (cond b (assigned taken ps) (m ∷ assigned (m ∷ taken) ps)) ≡ false)
unfolding has
fresh_past s taken p ps h one two true e = one
fresh_past s taken p ps h one two false e = by (eqb s p.spot) refl
  where
    by : (b : Bool) → eqb s p.spot ≡ b
        → (let m : Match = record { spot = p.spot; prediction = p.prediction } in (b || has s (assigned (m ∷ taken) ps)) ≡ false)
    by true u = never (clash p taken (ap (λ (k : ℕ). has k taken) (sym (eqb-true s p.spot u)) ∙ h)) e
    by false u = two

fresh : (s : ℕ) (ps : List Pair) (taken : List Match) → has s taken ≡ true → has s (assigned taken ps) ≡ false
unfolding assigned has
fresh s [] taken h = refl
fresh s (p ∷ ps) taken h =
    let m : Match = record { spot = p.spot; prediction = p.prediction } in
    fresh_past s taken p ps h (fresh s ps taken h) (fresh s ps (m ∷ taken) (or_right (eqb s p.spot) (has s taken) h)) (clashes p taken) refl

apart : (ps : List Pair) (taken : List Match) → Apart (assigned taken ps)
unfolding assigned has
apart [] taken = tt
apart (p ∷ ps) taken =
    let m : Match = record { spot = p.spot; prediction = p.prediction } in
    choose (clashes p taken) (assigned taken ps) (m ∷ assigned (m ∷ taken) ps) (apart ps taken)
    (fresh p.spot ps (m ∷ taken) (or_left (eqb p.spot p.spot) (has p.spot taken) (eq-eqb p.spot p.spot refl)), apart ps (m ∷ taken))
  where
    choose : (b : Bool) (x y : List Match) → Apart x → Apart y → Apart (cond b x y)
    choose true x y u v = u
    choose false x y u v = v

-- by their directions
has_named : (ids : List ℕ) (s : ℕ) (ms : List Match) → names s (links (renamed_by ids (flat ms))) ≡ has s ms
unfolding names links renamed_by flat has
has_named ids s [] = refl
has_named ids s (m ∷ ms) = ap (λ (b : Bool). eqb s m.spot || b) (has_named ids s ms)

lone_of : (n : ℕ) (ids : List ℕ) (ms : List Match) → All (λ (m : Match). (m.spot < n) × Unit {0}) ms → Apart ms → Lone n (links (renamed_by ids (flat ms)))
unfolding links renamed_by flat
lone_of n ids [] h g = tt
lone_of n ids (m ∷ ms) h g = (h.0.0, has_named ids m.spot ms ∙ g.0, lone_of n ids ms h.1 g.1)

pub lone_matches : (spots : List Float) (limit : ℕ) (points : List Float) (r2 : Float) (ids : List ℕ)
    → Lone (spots_within spots limit) (links (renamed_by ids (flat (matches_of spots limit points r2))))
unfolding matches_of
lone_matches spots limit points r2 ids =
    lone_of (spots_within spots limit) ids (matches_of spots limit points r2)
    (matches_all (λ (s : ℕ). s < spots_within spots limit) (λ (p : ℕ). Unit {0}) spots limit points r2 (λ n h. h) (λ n h. tt))
    (apart (merged not_after (pairs spots limit points r2)) [])

-- ---- how many numbers

pub renamed_many : (ids : List ℕ) (ms : List Match) → length (renamed_by ids (flat ms)) ≡ 2 * length ms
unfolding renamed_by flat
renamed_many ids [] = refl
renamed_many ids (m ∷ ms) = omega (arith, renamed_many ids ms)
