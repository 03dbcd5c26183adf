-- The program's text, from what `respond` promises of the lists that the program holds, and that these are long enough. Assumes nothing.
use mathlib.Core.Path.{◌≡◌, refl, subst}
use Prim.Native.Nat.{ℕ, zero, suc, ◌*◌, ◌/◌, ◌≤◌, min}
use native.Mathlib.Omega.{arith}
use mathlib.Core.Bool.{Bool, true, false, cond}
use mathlib.Core.List.{List}
use borrow.Author.Tests.{le-leb}
use lib.ListN.{length, replicate, length-take, length-replicate}
use lib.Ieee.{Float, binary32, of_bits}
use Rattle.rounding.specs.Arith.{zero64}
use Rattle.panel.specs.Spots.{spot_numbers}
use Rattle.entry.specs.Arguments.{Lent, work_for, result_for}
use Rattle.entry.specs.Check.{divides, few, scale_fits, radius_fits, cut_fits, numbers_fit, weights_fit, named, long, counts_refused, measures_refused, numbers_refused, weights_refused, names_refused, or_else, refusal_of, refusal}
use Rattle.printing.specs.Text.{set_from}
use Rattle.response.specs.Response.{asked, response_to}
use Rattle.response.specs.Printed.{Printed}
use Rattle.response.specs.Program.{held_spots, held_matches, held_directions, held_work, held_result, program_lent, program_text, NeverShort}

-- The zero that a direction starts as.
single_zero : of_bits binary32 0 ≡ zero64
unfolding of_bits
single_zero = refl

pub printed_alone : (bytes : List ℕ) {n : ℕ} {before after : List ℕ} {ss : List Float} {ms : List ℕ} {ds : List Float} {left : Lent}
    → Printed (response_to bytes (replicate (spot_numbers * held_spots) zero64) (replicate (2 * held_matches) 0) (replicate (3 * held_directions) (of_bits binary32 0)) program_lent)
    n before after ss ms ds left
    → (n ≡ min (length (program_text bytes)) (length before)) × (after ≡ set_from 0 (program_text bytes) before)
unfolding program_text response_to
printed_alone bytes {n} {before} {after} {ss} {ms} {ds} {left} p =
    let q = subst (λ (z : Float). Printed (response_to bytes (replicate (spot_numbers * held_spots) zero64) (replicate (2 * held_matches) 0) (replicate (3 * held_directions) z) program_lent) n before after ss ms ds left) single_zero p in
    (q.count, q.out)

-- ---- never 11

-- A number that neither side gives.
of_cond : (t : Bool) {x y n : ℕ} → (x ≡ n → ⊥) → (y ≡ n → ⊥) → cond t x y ≡ n → ⊥
of_cond true f g e = f e
of_cond false f g e = g e

of_stages : (a b : ℕ) {n : ℕ} → (a ≡ n → ⊥) → (b ≡ n → ⊥) → or_else a b ≡ n → ⊥
unfolding or_else
of_stages zero b f g e = g e
of_stages (suc a) b f g e = f e

counts_never : (s m d rounds : ℕ) → counts_refused s m d rounds ≡ 11 → ⊥
unfolding counts_refused
counts_never s m d rounds =
    of_cond (divides s m d) (of_cond (few (s / spot_numbers) (m / 2) (d / 3) rounds) (λ e. omega arith) (λ e. omega arith)) (λ e. omega arith)

measures_never : (scale radius cut : Float) → measures_refused scale radius cut ≡ 11 → ⊥
unfolding measures_refused
measures_never scale radius cut =
    of_cond (scale_fits scale)
    (of_cond (radius_fits radius) (of_cond (cut_fits cut) (λ e. omega arith) (λ e. omega arith)) (λ e. omega arith))
    (λ e. omega arith)

numbers_never : (ss ds : List Float) (rows : List (List Float)) → numbers_refused ss ds rows ≡ 11 → ⊥
unfolding numbers_refused
numbers_never ss ds rows = of_cond (numbers_fit ss ds rows) (λ e. omega arith) (λ e. omega arith)

weights_never : (ss : List Float) → weights_refused ss ≡ 11 → ⊥
unfolding weights_refused
weights_never ss = of_cond (weights_fit ss) (λ e. omega arith) (λ e. omega arith)

-- Room for as much as is held.
roomy : (s m d limit numbers floats result : ℕ) → s ≤ held_spots → m ≤ held_matches → d ≤ held_directions
    → numbers ≡ held_work → floats ≡ held_work → result ≡ held_result → long s m d limit numbers floats result ≡ true
unfolding long
roomy s m d limit numbers floats result hs hm hd en ef er =
    let n : work_for s m d ≤ numbers = omega arith in
    let f : work_for s m d ≤ floats = omega arith in
    let r : result_for s m limit ≤ result = omega arith in
    rw (le-leb (work_for s m d) numbers n, le-leb (work_for s m d) floats f, le-leb (result_for s m limit) result r)

names_never : (ms : List ℕ) (s d limit numbers floats result : ℕ) → long s (length ms / 2) d limit numbers floats result ≡ true
    → names_refused ms s d limit numbers floats result ≡ 11 → ⊥
unfolding names_refused
names_never ms s d limit numbers floats result h =
    of_cond (named s d ms) (λ e. all_there (long s (length ms / 2) d limit numbers floats result) h e) (λ e. omega arith)
  where
    all_there : (t : Bool) → t ≡ true → ◌≡◌ {A = ℕ} (cond t 0 11) 11 → ⊥
    all_there true k e = omega arith
    all_there false k e = let z : ◌≡◌ {A = ℕ} 0 1 = cc in omega arith

-- Of the five stages only the last gives 11, and not where the lists are long enough.
roomy_never : (ss : List Float) (ms : List ℕ) (ds : List Float) (rows : List (List Float)) (scale radius cut : Float) (limit rounds numbers floats result : ℕ)
    → long (length ss / spot_numbers) (length ms / 2) (length ds / 3) limit numbers floats result ≡ true
    → refusal_of ss ms ds rows scale radius cut limit rounds numbers floats result ≡ 11 → ⊥
unfolding refusal_of
roomy_never ss ms ds rows scale radius cut limit rounds numbers floats result h =
    let names = names_refused ms (length ss / spot_numbers) (length ds / 3) limit numbers floats result in
    let weights = or_else (weights_refused ss) names in
    let others = or_else (numbers_refused ss ds rows) weights in
    of_stages (counts_refused (length ss) (length ms) (length ds) rounds) (or_else (measures_refused scale radius cut) others)
    (counts_never (length ss) (length ms) (length ds) rounds)
    (of_stages (measures_refused scale radius cut) others (measures_never scale radius cut)
    (of_stages (numbers_refused ss ds rows) weights (numbers_never ss ds rows)
    (of_stages (weights_refused ss) names (weights_never ss)
    (names_never ms (length ss / spot_numbers) (length ds / 3) limit numbers floats result h))))

-- The program's lists have the lengths that their names say.
held_lengths : (length program_lent.numbers ≡ held_work) × (length program_lent.floats ≡ held_work) × (length program_lent.result ≡ held_result)
unfolding program_lent
held_lengths = (length-replicate {A = ℕ} held_work 0, length-replicate held_work zero64, length-replicate {A = ℕ} held_result 0)

pub never_short : NeverShort
unfolding refusal
never_short i es em ed =
    let c = asked i program_lent in
    let s : length c.spots / spot_numbers ≤ held_spots = omega (arith, length-take (spot_numbers * i.header.spots) i.spots) in
    let m : length c.given.matches / 2 ≤ held_matches = omega (arith, length-take (2 * i.header.matches) i.matches) in
    let d : length c.directions / 3 ≤ held_directions = omega (arith, length-take (3 * i.header.directions) i.directions) in
    let l = c.given.lent in
    roomy_never c.spots c.given.matches c.directions c.given.rotation c.given.scale c.given.radius c.given.cut c.given.limit c.given.rounds (length l.numbers) (length l.floats) (length l.result)
    (roomy (length c.spots / spot_numbers) (length c.given.matches / 2) (length c.directions / 3) c.given.limit (length l.numbers) (length l.floats) (length l.result) s m d held_lengths.0 held_lengths.1 held_lengths.2)
