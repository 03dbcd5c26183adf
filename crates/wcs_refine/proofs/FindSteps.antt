-- What the matcher leaves in its part of the list of whole numbers, and where its matches stand once they are renamed. Assumes nothing.
use Rattle.std.proofs.Common.{◌≡◌, ℕ, ◌+◌, ◌-◌, ◌*◌, ◌/◌, ◌<◌, ◌≤◌, min, Bool, true, false, cond, List, ◌++◌, length, get_or, take, drop, replicate, sym, refl, ap, ◌∙◌, subst, append_assoc, arith, length-append, length-drop, length-take, length-take-le, get_or-take, take-take, take_at, get_or-append-add, take-add, drop_at}
use lib.ListN.{length-replicate, get_or-replicate, replicate-append-replicate, get_or-append}
use lib.Seq.{slice, length-slice, drop-drop}
use lib.Ieee.{Float}
use Rattle.pairs.specs.Pairs.{pairs, spots_within}
use Rattle.matching.specs.Greedy.{Match, flat, matches_of, placed, overfull, Outcome}
use Rattle.pairs.specs.Candidates.{capacity}
use Rattle.entry.specs.declared.Matcher.{Matcher}
use Rattle.wcs_refine.specs.Round.{too_many, ordering}
use Rattle.wcs_refine.specs.Choosing.{chosen}
use Rattle.wcs_refine.proofs.ChosenSteps.{outcome_of, listed_pairs, chosen_is}
use Rattle.std.specs.Prelude.{Result, Ok, Err}
use Rattle.refusal.specs.declared.Refusal.{Refusal}
use Rattle.refusal.specs.declared.Refusal.TheVariants.{ManyPairs}
use Rattle.wcs_refine.specs.Listing.{renamed_by}
use Rattle.wcs_refine.specs.Keeping.{points_at}
use Rattle.wcs_refine.specs.Comparing.{NewAt}
use Rattle.wcs_refine.proofs.FewMatches.{few_matches}
use Rattle.matching.proofs.Calls.{flat_many}
use Rattle.wcs_refine.proofs.NewMatches.{renamed_many}

-- ---- parts of lists

pub part_is : {A : Type 0} (a e : ℕ) (l : List A) → a ≤ e → e ≤ length l → take (e - a) (drop a l) ≡ slice a e l
part_is {A} a e l h fits =
    let s : e ≡ a + (e - a) = omega arith in
    sym
    (ap (λ (k : ℕ). drop a (take k l)) s ∙ ap (drop a) (take-add a (e - a) l)
    ∙ drop_at (take a l) (take (e - a) (drop a l)) a (length-take-le a l (omega arith)))

pub slice_at : {A : Type 0} (x y z : List A) (i k : ℕ) → length x ≡ i → length y ≡ k → slice i (i + k) (x ++ y ++ z) ≡ y
slice_at {A} x y z i k p q =
    ap (drop i) (take_at (x ++ y) z (i + k) (omega (arith, length-append x y)))
    ∙ drop_at x y i p

-- a part within what two lists start with
pub slice_front : {A : Type 0} (a e n : ℕ) (l m : List A) → e ≤ n → take n l ≡ take n m → slice a e l ≡ slice a e m
slice_front {A} a e n l m h same =
    ap (drop a) (sym (take-take e n l h) ∙ ap (take e) same ∙ take-take e n m h)

-- a part of what a list starts with
pub part_of : (a e m : ℕ) (l : List ℕ) → a ≤ e → e ≤ m → m ≤ length l → take (e - a) (drop a (take m l)) ≡ slice a e l
part_of a e m l h k fits =
    let long : e ≤ length (take m l) = omega (arith, length-take-le m l fits) in
    part_is a e (take m l) h long ∙ slice_front a e m (take m l) l k (take-take m m l (omega arith))

-- ---- the points of k spots, which stand in their regions

module _ (n k : ℕ) (floats : List Float) (fits : 4 * n + 2 * k ≤ length floats) where
  pub at_many : length (points_at n k floats) / 2 ≡ k
  at_many = omega (arith, length-slice (4 * n) (4 * n + 2 * k) floats fits)

  pub on_points : (matcher : Matcher) (limit : ℕ) (qs : List Float) (r2 : Float) (d : List Float) (ix w : List ℕ) {o : Outcome}
      → o ≡ chosen matcher (take (4 * n + 2 * k - 4 * n) (drop (4 * n) floats)) limit qs r2 d ix w
      → o ≡ chosen matcher (points_at n k floats) limit qs r2 d ix w
  on_points matcher limit qs r2 d ix w did =
      did ∙ ap (λ (x : List Float). chosen matcher x limit qs r2 d ix w) (part_is (4 * n) (4 * n + 2 * k) floats (omega arith) fits)

-- ---- the matcher's answer

module _ (matcher : Matcher) (n q : ℕ) (spots : List Float) (limit : ℕ) (floats : List Float) (r2 : Float) (d : List Float) (ix o : List ℕ)
    (room : length spots / 2 + q ≤ n) (many : 16 * n ≤ length o) (far : 16 * n ≤ length floats) where
  abbrev points : List Float
  points = slice (2 * n) (2 * n + 2 * q) floats

  abbrev work : List ℕ
  work = take (8 * n - 4 * n) (drop (4 * n) o)

  abbrev within : ℕ
  within = spots_within spots limit

  abbrev found : List Match
  found = matches_of spots limit points r2

  -- the comparisons that put its pairs in order
  abbrev compared : ℕ
  compared = ordering matcher (pairs spots limit points r2)

  abbrev over : Bool
  over = too_many matcher (capacity d ix) (length (pairs spots limit points r2))

  points_many : length points / 2 ≡ q
  points_many = omega (arith, length-slice (2 * n) (2 * n + 2 * q) floats (omega arith))

  work_many : length work ≡ 4 * n
  work_many = omega (arith, length-take (8 * n - 4 * n) (drop (4 * n) o), length-drop (4 * n) o)

  -- the places behind the strips, and what stands in front of them in the end
  abbrev inner : List ℕ
  inner = drop (2 * within) work

  abbrev behind_strips : Outcome → Outcome
  behind_strips z = outcome_of z.answer z.comparisons z.distances z.indices (replicate (2 * within) 0 ++ z.work)

  abbrev fitted : Outcome
  fitted = placed (within + length points / 2) (listed_pairs matcher (pairs spots limit points r2)) compared found d ix inner

  module _ {x : Result ℕ Refusal} {m : ℕ} {d' : List Float} {ix' w : List ℕ}
      (did : outcome_of x m d' ix' w ≡ chosen matcher spots limit (take (2 * n + 2 * q - 2 * n) (drop (2 * n) floats)) r2 d ix work) where
    enough : 2 * within + (within + length points / 2 + 2 * min within (length points / 2)) ≤ length work
    enough = omega (arith, points_many, work_many)

    told : outcome_of x m d' ix' w ≡ behind_strips (cond over (overfull d ix inner) fitted)
    told =
        did ∙ ap (λ (z : List Float). chosen matcher spots limit z r2 d ix work) (part_is (2 * n) (2 * n + 2 * q) floats (omega arith) (omega arith))
        ∙ chosen_is spots limit points r2 d ix work matcher enough

    if_over : over ≡ true → x ≡ Err ManyPairs
    unfolding overfull
    if_over e = ap (λ (z : Outcome). z.answer) (told ∙ ap (λ (b : Bool). behind_strips (cond b (overfull d ix inner) fitted)) e)

    if_fits : over ≡ false → outcome_of x m d' ix' w ≡ behind_strips fitted
    if_fits e = told ∙ ap (λ (b : Bool). behind_strips (cond b (overfull d ix inner) fitted)) e

    fits_answer : over ≡ false → x ≡ Ok (length found)
    unfolding placed
    fits_answer e = ap (λ (z : Outcome). z.answer) (if_fits e)

    fits_work : over ≡ false → w ≡ replicate (3 * within + q) 0 ++ flat found ++ drop (within + q + 2 * length found) inner
    unfolding placed
    fits_work e =
        let marks : List ℕ = replicate (within + q) 0 in
        let rest = drop (within + q + 2 * length found) inner in
        let all : 2 * within + (within + q) ≡ 3 * within + q = omega arith in
        ap (λ (z : Outcome). z.work) (if_fits e)
        ∙ ap (λ (k : ℕ). replicate (2 * within) 0 ++ (replicate (within + k) 0 ++ flat found ++ drop (within + k + 2 * length found) inner)) points_many
        ∙ sym (append_assoc (replicate (2 * within) 0) (marks ++ flat found) rest)
        ∙ ap (λ (l : List ℕ). l ++ rest) (sym (append_assoc (replicate (2 * within) 0) marks (flat found)))
        ∙ ap (λ (l : List ℕ). l ++ flat found ++ rest) (replicate-append-replicate (2 * within) (within + q) 0)
        ∙ ap (λ (k : ℕ). replicate k 0 ++ flat found ++ rest) all

    -- a refusal: too many pairs
    pub too_many_pairs : {u : Refusal} → x ≡ Err u → (true ≡ over) × (u ≡ ManyPairs)
    too_many_pairs {u} h = by over refl
      where
        by : (b : Bool) → over ≡ b → (true ≡ b) × (u ≡ ManyPairs)
        by true e = let f : x ≡ Err ManyPairs = if_over e in (refl, cc)
        by false e = let f : x ≡ Ok (length found) = fits_answer e in let z : ◌≡◌ {A = ℕ} 0 1 = cc in absurd (omega arith)

    module _ {t : ℕ} (is : x ≡ Ok t) (kept : length w ≡ length work) where
      pub not_over : false ≡ over
      not_over = by over refl
        where
          by : (b : Bool) → over ≡ b → false ≡ b
          by true e = let f : x ≡ Err ManyPairs = if_over e in let z : ◌≡◌ {A = ℕ} 0 1 = cc in absurd (omega arith)
          by false e = refl

      pub count_is : t ≡ length found
      count_is = let f : x ≡ Ok (length found) = fits_answer (sym not_over) in cc

      pub compared_is : m ≡ compared
      unfolding placed
      compared_is = ap (λ (z : Outcome). z.comparisons) (if_fits (sym not_over))

      -- how far the matches reach
      pub reach : 3 * within + q + 2 * t ≤ 4 * n
      reach =
          let e = fits_work (sym not_over) in
          omega (
            arith,
            count_is,
            kept,
            work_many,
            ap length e,
            length-append (replicate (3 * within + q) 0 ++ flat found) (drop (within + q + 2 * length found) inner),
            length-append (replicate (3 * within + q) 0) (flat found),
            length-replicate {A = ℕ} (3 * within + q) 0,
            length-drop (within + q + 2 * length found) inner,
            length-drop (2 * within) work,
            flat_many found,
          )

      -- the list with the matcher's part back in its place
      module _ {o' : List ℕ} (back : o' ≡ take (4 * n) o ++ (w ++ drop (8 * n - 4 * n) (drop (4 * n) o))) where
        pub long : length o' ≡ length o
        long =
            omega (
              arith,
              ap length back,
              length-append (take (4 * n) o) (w ++ drop (8 * n - 4 * n) (drop (4 * n) o)),
              length-append w (drop (8 * n - 4 * n) (drop (4 * n) o)),
              kept,
              work_many,
              length-take (4 * n) o,
              length-drop (8 * n - 4 * n) (drop (4 * n) o),
              length-drop (4 * n) o,
            )

        abbrev behind : List ℕ
        behind = drop (within + q + 2 * length found) inner ++ drop (8 * n - 4 * n) (drop (4 * n) o)

        front_many : length (take (4 * n) o) ≡ 4 * n
        front_many = length-take-le (4 * n) o (omega arith)

        front_same : take (4 * n) o' ≡ take (4 * n) o
        front_same = ap (take (4 * n)) back ∙ take_at (take (4 * n) o) _ (4 * n) front_many

        apart : o' ≡ take (4 * n) o ++ replicate (3 * within + q) 0 ++ flat found ++ behind
        apart = back ∙ ap (λ (l : List ℕ). take (4 * n) o ++ (l ++ drop (8 * n - 4 * n) (drop (4 * n) o))) (fits_work (sym not_over)) ∙ simp append_assoc

        marks_many : length (take (4 * n) o ++ replicate (3 * within + q) 0) ≡ 4 * n + 3 * within + q
        marks_many = omega (arith, length-append (take (4 * n) o) (replicate (3 * within + q) 0), front_many, length-replicate {A = ℕ} (3 * within + q) 0)

        matches_there : slice (4 * n + 3 * within + q) (4 * n + 3 * within + q + 2 * t) o' ≡ flat found
        matches_there =
            ap (λ (l : List ℕ). slice (4 * n + 3 * within + q) (4 * n + 3 * within + q + 2 * t) l) apart
            ∙ slice_at (take (4 * n) o ++ replicate (3 * within + q) 0) (flat found) behind (4 * n + 3 * within + q) (2 * t) marks_many (omega (arith, flat_many found, count_is))

        zero_there : (s : ℕ) → s < within → get_or o' (4 * n + s) 0 ≡ 0
        zero_there s h =
            let p : s < length (replicate {A = ℕ} (3 * within + q) 0) = omega (arith, length-replicate {A = ℕ} (3 * within + q) 0) in
            let u : 4 * n + s < length (take (4 * n) o ++ replicate (3 * within + q) 0) = omega (arith, marks_many) in
            let v : 4 * n + s < length (take (4 * n) o ++ replicate (3 * within + q) 0 ++ flat found) =
            omega (arith, marks_many, length-append (take (4 * n) o ++ replicate (3 * within + q) 0) (flat found)) in
            let e : 4 * n + s ≡ length (take (4 * n) o) + s = omega (arith, front_many) in
            ap (λ (l : List ℕ). get_or l (4 * n + s) 0) apart
            ∙ get_or-append (take (4 * n) o ++ replicate (3 * within + q) 0 ++ flat found) behind 0 (4 * n + s) v
            ∙ get_or-append (take (4 * n) o ++ replicate (3 * within + q) 0) (flat found) 0 (4 * n + s) u
            ∙ ap (λ (k : ℕ). get_or (take (4 * n) o ++ replicate (3 * within + q) 0) k 0) e
            ∙ get_or-append-add (take (4 * n) o) (replicate (3 * within + q) 0) s 0
            ∙ get_or-replicate (3 * within + q) s 0 0 (omega arith)

        abbrev ids : List ℕ
        ids = slice (3 * n) (3 * n + q) o

        ids_same : slice (3 * n) (3 * n + q) o' ≡ ids
        ids_same = slice_front (3 * n) (3 * n + q) (4 * n) o' o (omega arith) front_same

        -- and after the renaming
        new_there : {after : List ℕ} → length after ≡ length o'
            → after ≡ take (8 * n) o' ++ renamed_by (slice (3 * n) (3 * n + q) o') (slice (4 * n + 3 * within + q) (4 * n + 3 * within + q + 2 * t) o') ++ drop (8 * n + 2 * t) o'
            → NewAt n within t (renamed_by ids (flat found)) o after
        new_there {after} same e =
            let new = renamed_by ids (flat found) in
            let f : after ≡ take (8 * n) o' ++ new ++ drop (8 * n + 2 * t) o' =
            e ∙ ap (λ (l : List ℕ). take (8 * n) o' ++ renamed_by l (slice (4 * n + 3 * within + q) (4 * n + 3 * within + q + 2 * t) o') ++ drop (8 * n + 2 * t) o') ids_same
            ∙ ap (λ (l : List ℕ). take (8 * n) o' ++ renamed_by ids l ++ drop (8 * n + 2 * t) o') matches_there in
            let before : length (take (8 * n) o') ≡ 8 * n = length-take-le (8 * n) o' (omega (arith, long)) in
            let first : take (8 * n) after ≡ take (8 * n) o' =
            ap (take (8 * n)) (f ∙ append_assoc (take (8 * n) o') new (drop (8 * n + 2 * t) o')) ∙ take_at (take (8 * n) o') (new ++ drop (8 * n + 2 * t) o') (8 * n) before in
            let half : 4 * n ≤ 8 * n = omega arith in
            record {
              room = omega (arith, count_is, few_matches spots limit points r2);
              long = same ∙ long;
              front = sym (take-take (4 * n) (8 * n) after half) ∙ ap (take (4 * n)) first ∙ take-take (4 * n) (8 * n) o' half ∙ front_same;
              zeros = λ s h.
                  let p : 4 * n + s < 8 * n = omega arith in
                  sym (get_or-take (8 * n) after (4 * n + s) 0 p) ∙ ap (λ (l : List ℕ). get_or l (4 * n + s) 0) first ∙ get_or-take (8 * n) o' (4 * n + s) 0 p ∙ zero_there s h;
              list = ap (λ (l : List ℕ). slice (8 * n) (8 * n + 2 * t) l) f
                  ∙ slice_at (take (8 * n) o') new (drop (8 * n + 2 * t) o') (8 * n) (2 * t) before (omega (arith, renamed_many ids found, count_is));
            }

        found_there : {v : ℕ} {after : List ℕ} → v ≡ within → length after ≡ length o'
            → after ≡ take (8 * n) o' ++ renamed_by (slice (3 * n) (3 * n + q) o') (slice (4 * n + 3 * v + q) (4 * n + 3 * v + q + 2 * t) o') ++ drop (8 * n + 2 * t) o'
            → NewAt n v t (renamed_by ids (flat found)) o after
        found_there {v} {after} u same e =
            subst (λ (k : ℕ). NewAt n k t (renamed_by ids (flat found)) o after) (sym u)
            (new_there same
            (e ∙ ap (λ (k : ℕ). take (8 * n) o' ++ renamed_by (slice (3 * n) (3 * n + q) o') (slice (4 * n + 3 * k + q) (4 * n + 3 * k + q + 2 * t) o') ++ drop (8 * n + 2 * t) o') u))

        -- the new matches are written from place 8 n on, over a part that is lent beside what is read
        pub found_beside : {v : ℕ} {front new : List ℕ} → take (8 * n) o' ≡ front → v ≡ within → length new ≡ length (drop (8 * n) o')
            → (let p = 4 * n + 3 * v + q in
            let ms = take (p + 2 * t - p) (drop p (take (8 * n) o')) in
            new ≡ renamed_by (take (3 * n + q - 3 * n) (drop (3 * n) (take (8 * n) o'))) ms ++ drop (length ms) (drop (8 * n) o'))
            → NewAt n v t (renamed_by ids (flat found)) o (front ++ new)
        found_beside {v} {front} {new} f u same e =
            let p = 4 * n + 3 * v + q in
            let whole : 8 * n ≤ length o' = omega (arith, long) in
            let end : p + 2 * t ≤ 8 * n = omega (arith, u, reach) in
            let a : take (3 * n + q - 3 * n) (drop (3 * n) (take (8 * n) o')) ≡ slice (3 * n) (3 * n + q) o' =
            part_of (3 * n) (3 * n + q) (8 * n) o' (omega arith) (omega (arith, points_many, room)) whole in
            let b : take (p + 2 * t - p) (drop p (take (8 * n) o')) ≡ slice p (p + 2 * t) o' = part_of p (p + 2 * t) (8 * n) o' (omega arith) end whole in
            let many : length (take (p + 2 * t - p) (drop p (take (8 * n) o'))) ≡ 2 * t =
            omega (arith, ap length b, length-slice p (p + 2 * t) o' (omega (arith, end, whole))) in
            let rest : drop (length (take (p + 2 * t - p) (drop p (take (8 * n) o')))) (drop (8 * n) o') ≡ drop (8 * n + 2 * t) o' =
            ap (λ (j : ℕ). drop j (drop (8 * n) o')) many ∙ drop-drop (2 * t) (8 * n) o' in
            let is : new ≡ renamed_by (slice (3 * n) (3 * n + q) o') (slice p (p + 2 * t) o') ++ drop (8 * n + 2 * t) o' = rw (← a, ← b, ← rest) e in
            subst (λ (l : List ℕ). NewAt n v t (renamed_by ids (flat found)) o (l ++ new)) f
            (found_there u (omega (arith, length-append (take (8 * n) o') new, length-take-le (8 * n) o' whole, same, length-drop (8 * n) o'))
            (ap (λ (l : List ℕ). take (8 * n) o' ++ l) is ∙ sym (append_assoc (take (8 * n) o') _ (drop (8 * n + 2 * t) o'))))
