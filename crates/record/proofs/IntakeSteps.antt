-- What is left in the lists: the numbers of a lawful record at their fronts, or the lists as they came. Assumes nothing.
use mathlib.Core.Path.{◌≡◌, refl, sym, ap, subst, ◌∙◌}
use mathlib.Core.Bool.{Bool, true, false, cond, ◌&&◌}
use Rattle.std.specs.Prelude.{Ok, Err}
use mathlib.Core.List.{List, [], ◌∷◌, ◌++◌, map, map-id}
use Prim.Native.Nat.{ℕ, suc, ◌-◌, ◌*◌, ◌/◌, ◌≤◌, ◌<◌}
use native.Mathlib.Omega.{arith}
use borrow.Author.Tests.{le-leb, lt-leb}
use lib.Dec.{leb}
use lib.ListN.{length, take, drop}
use lib.Seq.{length-take-le}
use lib.Ieee.{Float, Format, binary32, binary64, of_bits}
use Rattle.panel.specs.Spots.{spot_numbers}
use Rattle.refusal.specs.declared.Refusal.{Refusal}
use Rattle.refusal.specs.declared.Refusal.TheVariants.{ShortList}
use Rattle.refusal.specs.Number.{number_of}
use Rattle.record.specs.Reading.{Read, refused, reading}
use Rattle.lists.specs.Fronted.{fronted}
use Rattle.record.specs.Header.{floats_of, Handed, handed, refused_header, header_of, intake, room, read_record, taken as taken_from}
use Rattle.record.specs.Layout.{Exposure}
use Rattle.record.specs.Head.{head_spots, head_matches, head_directions, place, exposure}
use Rattle.record.specs.Passes.{Standing, Lawful, header_from}
use Rattle.record.specs.declared.Header.{Header}
use Rattle.record.specs.declared.whole.Found.{Found}
use Rattle.record.proofs.RunSteps.{floats_map}
use Rattle.record.proofs.WholeSteps.{run_length}

-- ---- three tests

second_fails : (t u v : Bool) → u ≡ false → (t && u && v) ≡ false
second_fails true u v e = ap (λ (x : Bool). x && v) e
second_fails false u v e = refl

third_fails : (t u v : Bool) → v ≡ false → (t && u && v) ≡ false
third_fails true true v e = e
third_fails true false v e = refl
third_fails false u v e = refl

first_fails : (t u v : Bool) → t ≡ false → (t && u && v) ≡ false
first_fails t u v e = ap (λ (x : Bool). x && u && v) e

all_hold : {t u v : Bool} → t ≡ true → u ≡ true → v ≡ true → (t && u && v) ≡ true
all_hold {t} {u} {v} e f g = ap (λ (x : Bool). x && u && v) e ∙ ap (λ (x : Bool). true && x && v) f ∙ ap (λ (x : Bool). true && true && x) g

-- ---- lengths

floats_length : (f : Format) (vs : List ℕ) → length (floats_of f vs) ≡ length vs
unfolding floats_of
floats_length f [] = refl
floats_length f (v ∷ vs) = ap suc (floats_length f vs)

pub standing_length : {k bits : ℕ} {bytes vs : List ℕ} → Standing k bits bytes vs → length vs ≡ k
standing_length {k} {bits} {bytes} {vs} s = run_length k bits bytes vs s.rest s.is

-- A list that is lent up to its kth place.
pub lent : {A : Type 0} (l : List A) {k bits : ℕ} {bytes vs : List ℕ} → k ≤ length l → Standing k bits bytes vs
    → Standing (length (take (k - 0) l)) bits bytes vs
lent l {k} {bits} {bytes} {vs} h s =
    let e : k - 0 ≡ k = omega arith in
    subst (λ (j : ℕ). Standing j bits bytes vs) (sym (ap (λ (j : ℕ). length (take j l)) e ∙ length-take-le k l h)) s

-- What it holds afterwards.
taken_in : {A : Type 0} (of : List ℕ → List A) (l x : List A) {k bits : ℕ} {bytes vs : List ℕ} → Standing k bits bytes vs
    → k ≤ length l → length (of vs) ≡ length vs → ((vs : List ℕ) → Standing (length (take (k - 0) l)) bits bytes vs → x ≡ of vs)
    → x ++ drop (k - 0) l ≡ fronted (of vs) l
taken_in {A = A} of l x {k} {bits} {bytes} {vs} s h same f =
    let e : k - 0 ≡ k = omega arith in
    ap (λ (j : ℕ). x ++ drop j l) (e ∙ sym (same ∙ standing_length s)) ∙ ap (λ (y : List A). y ++ drop (length (of vs)) l) (f vs (lent l h s))

-- ---- the header

pub header_same : (h spots matches directions : List ℕ) → length spots ≡ spot_numbers * place h head_spots → length matches ≡ 2 * place h head_matches → length directions ≡ 3 * place h head_directions
    → handed (Ok (header_from h)) ≡ header_of (exposure h spots matches directions)
unfolding handed header_from header_of
header_same h spots matches directions a b c =
    let x : place h head_spots ≡ length spots / spot_numbers = omega arith in
    let y : place h head_matches ≡ length matches / 2 = omega arith in
    let z : place h head_directions ≡ length directions / 3 = omega arith in
    cc

-- ---- the whole

pub read_refused : (bytes : List ℕ) (r : Refusal) (ss : List Float) (ms : List ℕ) (ds : List Float) → reading bytes ≡ refused (number_of r)
    → intake (handed (Err r)) ss ms ds ≡ read_record bytes ss ms ds
unfolding read_record handed
read_refused bytes r ss ms ds e = ap (λ (x : Read). taken_from x ss ms ds) (sym e)

module _ (bytes : List ℕ) (f : Found) (q : Lawful bytes f) (ss : List Float) (ms : List ℕ) (ds : List Float) where
  abbrev e : Exposure
  e = exposure f.numbers q.spots q.matches q.directions

  abbrev n : ℕ
  n = spot_numbers * place f.numbers head_spots

  abbrev m : ℕ
  m = 2 * place f.numbers head_matches

  abbrev d : ℕ
  d = 3 * place f.numbers head_directions

  by_room : (t : Bool) → room e ss ms ds ≡ t
      → cond t (intake (header_of e) (fronted (floats_of binary64 q.spots) ss) (fronted q.matches ms) (fronted (floats_of binary32 q.directions) ds)) (intake (refused_header 11) ss ms ds)
      ≡ read_record bytes ss ms ds
  unfolding read_record
  by_room t g =
      ap (λ (u : Bool). cond u (intake (header_of e) (fronted (floats_of binary64 q.spots) ss) (fronted q.matches ms) (fronted (floats_of binary32 q.directions) ds)) (intake (refused_header 11) ss ms ds)) (sym g)
      ∙ ap (λ (x : Read). taken_from x ss ms ds) (sym q.is)

  no_room : room e ss ms ds ≡ false → intake (handed (Err ShortList)) ss ms ds ≡ read_record bytes ss ms ds
  unfolding handed
  no_room h = by_room false h

  pub few_spots : length ss < n → intake (handed (Err ShortList)) ss ms ds ≡ read_record bytes ss ms ds
  few_spots h = no_room (first_fails (leb (length q.spots) (length ss)) (leb (length q.matches) (length ms)) (leb (length q.directions) (length ds))
      (lt-leb (length q.spots) (length ss) (omega (arith, standing_length q.spots_at))))

  pub few_matches : length ms < m → intake (handed (Err ShortList)) ss ms ds ≡ read_record bytes ss ms ds
  few_matches h = no_room (second_fails (leb (length q.spots) (length ss)) (leb (length q.matches) (length ms)) (leb (length q.directions) (length ds))
      (lt-leb (length q.matches) (length ms) (omega (arith, standing_length q.matches_at))))

  pub few_directions : length ds < d → intake (handed (Err ShortList)) ss ms ds ≡ read_record bytes ss ms ds
  few_directions h = no_room (third_fails (leb (length q.spots) (length ss)) (leb (length q.matches) (length ms)) (leb (length q.directions) (length ds))
      (lt-leb (length q.directions) (length ds) (omega (arith, standing_length q.directions_at))))

  pub read_whole : {r : Header} → r ≡ header_from f.numbers → n ≤ length ss → m ≤ length ms → d ≤ length ds → (x : List Float) (y : List ℕ) (w : List Float)
      → ((vs : List ℕ) → Standing (length (take (n - 0) ss)) 64 f.spots.now vs → x ≡ map (of_bits binary64) vs)
      → ((vs : List ℕ) → Standing (length (take (m - 0) ms)) 32 f.matches.now vs → y ≡ map (λ v. v) vs)
      → ((vs : List ℕ) → Standing (length (take (d - 0) ds)) 32 f.directions.now vs → w ≡ map (of_bits binary32) vs)
      → intake (handed (Ok r)) (x ++ drop (n - 0) ss) (y ++ drop (m - 0) ms) (w ++ drop (d - 0) ds) ≡ read_record bytes ss ms ds
  read_whole {r} g hs hm hd x y w fs fm fd =
      let a : handed (Ok r) ≡ header_of e = ap (λ (t : Header). handed (Ok t)) g ∙ header_same f.numbers q.spots q.matches q.directions (standing_length q.spots_at) (standing_length q.matches_at) (standing_length q.directions_at) in
      let b : x ++ drop (n - 0) ss ≡ fronted (floats_of binary64 q.spots) ss = taken_in (floats_of binary64) ss x q.spots_at hs (floats_length binary64 q.spots) (λ vs s. fs vs s ∙ sym (floats_map binary64 vs)) in
      let c : y ++ drop (m - 0) ms ≡ fronted q.matches ms = taken_in (λ vs. vs) ms y q.matches_at hm refl (λ vs s. fm vs s ∙ map-id vs) in
      let k : w ++ drop (d - 0) ds ≡ fronted (floats_of binary32 q.directions) ds = taken_in (floats_of binary32) ds w q.directions_at hd (floats_length binary32 q.directions) (λ vs s. fd vs s ∙ sym (floats_map binary32 vs)) in
      ap (λ (t : Handed). intake t (x ++ drop (n - 0) ss) (y ++ drop (m - 0) ms) (w ++ drop (d - 0) ds)) a
      ∙ ap (λ (t : List Float). intake (header_of e) t (y ++ drop (m - 0) ms) (w ++ drop (d - 0) ds)) b
      ∙ ap (λ (t : List ℕ). intake (header_of e) (fronted (floats_of binary64 q.spots) ss) t (w ++ drop (d - 0) ds)) c
      ∙ ap (λ (t : List Float). intake (header_of e) (fronted (floats_of binary64 q.spots) ss) (fronted q.matches ms) t) k
      ∙ by_room true (all_hold (le-leb (length q.spots) (length ss) (omega (arith, standing_length q.spots_at)))
      (le-leb (length q.matches) (length ms) (omega (arith, standing_length q.matches_at)))
      (le-leb (length q.directions) (length ds) (omega (arith, standing_length q.directions_at))))
