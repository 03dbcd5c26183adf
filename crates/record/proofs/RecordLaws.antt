-- The bytes of lists of numbers and of a record and their reading, both ways. Assumes nothing.
use mathlib.Core.Path.{◌≡◌, refl, sym, ap, subst, ◌∙◌}
use Rattle.std.specs.Prelude.{Result, Ok, Err}
use mathlib.Core.List.{List, [], ◌∷◌, ◌++◌, append_assoc}
use Prim.Native.Nat.{ℕ, zero, suc, ◌+◌, ◌*◌, ◌/◌, ◌^◌, ◌≤◌, ◌<◌}
use native.Mathlib.Omega.{arith}
use lib.ListN.{length, take, drop, replicate, length-replicate}
use lib.Seq.{drop-cons}
use Rattle.panel.specs.Spots.{spot_numbers}
use Rattle.refusal.specs.declared.Refusal.{Refusal}
use Rattle.record.specs.declared.Number.{Number}
use Rattle.record.specs.Number.{written, number}
use Rattle.record.specs.Layout.{Exposure, Field, field, each, fields, written_fields, record_of, AllFit, Whole}
use Rattle.record.specs.Reading.{Values, values, fault, onward, following, numbers, run, Read, refused, closed, then, body, reading}
use Rattle.record.specs.Head.{head_spots, head_matches, head_directions, head_rotation, head_bits, place, exposure}
use Rattle.record.specs.Claims.{Octets}
use Rattle.record.proofs.RunSteps.{one, run_one, numbers_one}
use Rattle.record.proofs.WholeSteps.{by_head, after_spots, after_matches, body_is}
use Rattle.record.proofs.Laws.{Out, got, bad, Laws, Faults, Pair, pair, paired, onto, onto_faults, mapped, both_laws, mapped_laws, mapped_faults}
use Rattle.record.proofs.NumberLaws.{single, out_of, Below, single_laws, single_faults}

-- ---- a list of numbers

abbrev consed : Pair ℕ (List ℕ) → List ℕ
consed p = p.one ∷ p.two

unfoldable pub many : List ℕ → List ℕ → Out (List ℕ)
unfolding out_of onto mapped
many [] l = got [] l
many (b ∷ bs) l = mapped consed (onto (single b l) (λ v. many bs))

unfoldable pub wrote : List ℕ → List ℕ
wrote [] = []
wrote (v ∷ vs) = written v ++ wrote vs

-- Each number below its power of two, and as many as there are.
abbrev pub Fits : List ℕ → List ℕ → Type 0
Fits [] [] = Unit {0}
Fits [] (v ∷ vs) = ⊥
Fits (b ∷ bs) [] = ⊥
Fits (b ∷ bs) (v ∷ vs) = (v < 2 ^ b) × Fits bs vs

abbrev pub Narrow : List ℕ → Type 0
Narrow [] = Unit {0}
Narrow (b ∷ bs) = (b ≤ 64) × Narrow bs

pub many_faults : (bs l : List ℕ) → Faults (many bs l)
unfolding many
many_faults [] l = λ n e. let z : ◌≡◌ {A = ℕ} 0 1 = cc in absurd (omega arith)
many_faults (b ∷ bs) l = mapped_faults consed (onto (single b l) (λ v. many bs)) (onto_faults (single b l) (λ v. many bs) (single_faults b l) (λ v r. many_faults bs r))

none_laws : Laws (many []) wrote (Fits [])
unfolding many wrote
none_laws = record {
  some = [];
  some_ok = tt;
  reads = reads;
  means = means;
  short = λ l o e. let z : ◌≡◌ {A = ℕ} 0 1 = cc in absurd (omega arith);
  stuck = λ l r o e. let z : ◌≡◌ {A = ℕ} 0 1 = cc in absurd (omega arith);
  faults = many_faults [];
}
  where
    reads : (a : List ℕ) (r : List ℕ) → Fits [] a → got [] (wrote a ++ r) ≡ got a r
    reads [] r ok = refl
    reads (v ∷ vs) r ok = absurd ok

    means : (l a r : List ℕ) → Octets l → got [] l ≡ got a r → Fits [] a × (l ≡ wrote a ++ r)
    means l a r o e =
        let p : [] ≡ a = cc in
        let q : l ≡ r = cc in
        (subst (Fits []) p tt, q ∙ ap (λ (z : List ℕ). wrote z ++ r) p)

pub many_laws : (bs : List ℕ) → Narrow bs → Laws (many bs) wrote (Fits bs)
unfolding many wrote
many_laws [] h = none_laws
many_laws (b ∷ bs) h =
    mapped_laws (λ l. onto (single b l) (λ v. many bs)) (λ p. written p.one ++ wrote p.two) (λ p. Below b p.one × Fits bs p.two)
    (both_laws (single b) (λ v. many bs) written (λ v. wrote) (Below b) (λ v. Fits bs) (single_laws b h.0) (λ v k. many_laws bs h.1)
    (λ l. onto_faults (single b l) (λ v. many bs) (single_faults b l) (λ v r. many_faults bs r)))
    consed wrote (Fits (b ∷ bs)) to of
  where
    to : (p : Pair ℕ (List ℕ)) → Below b p.one × Fits bs p.two → Fits (b ∷ bs) (consed p) × (wrote (consed p) ≡ written p.one ++ wrote p.two)
    to p k = (k, refl)

    of : (vs : List ℕ) → Fits (b ∷ bs) vs → (p : Pair ℕ (List ℕ)) × (Below b p.one × Fits bs p.two) × (consed p ≡ vs)
    of [] k = absurd k
    of (v ∷ vs) k = (pair v vs, k, refl)

-- ---- the same as the definition's

unfoldable pub as_values : Out (List ℕ) → Values
as_values (got vs r) = values vs r
as_values (bad n) = fault n

one_many : (b : ℕ) (l : List ℕ) (X : List ℕ → Out (List ℕ)) (next : List ℕ → Values) → ((r : List ℕ) → next r ≡ as_values (X r))
    → one b l next ≡ as_values (mapped consed (onto (single b l) (λ v. X)))
unfolding one out_of onto mapped as_values
one_many b l X next same = by (number b l)
  where
    inner : (v : ℕ) (x : Values) (y : Out (List ℕ)) → x ≡ as_values y → onward x (λ vs more. values (v ∷ vs) more) ≡ as_values (mapped consed (paired v y))
    inner v x (got vs r) e = ap (λ (z : Values). onward z (λ vs more. values (v ∷ vs) more)) e
    inner v x (bad n) e = ap (λ (z : Values). onward z (λ vs more. values (v ∷ vs) more)) e

    by : (y : Result Number Refusal) → following l y (λ v rest. onward (next rest) (λ vs more. values (v ∷ vs) more)) ≡ as_values (mapped consed (onto (out_of l y) (λ v. X)))
    by (Ok n) = inner n.value (next (drop n.bytes l)) (X (drop n.bytes l)) (same (drop n.bytes l))
    by (Err r) = refl

pub numbers_many : (bs l : List ℕ) → numbers bs l ≡ as_values (many bs l)
unfolding numbers many as_values
numbers_many [] l = refl
numbers_many (b ∷ bs) l = numbers_one b bs l ∙ one_many b l (many bs) (numbers bs) (numbers_many bs)

pub run_many : (k b : ℕ) (l : List ℕ) → run k b l ≡ as_values (many (replicate k b) l)
unfolding run many as_values
run_many zero b l = refl
run_many (suc k) b l = run_one k b l ∙ one_many b l (many (replicate k b)) (run k b) (run_many k b)

-- ---- fields and numbers

fits_length : (bs vs : List ℕ) → Fits bs vs → length vs ≡ length bs
fits_length [] [] f = refl
fits_length [] (v ∷ vs) f = absurd f
fits_length (b ∷ bs) [] f = absurd f
fits_length (b ∷ bs) (v ∷ vs) f = ap suc (fits_length bs vs f.1)

fits_drop : (k : ℕ) (bs vs : List ℕ) → Fits bs vs → Fits (drop k bs) (drop k vs)
fits_drop zero bs vs f = f
fits_drop (suc k) [] [] f = tt
fits_drop (suc k) [] (v ∷ vs) f = absurd f
fits_drop (suc k) (b ∷ bs) [] f = absurd f
fits_drop (suc k) (b ∷ bs) (v ∷ vs) f = fits_drop k bs vs f.1

same_length : (k b : ℕ) (vs : List ℕ) → Fits (replicate k b) vs → length vs ≡ k
same_length k b vs f = fits_length (replicate k b) vs f ∙ length-replicate k b

each_fit : (k b : ℕ) (vs : List ℕ) → Fits (replicate k b) vs → AllFit (each b vs)
unfolding each
each_fit zero b [] f = tt
each_fit zero b (v ∷ vs) f = absurd f
each_fit (suc k) b [] f = absurd f
each_fit (suc k) b (v ∷ vs) f = (f.0, each_fit k b vs f.1)

fit_each : (b : ℕ) (vs : List ℕ) → AllFit (each b vs) → Fits (replicate (length vs) b) vs
unfolding each
fit_each b [] f = tt
fit_each b (v ∷ vs) f = (f.0, fit_each b vs f.1)

fit_as : (k b : ℕ) (vs : List ℕ) → length vs ≡ k → AllFit (each b vs) → Fits (replicate k b) vs
fit_as k b vs e f = subst (λ (j : ℕ). Fits (replicate j b) vs) e (fit_each b vs f)

fit_append : (fs gs : List Field) → AllFit fs → AllFit gs → AllFit (fs ++ gs)
fit_append [] gs a b = b
fit_append (f ∷ fs) gs a b = (a.0, fit_append fs gs a.1 b)

fit_left : (fs gs : List Field) → AllFit (fs ++ gs) → AllFit fs
fit_left [] gs a = tt
fit_left (f ∷ fs) gs a = (a.0, fit_left fs gs a.1)

fit_right : (fs gs : List Field) → AllFit (fs ++ gs) → AllFit gs
fit_right [] gs a = a
fit_right (f ∷ fs) gs a = fit_right fs gs a.1

written_append : (fs gs : List Field) → written_fields (fs ++ gs) ≡ written_fields fs ++ written_fields gs
unfolding written_fields
written_append [] gs = refl
written_append (f ∷ fs) gs = ap (λ (l : List ℕ). written f.value ++ l) (written_append fs gs) ∙ sym (append_assoc (written f.value) (written_fields fs) (written_fields gs))

-- The bits of fields, and their numbers.
abbrev bits_of : List Field → List ℕ
bits_of [] = []
bits_of (f ∷ fs) = f.bits ∷ bits_of fs

abbrev values_of : List Field → List ℕ
values_of [] = []
values_of (f ∷ fs) = f.value ∷ values_of fs

bits_each : (b : ℕ) (vs : List ℕ) → bits_of (each b vs) ≡ replicate (length vs) b
unfolding each
bits_each b [] = refl
bits_each b (v ∷ vs) = ap (λ (l : List ℕ). b ∷ l) (bits_each b vs)

values_each : (b : ℕ) (vs : List ℕ) → values_of (each b vs) ≡ vs
unfolding each
values_each b [] = refl
values_each b (v ∷ vs) = ap (λ (l : List ℕ). v ∷ l) (values_each b vs)

fields_fit : (fs : List Field) → AllFit fs → Fits (bits_of fs) (values_of fs)
fields_fit [] a = tt
fields_fit (f ∷ fs) a = (a.0, fields_fit fs a.1)

fit_fields : (fs : List Field) → Fits (bits_of fs) (values_of fs) → AllFit fs
fit_fields [] a = tt
fit_fields (f ∷ fs) a = (a.0, fit_fields fs a.1)

written_fields_lem : (fs : List Field) → written_fields fs ≡ wrote (values_of fs)
unfolding written_fields wrote
written_fields_lem [] = refl
written_fields_lem (f ∷ fs) = ap (λ (l : List ℕ). written f.value ++ l) (written_fields_lem fs)

written_each : (b : ℕ) (vs : List ℕ) → written_fields (each b vs) ≡ wrote vs
written_each b vs = written_fields_lem (each b vs) ∙ ap wrote (values_each b vs)

-- ---- a record, by its head and its three lists

abbrev pub Parts : Type 0
Parts = Pair (List ℕ) (Pair (List ℕ) (Pair (List ℕ) (List ℕ)))

abbrev pub made : Parts → Exposure
made p = exposure p.one p.two.one p.two.two.one p.two.two.two

head_of : Exposure → List ℕ
head_of e =
    length e.spots / spot_numbers ∷ length e.matches / 2 ∷ length e.directions / 3
    ∷ e.mirror ∷ e.scale ∷ e.radius ∷ e.cut ∷ e.limit ∷ e.rounds ∷ e.rotation

head_fields : Exposure → List Field
head_fields e =
    field 32 (length e.spots / spot_numbers) ∷ field 32 (length e.matches / 2) ∷ field 32 (length e.directions / 3)
    ∷ field 1 e.mirror ∷ field 64 e.scale ∷ field 32 e.radius ∷ field 64 e.cut
    ∷ field 32 e.limit ∷ field 32 e.rounds ∷ each 32 e.rotation

parts : Exposure → Parts
parts e = pair (head_of e) (pair e.spots (pair e.matches e.directions))

abbrev OkD : List ℕ → List ℕ → Type 0
OkD h d = Fits (replicate (3 * place h head_directions) 32) d

abbrev OkM : List ℕ → Pair (List ℕ) (List ℕ) → Type 0
OkM h p = Fits (replicate (2 * place h head_matches) 32) p.one × OkD h p.two

abbrev OkS : List ℕ → Pair (List ℕ) (Pair (List ℕ) (List ℕ)) → Type 0
OkS h p = Fits (replicate (spot_numbers * place h head_spots) 64) p.one × OkM h p.two

abbrev OkParts : Parts → Type 0
OkParts p = Fits head_bits p.one × OkS p.one p.two

abbrev write_m : Pair (List ℕ) (List ℕ) → List ℕ
write_m p = wrote p.one ++ wrote p.two

abbrev write_s : Pair (List ℕ) (Pair (List ℕ) (List ℕ)) → List ℕ
write_s p = wrote p.one ++ write_m p.two

abbrev write_parts : Parts → List ℕ
write_parts p = wrote p.one ++ write_s p.two

fields_are : (e : Exposure) → fields e ≡ head_fields e ++ each 64 e.spots ++ each 32 e.matches ++ each 32 e.directions
unfolding fields head_fields
fields_are e = refl

bits_head : (e : Exposure) → length e.rotation ≡ 9 → bits_of (head_fields e) ≡ head_bits
unfolding head_fields
bits_head e nine =
    ap (λ (l : List ℕ). take head_rotation head_bits ++ l) (bits_each 32 e.rotation ∙ ap (λ (k : ℕ). replicate k 32) nine)

values_head : (e : Exposure) → values_of (head_fields e) ≡ head_of e
unfolding head_fields head_of
values_head e = ap (λ (l : List ℕ). take head_rotation (head_of e) ++ l) (values_each 32 e.rotation)

written_head : (e : Exposure) → written_fields (head_fields e) ≡ wrote (head_of e)
written_head e = written_fields_lem (head_fields e) ∙ ap wrote (values_head e)

record_parts : (e : Exposure) → record_of e ≡ write_parts (parts e)
unfolding record_of parts
record_parts e =
    let H = head_fields e in
    let S = each 64 e.spots in
    let M = each 32 e.matches in
    let D = each 32 e.directions in
    ap written_fields (fields_are e) ∙ written_append (H ++ S ++ M) D
    ∙ ap (λ (l : List ℕ). l ++ written_fields D) (written_append (H ++ S) M ∙ ap (λ (l : List ℕ). l ++ written_fields M) (written_append H S))
    ∙ append_assoc (written_fields H ++ written_fields S) (written_fields M) (written_fields D)
    ∙ append_assoc (written_fields H) (written_fields S) (written_fields M ++ written_fields D)
    ∙ ap (λ (l : List ℕ). l ++ (written_fields S ++ (written_fields M ++ written_fields D))) (written_head e)
    ∙ ap (λ (l : List ℕ). wrote (head_of e) ++ (l ++ (written_fields M ++ written_fields D))) (written_each 64 e.spots)
    ∙ ap (λ (l : List ℕ). wrote (head_of e) ++ (wrote e.spots ++ (l ++ written_fields D))) (written_each 32 e.matches)
    ∙ ap (λ (l : List ℕ). wrote (head_of e) ++ (wrote e.spots ++ (wrote e.matches ++ l))) (written_each 32 e.directions)

head_fits : (e : Exposure) → length e.rotation ≡ 9 → AllFit (head_fields e) → Fits head_bits (head_of e)
head_fits e nine a =
    let f = subst (Fits (bits_of (head_fields e))) (values_head e) (fields_fit (head_fields e) a) in
    subst (λ (bs : List ℕ). Fits bs (head_of e)) (bits_head e nine) f

fits_head : (e : Exposure) → length e.rotation ≡ 9 → Fits head_bits (head_of e) → AllFit (head_fields e)
fits_head e nine a =
    let f = subst (λ (bs : List ℕ). Fits bs (head_of e)) (sym (bits_head e nine)) a in
    fit_fields (head_fields e) (subst (Fits (bits_of (head_fields e))) (sym (values_head e)) f)

whole_ok : (e : Exposure) → Whole e → OkParts (parts e)
unfolding parts head_of
whole_ok e w =
    let f = subst AllFit (fields_are e) w.fit in
    let H = head_fields e in
    let S = each 64 e.spots in
    let M = each 32 e.matches in
    let D = each 32 e.directions in
    let a = fit_left (H ++ S ++ M) D f in
    let b = fit_left (H ++ S) M a in (
      head_fits e w.rotation (fit_left H S b),
      (
        fit_as (spot_numbers * (length e.spots / spot_numbers)) 64 e.spots (omega (arith, w.spots)) (fit_right H S b),
        (
          fit_as (2 * (length e.matches / 2)) 32 e.matches (omega (arith, w.matches)) (fit_right (H ++ S) M a),
          fit_as (3 * (length e.directions / 3)) 32 e.directions (omega (arith, w.directions)) (fit_right (H ++ S ++ M) D f),
        ),
      ),
    )

ok_whole : (e : Exposure) → OkParts (parts e) → Whole e
unfolding parts head_of
ok_whole e k =
    let nine = same_length 9 32 e.rotation (fits_drop head_rotation head_bits (head_of e) k.0) in
    record {
      rotation = nine;
      spots = omega (arith, same_length (spot_numbers * (length e.spots / spot_numbers)) 64 e.spots k.1.0);
      matches = omega (arith, same_length (2 * (length e.matches / 2)) 32 e.matches k.1.1.0);
      directions = omega (arith, same_length (3 * (length e.directions / 3)) 32 e.directions k.1.1.1);
      fit = subst AllFit (sym (fields_are e))
          (fit_append (head_fields e ++ each 64 e.spots ++ each 32 e.matches) (each 32 e.directions)
          (fit_append (head_fields e ++ each 64 e.spots) (each 32 e.matches)
          (fit_append (head_fields e) (each 64 e.spots) (fits_head e nine k.0) (each_fit (spot_numbers * (length e.spots / spot_numbers)) 64 e.spots k.1.0))
          (each_fit (2 * (length e.matches / 2)) 32 e.matches k.1.1.0))
          (each_fit (3 * (length e.directions / 3)) 32 e.directions k.1.1.1));
    }

made_parts : (e : Exposure) → made (parts e) ≡ e
unfolding parts head_of
made_parts e = refl

-- A list is its numbers one by one up to a place, and the rest.
unfoldable listed : List ℕ → ℕ → ℕ → List ℕ
listed h i zero = drop i h
listed h i (suc k) = place h i ∷ listed h (suc i) k

listed_is : (h : List ℕ) (i k : ℕ) → i + k ≤ length h → listed h i k ≡ drop i h
unfolding listed
listed_is h i zero n = refl
listed_is h i (suc k) n =
    let m : suc i + k ≤ length h = omega arith in
    ap (λ (l : List ℕ). place h i ∷ l) (listed_is h (suc i) k m) ∙ sym (drop-cons h i 0 (omega arith))

head_made : (h s m d : List ℕ) → Fits head_bits h → length s ≡ spot_numbers * place h head_spots → length m ≡ 2 * place h head_matches
    → length d ≡ 3 * place h head_directions → head_of (exposure h s m d) ≡ h
unfolding head_of listed
head_made h s m d f a b c =
    let x : length s / spot_numbers ≡ place h head_spots = omega arith in
    let y : length m / 2 ≡ place h head_matches = omega arith in
    let z : length d / 3 ≡ place h head_directions = omega arith in
    let w : listed h 0 head_rotation ≡ h = listed_is h 0 head_rotation (omega (arith, fits_length head_bits h f)) in
    cc

parts_made : (p : Parts) → OkParts p → parts (made p) ≡ p
unfolding parts
parts_made p k =
    let h = p.one in
    ap (λ (l : List ℕ). pair l p.two)
    (head_made h p.two.one p.two.two.one p.two.two.two k.0 (same_length (spot_numbers * place h head_spots) 64 p.two.one k.1.0)
    (same_length (2 * place h head_matches) 32 p.two.two.one k.1.1.0) (same_length (3 * place h head_directions) 32 p.two.two.two k.1.1.1))

-- ---- the record as a reader

narrow : (k b : ℕ) → b ≤ 64 → Narrow (replicate k b)
narrow zero b h = tt
narrow (suc k) b h = (h, narrow k b h)

abbrev read_d : List ℕ → List ℕ → Out (List ℕ)
read_d h = many (replicate (3 * place h head_directions) 32)

abbrev read_m : List ℕ → List ℕ → Out (Pair (List ℕ) (List ℕ))
read_m h l = onto (many (replicate (2 * place h head_matches) 32) l) (λ m. read_d h)

abbrev read_s : List ℕ → List ℕ → Out (Pair (List ℕ) (Pair (List ℕ) (List ℕ)))
read_s h l = onto (many (replicate (spot_numbers * place h head_spots) 64) l) (λ s. read_m h)

abbrev read_parts : List ℕ → Out Parts
read_parts l = onto (many head_bits l) read_s

abbrev pub parse : List ℕ → Out Exposure
parse l = mapped made (read_parts l)

d_faults : (h l : List ℕ) → Faults (read_d h l)
d_faults h l = many_faults (replicate (3 * place h head_directions) 32) l

m_faults : (h l : List ℕ) → Faults (read_m h l)
m_faults h l = onto_faults (many (replicate (2 * place h head_matches) 32) l) (λ m. read_d h) (many_faults (replicate (2 * place h head_matches) 32) l) (λ m r. d_faults h r)

s_faults : (h l : List ℕ) → Faults (read_s h l)
s_faults h l = onto_faults (many (replicate (spot_numbers * place h head_spots) 64) l) (λ s. read_m h) (many_faults (replicate (spot_numbers * place h head_spots) 64) l) (λ s r. m_faults h r)

parts_faults : (l : List ℕ) → Faults (read_parts l)
parts_faults l = onto_faults (many head_bits l) read_s (many_faults head_bits l) s_faults

pub parse_faults : (l : List ℕ) → Faults (parse l)
parse_faults l = mapped_faults made (read_parts l) (parts_faults l)

m_laws : (h : List ℕ) → Laws (read_m h) write_m (OkM h)
m_laws h =
    both_laws (many (replicate (2 * place h head_matches) 32)) (λ m. read_d h) wrote (λ m. wrote) (Fits (replicate (2 * place h head_matches) 32)) (λ m. OkD h)
    (many_laws (replicate (2 * place h head_matches) 32) (narrow (2 * place h head_matches) 32 (omega arith)))
    (λ m k. many_laws (replicate (3 * place h head_directions) 32) (narrow (3 * place h head_directions) 32 (omega arith))) (m_faults h)

s_laws : (h : List ℕ) → Laws (read_s h) write_s (OkS h)
s_laws h =
    both_laws (many (replicate (spot_numbers * place h head_spots) 64)) (λ s. read_m h) wrote (λ s. write_m) (Fits (replicate (spot_numbers * place h head_spots) 64)) (λ s. OkM h)
    (many_laws (replicate (spot_numbers * place h head_spots) 64) (narrow (spot_numbers * place h head_spots) 64 (omega arith))) (λ s k. m_laws h) (s_faults h)

parts_laws : Laws read_parts write_parts OkParts
parts_laws = both_laws (many head_bits) read_s wrote (λ h. write_s) (Fits head_bits) OkS (many_laws head_bits heads) (λ h k. s_laws h) parts_faults
  where
    heads : Narrow head_bits
    heads = (omega arith, (omega arith, (omega arith, (omega arith, (omega arith, (omega arith, (omega arith, (omega arith, (omega arith, narrow 9 32 (omega arith))))))))))

pub record_laws : Laws parse record_of Whole
record_laws = mapped_laws read_parts write_parts OkParts parts_laws made record_of Whole to of
  where
    to : (p : Parts) → OkParts p → Whole (made p) × (record_of (made p) ≡ write_parts p)
    to p k = (ok_whole (made p) (subst OkParts (sym (parts_made p k)) k), record_parts (made p) ∙ ap write_parts (parts_made p k))

    of : (e : Exposure) → Whole e → (p : Parts) × OkParts p × (made p ≡ e)
    of e w = (parts e, whole_ok e w, made_parts e)

-- ---- the same as the definition's

unfoldable pub finish : Out Exposure → Read
finish (got e r) = closed e r
finish (bad n) = refused n

finish_d : (h s m : List ℕ) (y : Out (List ℕ)) → then (as_values y) (λ d rest. closed (exposure h s m d) rest) ≡ finish (mapped made (paired h (paired s (paired m y))))
unfolding then as_values mapped paired finish
finish_d h s m (got d r) = refl
finish_d h s m (bad n) = refl

finish_m : (h s : List ℕ) (y : Out (List ℕ)) → then (as_values y) (λ m rest. after_matches h s m rest) ≡ finish (mapped made (paired h (paired s (onto y (λ m. read_d h)))))
unfolding then as_values mapped onto finish after_matches
finish_m h s (got m r) = ap (λ (x : Values). then x (λ d rest. closed (exposure h s m d) rest)) (run_many (3 * place h head_directions) 32 r) ∙ finish_d h s m (read_d h r)
finish_m h s (bad n) = refl

finish_s : (h : List ℕ) (y : Out (List ℕ)) → then (as_values y) (λ s rest. after_spots h s rest) ≡ finish (mapped made (paired h (onto y (λ s. read_m h))))
unfolding then as_values mapped onto finish after_spots
finish_s h (got s r) =
    ap (λ (x : Values). then x (λ m rest. after_matches h s m rest)) (run_many (2 * place h head_matches) 32 r) ∙ finish_m h s (many (replicate (2 * place h head_matches) 32) r)
finish_s h (bad n) = refl

finish_h : (y : Out (List ℕ)) → then (as_values y) (λ h rest. body h rest) ≡ finish (mapped made (onto y read_s))
unfolding then as_values mapped onto finish
finish_h (got h r) =
    body_is h r ∙ ap (λ (x : Values). then x (λ s rest. after_spots h s rest)) (run_many (spot_numbers * place h head_spots) 64 r) ∙ finish_s h (many (replicate (spot_numbers * place h head_spots) 64) r)
finish_h (bad n) = refl

pub reading_is : (l : List ℕ) → length l ≤ 65536 → reading l ≡ finish (parse l)
reading_is l h = by_head l h ∙ ap (λ (x : Values). then x (λ h rest. body h rest)) (numbers_many head_bits l) ∙ finish_h (many head_bits l)
