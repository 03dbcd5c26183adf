-- The claims of specs/Claims.antt: what the layout writes is read as its values, what is read is what the layout says, and each refusal has exactly
-- its condition. Assumes nothing.
use mathlib.Core.Path.{◌≡◌, refl, sym, ap, ◌∙◌}
use mathlib.Core.Logic.{◌⊎◌, inl, inr}
use mathlib.Core.Bool.{Bool, true, false}
use mathlib.Core.List.{List, [], ◌∷◌, ◌++◌, append-nil}
use Prim.Native.Nat.{ℕ, ◌≤◌, ◌<◌}
use native.Mathlib.Omega.{arith}
use borrow.Author.Tests.{ltb-true, ltb-false}
use lib.Dec.{ltb}
use lib.ListN.{length, take}
use lib.Seq.{take-append_seam}
use Rattle.record.specs.Number.{written}
use Rattle.record.specs.Layout.{Exposure, Whole, record_of}
use Rattle.record.specs.Reading.{Read, refused, whole, closed, reading}
use Rattle.record.specs.Claims.{Octets, NumberReads, NumberMeans, NumberShort, NumberWrong, RecordReads, RecordMeans, RecordLong, RecordShort, RecordWrong, Followed, RecordFollowed}
use Rattle.record.proofs.RunSteps.{taken}
use Rattle.record.proofs.WholeSteps.{read_long}
use Rattle.record.proofs.Laws.{Out, got, bad, whole_read, short_of, wrong_to, wrong_of}
use Rattle.record.proofs.NumberLaws.{out_of, single, Below, single_laws, number_reads_at, number_means_at, un_short, un_wrong}
use Rattle.record.proofs.RecordLaws.{parse, record_laws, parse_faults, finish, reading_is}

-- ---- a number

pub number_reads : NumberReads
number_reads bits n rest h k = number_reads_at bits h n rest k

pub number_means : NumberMeans
number_means bits n k l o h e =
    let m = number_means_at bits h l n k o e in
    record {
      small = (taken bits l e).small;
      bytes = ap (take k) m.1 ∙ ap (λ (j : ℕ). take j (written n ++ m.0)) m.2 ∙ take-append_seam (written n) m.0;
      count = m.2;
    }

pub number_short : NumberShort
unfolding out_of
number_short bits l o h =
    (λ e. (single_laws bits h).short l o (ap (out_of l) e), λ b. un_short bits h l (short_of (single bits) written (Below bits) (single_laws bits h) l o b))

pub number_wrong : NumberWrong
unfolding out_of
number_wrong bits l o h = (
  λ e. wrong_to (single bits) written (Below bits) (single_laws bits h) l o (ap (out_of l) e),
  λ i s. un_wrong bits h l (wrong_of (single bits) written (Below bits) (single_laws bits h) l o i s),
)

-- ---- a record

-- What the outcome of the reading says of what was read.
closed_not : (e : Exposure) (r : List ℕ) (n : ℕ) → closed e r ≡ refused n → n ≡ 4
unfolding closed
closed_not e [] n f = let z : ◌≡◌ {A = ℕ} 0 1 = cc in absurd (omega arith)
closed_not e (b ∷ r) n f = cc

un_bad : (y : Out Exposure) (n : ℕ) → n < 4 → finish y ≡ refused n → y ≡ bad n
unfolding finish
un_bad (got e r) n h f = absurd (omega (arith, closed_not e r n f))
un_bad (bad m) n h f =
    let p : m ≡ n = cc in
    ap bad p

un_whole : (y : Out Exposure) (e : Exposure) → finish y ≡ whole e → y ≡ got e []
unfolding finish closed
un_whole (got e' []) e f =
    let p : e' ≡ e = cc in
    ap (λ (x : Exposure). got x []) p
un_whole (got e' (b ∷ r)) e f = let z : ◌≡◌ {A = ℕ} 0 1 = cc in absurd (omega arith)
un_whole (bad n) e f = let z : ◌≡◌ {A = ℕ} 0 1 = cc in absurd (omega arith)

pub record_reads : RecordReads
unfolding finish closed
record_reads e w h = reading_is (record_of e) h ∙ ap finish (whole_read parse record_of Whole record_laws (record_of e) e w refl)

-- A record that is read is not longer than the limit.
not_long : (l : List ℕ) (x : Read) → reading l ≡ x → (x ≡ refused 1 → ⊥) → length l ≤ 65536
not_long l x e f = by (ltb 65536 (length l)) refl
  where
    by : (t : Bool) → ltb 65536 (length l) ≡ t → length l ≤ 65536
    by true g = absurd (f (sym e ∙ read_long l (ltb-true 65536 (length l) g)))
    by false g = ltb-false 65536 (length l) g

pub record_means : RecordMeans
record_means l e o f =
    let small = not_long l (whole e) f (λ g. let z : ◌≡◌ {A = ℕ} 0 1 = cc in omega arith) in
    let m = record_laws.means l e [] o (un_whole (parse l) e (sym (reading_is l small) ∙ f)) in
    record { small = small; lawful = m.0; bytes = m.1 ∙ append-nil (record_of e) }

pub record_long : RecordLong
record_long l = (λ e. by e (ltb 65536 (length l)) refl, read_long l)
  where
    neither : (n : ℕ) → n ≡ 1 → (n ≡ 2) ⊎ (n ≡ 3) → ⊥
    neither n e (inl p) = omega arith
    neither n e (inr p) = omega arith

    by : reading l ≡ refused 1 → (t : Bool) → ltb 65536 (length l) ≡ t → 65536 < length l
    by e true g = ltb-true 65536 (length l) g
    by e false g = absurd (neither 1 refl (parse_faults l 1 (un_bad (parse l) 1 (omega arith) (sym (reading_is l (ltb-false 65536 (length l) g)) ∙ e))))

pub record_short : RecordShort
unfolding finish
record_short l o h = (
  λ e. record_laws.short l o (un_bad (parse l) 2 (omega arith) (sym (reading_is l h) ∙ e)),
  λ b. reading_is l h ∙ ap finish (short_of parse record_of Whole record_laws l o b),
)

pub record_wrong : RecordWrong
unfolding finish
record_wrong l o h = (
  λ e. wrong_to parse record_of Whole record_laws l o (un_bad (parse l) 3 (omega arith) (sym (reading_is l h) ∙ e)),
  λ i s. reading_is l h ∙ ap finish (wrong_of parse record_of Whole record_laws l o i s),
)

followed_of : (l : List ℕ) → Octets l → (y : Out Exposure) → parse l ≡ y → finish y ≡ refused 4 → Followed l
unfolding finish closed
followed_of l o (got e []) g f = let z : ◌≡◌ {A = ℕ} 0 1 = cc in absurd (omega arith)
followed_of l o (got e (b ∷ r)) g f =
    let m = record_laws.means l e (b ∷ r) o g in
    (e, b, r, m.0, m.1)
followed_of l o (bad n) g f =
    let p : n ≡ 4 = cc in
    absurd (neither n p (parse_faults l n g))
  where
    neither : (n : ℕ) → n ≡ 4 → (n ≡ 2) ⊎ (n ≡ 3) → ⊥
    neither n e (inl p) = omega arith
    neither n e (inr p) = omega arith

pub record_followed : RecordFollowed
unfolding finish closed
record_followed l o h = (
  λ e. followed_of l o (parse l) refl (sym (reading_is l h) ∙ e),
  λ f. reading_is l h ∙ ap (λ (t : List ℕ). finish (parse t)) f.4 ∙ ap finish (record_laws.reads f.0 (f.1 ∷ f.2) f.3),
)
