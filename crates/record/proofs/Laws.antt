-- A reader and the things it reads, once for numbers, lists of numbers and records: four laws, what follows from them, and that they hold of one
-- reader after another. Assumes nothing.
use mathlib.Core.Path.{◌≡◌, refl, sym, ap, subst, ◌∙◌}
use mathlib.Core.Logic.{◌⊎◌, inl, inr}
use mathlib.Core.List.{List, [], ◌∷◌, ◌++◌, append_assoc, append-nil}
use Prim.Native.Nat.{ℕ, zero, suc, ◌+◌, ◌-◌, ◌≤◌, ◌<◌}
use native.Mathlib.Omega.{arith}
use lib.ListN.{length, take, drop, get_or, take-append-drop, length-append}
use lib.Seq.{take-suc, take-length, take-take, take-append-add, length-take-le}
use Rattle.record.specs.Claims.{Octets, Begins, SpoiledAt}

-- What was read and the bytes after it, or a refusal.
pub data Out (A : Type 0) : Type 0 where
  got : A → List ℕ → Out A
  bad : ℕ → Out A

-- The bytes of some lawful thing.
abbrev pub Bytes : {A : Type 0} → (A → List ℕ) → (A → Type 0) → List ℕ → Type 0
Bytes {A = A} write Ok l = (a : A) × Ok a × (l ≡ write a)

abbrev pub Faults : {A : Type 0} → Out A → Type 0
Faults y = (n : ℕ) → y ≡ bad n → (n ≡ 2) ⊎ (n ≡ 3)

pub record Laws {A : Type 0} (X : List ℕ → Out A) (write : A → List ℕ) (Ok : A → Type 0) : Type 0 where
  pub some : A
  pub some_ok : Ok some
  pub reads : (a : A) (r : List ℕ) → Ok a → X (write a ++ r) ≡ got a r
  pub means : (l : List ℕ) (a : A) (r : List ℕ) → Octets l → X l ≡ got a r → Ok a × (l ≡ write a ++ r)
  pub short : (l : List ℕ) → Octets l → X l ≡ bad 2 → Begins (Bytes write Ok) l
  pub stuck : (l r : List ℕ) → Octets l → X l ≡ bad 3 → X (l ++ r) ≡ bad 3
  pub faults : (l : List ℕ) → Faults (X l)

-- ---- bytes

pub octets_take : (k : ℕ) (l : List ℕ) → Octets l → Octets (take k l)
octets_take zero l o = tt
octets_take (suc k) [] o = tt
octets_take (suc k) (b ∷ l) o = (o.0, octets_take k l o.1)

pub octets_after : (s r : List ℕ) → Octets (s ++ r) → Octets r
octets_after [] r o = o
octets_after (b ∷ s) r o = octets_after s r o.1

-- ---- what follows from the laws

got_bad : {A : Type 0} {a : A} {r : List ℕ} {n : ℕ} → got a r ≡ bad n → ⊥
got_bad e = let z : ◌≡◌ {A = ℕ} 0 1 = cc in omega arith

module _ {A : Type 0} (X : List ℕ → Out A) (write : A → List ℕ) (Ok : A → Type 0) (x : Laws X write Ok) where
  -- what is read stays read, whatever follows
  pub stays : (l : List ℕ) (a : A) (r more : List ℕ) → Octets l → X l ≡ got a r → X (l ++ more) ≡ got a (r ++ more)
  stays l a r more o e =
      let m = x.means l a r o e in
      ap (λ (t : List ℕ). X (t ++ more)) m.1 ∙ ap X (append_assoc (write a) r more) ∙ x.reads a (r ++ more) m.0

  pub whole_read : (l : List ℕ) (a : A) → Ok a → l ≡ write a → X l ≡ got a []
  whole_read l a o e = ap X (e ∙ sym (append-nil (write a))) ∙ x.reads a [] o

  pub short_of : (l : List ℕ) → Octets l → Begins (Bytes write Ok) l → X l ≡ bad 2
  short_of l o h = by (X l) refl
    where
      all : X (l ++ h.0 ∷ h.1) ≡ got h.2.0 []
      all = whole_read (l ++ h.0 ∷ h.1) h.2.0 h.2.1 h.2.2

      none : (r : List ℕ) → [] ≡ r ++ h.0 ∷ h.1 → ⊥
      none r e = let p : 0 ≡ length r + length (h.0 ∷ h.1) = ap length e ∙ length-append r (h.0 ∷ h.1) in omega arith

      fault : (n : ℕ) → X l ≡ bad n → (n ≡ 2) ⊎ (n ≡ 3) → X l ≡ bad 2
      fault n e (inl p) = e ∙ ap bad p
      fault n e (inr p) = absurd (got_bad (sym all ∙ x.stuck l (h.0 ∷ h.1) o (e ∙ ap bad p)))

      by : (y : Out A) → X l ≡ y → X l ≡ bad 2
      by (got a r) e =
          let q : got h.2.0 [] ≡ got a (r ++ h.0 ∷ h.1) = sym all ∙ stays l a r (h.0 ∷ h.1) o e in
          let s : [] ≡ r ++ h.0 ∷ h.1 = cc in
          absurd (none r s)
      by (bad n) e = fault n e (x.faults l n e)

  never_first : X [] ≡ bad 3 → ⊥
  never_first e =
      let q = x.stuck [] (write x.some) tt e in
      got_bad (sym (whole_read (write x.some) x.some x.some_ok refl) ∙ q)

  -- The first place after which there is no lawful ending.
  pub record Turn (l : List ℕ) (j : ℕ) : Type 0 where
    pub at : ℕ
    pub below : at < j
    pub before : X (take at l) ≡ bad 2
    pub after : X (take (suc at) l) ≡ bad 3

  turn : (l : List ℕ) → Octets l → (j : ℕ) → j ≤ length l → X (take j l) ≡ bad 3 → Turn l j
  turn l o zero h e = absurd (never_first e)
  turn l o (suc j) h e = by (X (take j l)) refl (turn l o j (omega arith))
    where
      fault : (n : ℕ) → X (take j l) ≡ bad n → (n ≡ 2) ⊎ (n ≡ 3) → (X (take j l) ≡ bad 3 → Turn l j) → Turn l (suc j)
      fault n f (inl p) go = record { at = j; below = omega arith; before = f ∙ ap bad p; after = e }
      fault n f (inr p) go =
          let t = go (f ∙ ap bad p) in
          record { at = t.at; below = omega (arith, t.below); before = t.before; after = t.after }

      by : (y : Out A) → X (take j l) ≡ y → (X (take j l) ≡ bad 3 → Turn l j) → Turn l (suc j)
      by (got a r) f go =
          let s = stays (take j l) a r (get_or l j 0 ∷ []) (octets_take j l o) f in
          absurd (got_bad (sym s ∙ ap X (sym (take-suc l j 0 h)) ∙ e))
      by (bad n) f go = fault n f (x.faults (take j l) n f) go

  pub wrong_to : (l : List ℕ) → Octets l → X l ≡ bad 3 → (i : ℕ) × SpoiledAt (Bytes write Ok) l i
  wrong_to l o e =
      let t = turn l o (length l) (omega arith) (ap X (take-length l) ∙ e) in (
        t.at,
        record {
          inside = t.below;
          before = x.short (take t.at l) (octets_take t.at l o) t.before;
          none = λ rest b.
              got_bad (sym (whole_read (take (suc t.at) l ++ rest) b.0 b.1 b.2) ∙ x.stuck (take (suc t.at) l) rest (octets_take (suc t.at) l o) t.after);
        },
      )

  pub wrong_of : (l : List ℕ) → Octets l → (i : ℕ) → SpoiledAt (Bytes write Ok) l i → X l ≡ bad 3
  wrong_of l o i s = ap X (sym (take-append-drop (suc i) l)) ∙ x.stuck (take (suc i) l) (drop (suc i) l) oct (by (X (take (suc i) l)) refl)
    where
      oct : Octets (take (suc i) l)
      oct = octets_take (suc i) l o

      short : X (take i l) ≡ bad 2
      short = short_of (take i l) (octets_take i l o) s.before

      -- lawful bytes at the front of those up to place i are all of them, or stand before it already
      front : (a : A) (r : List ℕ) → Ok a → take (suc i) l ≡ write a ++ r → ⊥
      front a [] ok e = s.none [] (a, ok, append-nil (take (suc i) l) ∙ e ∙ append-nil (write a))
      front a (b ∷ r) ok e =
          let n : suc i ≡ length (write a) + length (b ∷ r) = sym (length-take-le (suc i) l s.inside) ∙ ap length e ∙ length-append (write a) (b ∷ r) in
          let k : length (write a) + (i - length (write a)) ≡ i = omega arith in
          let p : take i l ≡ write a ++ take (i - length (write a)) (b ∷ r) =
          sym (take-take i (suc i) l (omega arith)) ∙ ap (take i) e ∙ ap (λ (j : ℕ). take j (write a ++ b ∷ r)) (sym k)
          ∙ take-append-add (write a) (b ∷ r) (i - length (write a)) in
          got_bad (sym (x.reads a (take (i - length (write a)) (b ∷ r)) ok) ∙ ap X (sym p) ∙ short)

      fault : (n : ℕ) → X (take (suc i) l) ≡ bad n → (n ≡ 2) ⊎ (n ≡ 3) → X (take (suc i) l) ≡ bad 3
      fault n e (inl p) =
          let b = x.short (take (suc i) l) oct (e ∙ ap bad p) in
          absurd (s.none (b.0 ∷ b.1) b.2)
      fault n e (inr p) = e ∙ ap bad p

      by : (y : Out A) → X (take (suc i) l) ≡ y → X (take (suc i) l) ≡ bad 3
      by (got a r) e =
          let m = x.means (take (suc i) l) a r oct e in
          absurd (front a r m.0 m.1)
      by (bad n) e = fault n e (x.faults (take (suc i) l) n e)

-- ---- one reader after another

pub record Pair (A B : Type 0) : Type 0 where
  pub one : A
  pub two : B

abbrev pub pair : {A B : Type 0} → A → B → Pair A B
pair a b = record { one = a; two = b }

unfoldable pub paired : {A B : Type 0} → A → Out B → Out (Pair A B)
paired a (got b r) = got (pair a b) r
paired a (bad n) = bad n

unfoldable pub onto : {A B : Type 0} → Out A → (A → List ℕ → Out B) → Out (Pair A B)
unfolding paired
onto (got a r) F = paired a (F a r)
onto (bad n) F = bad n

unfoldable pub mapped : {A B : Type 0} → (A → B) → Out A → Out B
mapped f (got a r) = got (f a) r
mapped f (bad n) = bad n

pub onto_faults : {A B : Type 0} (y : Out A) (F : A → List ℕ → Out B) → Faults y → ((a : A) (l : List ℕ) → Faults (F a l)) → Faults (onto y F)
unfolding onto
onto_faults {A} {B} (got a r) F h k n e = by (F a r) (k a r n) e
  where
    by : (z : Out B) → (z ≡ bad n → (n ≡ 2) ⊎ (n ≡ 3)) → paired a z ≡ bad n → (n ≡ 2) ⊎ (n ≡ 3)
    by (got b u) go e = absurd (got_bad e)
    by (bad m) go e =
        let p : m ≡ n = cc in
        go (ap bad p)
onto_faults (bad m) F h k n e =
    let p : m ≡ n = cc in
    h n (ap bad p)

module _ {A B : Type 0} (X : List ℕ → Out A) (F : A → List ℕ → Out B) (wx : A → List ℕ) (wf : A → B → List ℕ) (OkX : A → Type 0) (OkF : A → B → Type 0)
    (x : Laws X wx OkX) (f : (a : A) → OkX a → Laws (F a) (wf a) (OkF a)) where
  abbrev pub both : List ℕ → Out (Pair A B)
  both l = onto (X l) F

  abbrev pub write_both : Pair A B → List ℕ
  write_both p = wx p.one ++ wf p.one p.two

  abbrev pub Ok_both : Pair A B → Type 0
  Ok_both p = OkX p.one × OkF p.one p.two

  both_reads : (p : Pair A B) (r : List ℕ) → Ok_both p → both (write_both p ++ r) ≡ got p r
  unfolding onto
  both_reads p r ok =
      ap both (append_assoc (wx p.one) (wf p.one p.two) r)
      ∙ ap (λ (y : Out A). onto y F) (x.reads p.one (wf p.one p.two ++ r) ok.0)
      ∙ ap (paired p.one) ((f p.one ok.0).reads p.two r ok.1)

  both_means : (l : List ℕ) (p : Pair A B) (r : List ℕ) → Octets l → both l ≡ got p r → Ok_both p × (l ≡ write_both p ++ r)
  unfolding onto
  both_means l p r o e = by (X l) refl e
    where
      inner : (a : A) (t : List ℕ) → OkX a → l ≡ wx a ++ t → (y : Out B) → F a t ≡ y → paired a y ≡ got p r → Ok_both p × (l ≡ write_both p ++ r)
      inner a t ok g (got b u) h e =
          let ab : pair a b ≡ p = cc in
          let ur : u ≡ r = cc in
          let m = (f a ok).means t b u (octets_after (wx a) t (subst Octets g o)) h in (
            subst Ok_both ab (ok, m.0),
            g ∙ ap (λ (z : List ℕ). wx a ++ z) m.1 ∙ sym (append_assoc (wx a) (wf a b) u) ∙ ap (λ (z : List ℕ). write_both (pair a b) ++ z) ur
                ∙ ap (λ (z : Pair A B). write_both z ++ r) ab,
          )
      inner a t ok g (bad n) h e = absurd (got_bad (sym e))

      by : (y : Out A) → X l ≡ y → onto y F ≡ got p r → Ok_both p × (l ≡ write_both p ++ r)
      by (got a t) g e =
          let m = x.means l a t o g in
          inner a t m.0 m.1 (F a t) refl e
      by (bad n) g e = absurd (got_bad (sym e))

  both_short : (l : List ℕ) → Octets l → both l ≡ bad 2 → Begins (Bytes write_both Ok_both) l
  unfolding onto
  both_short l o e = by (X l) refl e
    where
      inner : (a : A) (t : List ℕ) → OkX a → l ≡ wx a ++ t → (y : Out B) → F a t ≡ y → paired a y ≡ bad 2 → Begins (Bytes write_both Ok_both) l
      inner a t ok g (got b u) h e = absurd (got_bad e)
      inner a t ok g (bad n) h e =
          let two : n ≡ 2 = cc in
          let s = (f a ok).short t (octets_after (wx a) t (subst Octets g o)) (h ∙ ap bad two) in (
            s.0,
            s.1,
            (
              pair a s.2.0,
              (ok, s.2.1),
              ap (λ (z : List ℕ). z ++ s.0 ∷ s.1) g ∙ append_assoc (wx a) t (s.0 ∷ s.1) ∙ ap (λ (z : List ℕ). wx a ++ z) s.2.2,
            ),
          )

      by : (y : Out A) → X l ≡ y → onto y F ≡ bad 2 → Begins (Bytes write_both Ok_both) l
      by (got a t) g e =
          let m = x.means l a t o g in
          inner a t m.0 m.1 (F a t) refl e
      by (bad n) g e =
          let two : n ≡ 2 = cc in
          let s = x.short l o (g ∙ ap bad two) in
          let k = f s.2.0 s.2.1 in (
            s.0,
            s.1 ++ wf s.2.0 k.some,
            (
              pair s.2.0 k.some,
              (s.2.1, k.some_ok),
              sym (append_assoc l (s.0 ∷ s.1) (wf s.2.0 k.some)) ∙ ap (λ (z : List ℕ). z ++ wf s.2.0 k.some) s.2.2,
            ),
          )

  both_stuck : (l r : List ℕ) → Octets l → both l ≡ bad 3 → both (l ++ r) ≡ bad 3
  unfolding onto
  both_stuck l r o e = by (X l) refl e
    where
      inner : (a : A) (t : List ℕ) → OkX a → l ≡ wx a ++ t → (y : Out B) → F a t ≡ y → paired a y ≡ bad 3 → F a (t ++ r) ≡ bad 3
      inner a t ok g (got b u) h e = absurd (got_bad e)
      inner a t ok g (bad n) h e =
          let three : n ≡ 3 = cc in
          (f a ok).stuck t r (octets_after (wx a) t (subst Octets g o)) (h ∙ ap bad three)

      by : (y : Out A) → X l ≡ y → onto y F ≡ bad 3 → both (l ++ r) ≡ bad 3
      by (got a t) g e =
          let m = x.means l a t o g in
          ap (λ (y : Out A). onto y F) (stays X wx OkX x l a t r o g) ∙ ap (paired a) (inner a t m.0 m.1 (F a t) refl e)
      by (bad n) g e =
          let three : n ≡ 3 = cc in
          ap (λ (y : Out A). onto y F) (x.stuck l r o (g ∙ ap bad three))

  pub both_laws : ((l : List ℕ) → Faults (both l)) → Laws both write_both Ok_both
  both_laws faults = record {
    some = pair x.some (f x.some x.some_ok).some;
    some_ok = (x.some_ok, (f x.some x.some_ok).some_ok);
    reads = both_reads;
    means = both_means;
    short = both_short;
    stuck = both_stuck;
    faults = faults;
  }

-- ---- the same things under other names

pub mapped_faults : {A B : Type 0} (f : A → B) (y : Out A) → Faults y → Faults (mapped f y)
unfolding mapped
mapped_faults f (got a r) h = λ n e. absurd (got_bad e)
mapped_faults f (bad m) h = λ n e.
    let p : m ≡ n = cc in
    h n (ap bad p)

module _ {A B : Type 0} (X : List ℕ → Out A) (wx : A → List ℕ) (OkX : A → Type 0) (x : Laws X wx OkX) (f : A → B) (write : B → List ℕ) (Ok : B → Type 0)
    (to : (a : A) → OkX a → Ok (f a) × (write (f a) ≡ wx a)) (of : (b : B) → Ok b → (a : A) × OkX a × (f a ≡ b)) where
  mapped_reads : (b : B) (r : List ℕ) → Ok b → mapped f (X (write b ++ r)) ≡ got b r
  unfolding mapped
  mapped_reads b r ok =
      let a = of b ok in
      let w : write b ≡ wx a.0 = ap write (sym a.2) ∙ (to a.0 a.1).1 in
      ap (λ (l : List ℕ). mapped f (X (l ++ r))) w ∙ ap (mapped f) (x.reads a.0 r a.1) ∙ ap (λ (z : B). got z r) a.2

  mapped_means : (l : List ℕ) (b : B) (r : List ℕ) → Octets l → mapped f (X l) ≡ got b r → Ok b × (l ≡ write b ++ r)
  unfolding mapped
  mapped_means l b r o e = by (X l) refl e
    where
      by : (y : Out A) → X l ≡ y → mapped f y ≡ got b r → Ok b × (l ≡ write b ++ r)
      by (got a t) g e =
          let p : f a ≡ b = cc in
          let q : t ≡ r = cc in
          let m = x.means l a t o g in
          let k = to a m.0 in
          (subst Ok p k.0, m.1 ∙ ap (λ (z : List ℕ). z ++ t) (sym k.1) ∙ ap (λ (z : B). write z ++ t) p ∙ ap (λ (z : List ℕ). write b ++ z) q)
      by (bad n) g e = absurd (got_bad (sym e))

  un_bad : (l : List ℕ) (n : ℕ) → mapped f (X l) ≡ bad n → X l ≡ bad n
  unfolding mapped
  un_bad l n e = by (X l) refl e
    where
      by : (y : Out A) → X l ≡ y → mapped f y ≡ bad n → X l ≡ bad n
      by (got a t) g e = absurd (got_bad e)
      by (bad m) g e =
          let p : m ≡ n = cc in
          g ∙ ap bad p

  pub mapped_laws : Laws (λ l. mapped f (X l)) write Ok
  unfolding mapped
  mapped_laws = record {
    some = f x.some;
    some_ok = (to x.some x.some_ok).0;
    reads = mapped_reads;
    means = mapped_means;
    short = λ l o e.
        let s = x.short l o (un_bad l 2 e) in
        let k = to s.2.0 s.2.1 in
        (s.0, s.1, (f s.2.0, k.0, s.2.2 ∙ sym k.1));
    stuck = λ l r o e. ap (mapped f) (x.stuck l r o (un_bad l 3 e));
    faults = λ l n e. x.faults l n (un_bad l n e);
  }
