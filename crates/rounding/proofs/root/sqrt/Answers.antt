-- By proofs/Outer.antt.
use Rattle.std.proofs.Common.{◌≡◌, ℕ, ◌+◌, ◌*◌, ◌<◌, ◌≤◌, Bool, true, false, not, T, sym, ap, ◌∙◌, subst, arith}
use lib.Ieee.{Float, Format, fits, is_nan, to_bits, of_bits, nan_bits, ne, eq, lt, prec, low, ones, hid, top}
use Rattle.rounding.specs.Root.{root}
use Rattle.rounding.specs.Pattern.{Positive}
use Rattle.rounding.proofs.Outer.{root_nan, root_zero, root_below, made_nan, bits_pos, root_inf, reads, no_nan_pattern, short}
use Rattle.rounding.proofs.NanTest.{differs}
use Rattle.rounding.proofs.root.sqrt.Goals as goal

-- x is above zero, n its pattern, and i the infinity's
record Left (f : Format) (x : Float) (n i : ℕ) : Type 0 where
  held : T (fits f x)
  number : is_nan x ≡ false
  nonzero : eq x (of_bits f 0) ≡ false
  above : lt x (of_bits f 0) ≡ false
  pattern : n ≡ to_bits f x
  infinite : i ≡ ones f * hid f

-- from the tests' answers
left : (f : Format) (x : Float) (n i j : ℕ) (a z b : Bool) → fits f x ≡ true → n ≡ to_bits f x → i ≡ j → j ≡ ones f * hid f
    → a ≡ is_nan x → a ≡ false → z ≡ eq x (of_bits f 0) → z ≡ false → b ≡ lt x (of_bits f 0) → b ≡ false → Left f x n i
left f x n i j a z b h p q o an at zn zt bn bt = record {
  held = subst T (sym h) tt;
  number = sym an ∙ at;
  nonzero = sym zn ∙ zt;
  above = sym bn ∙ bt;
  pattern = p;
  infinite = q ∙ o;
}

module _ (f : Format) (x : Float) (n i : ℕ) (k : Left f x n i) where
  same : ne x x ≡ false
  same = differs x ∙ k.number

  -- what `root_bits` asks,
  meets : (d l : ℕ) → prec f ≡ d + 1 → low f ≡ l → n < i → Positive f n d l
  meets d l p q u =
      let z = bits_pos f x k.held same k.nonzero k.above in
      record { digits = p; least = q; above = omega (arith, k.pattern); under = omega (arith, k.infinite) }

  -- what it gives, read back,
  given : (r : ℕ) → n < i → r ≡ to_bits f (root f (of_bits f n)) → (r < 2 * top f) × T (not (nan_bits f r)) × (of_bits f r ≡ root f x)
  given r u e =
      let v : to_bits f x < ones f * hid f = omega (arith, k.pattern, k.infinite) in
      let g : r ≡ to_bits f (root f (of_bits f (to_bits f x))) = e ∙ ap (λ (m : ℕ). to_bits f (root f (of_bits f m))) k.pattern in
      (short f x k.held same k.nonzero k.above v r g, no_nan_pattern f x k.held same k.nonzero k.above v r g, reads f x k.held same k.nonzero k.above v r g)

  -- and the infinity
  endless : i ≤ n → x ≡ root f x
  endless h = root_inf f x k.held same k.nonzero k.above (omega (arith, k.pattern, k.infinite))

pub returns-then-is_nan : goal.returns-then-is_nan
returns-then-is_nan g c = root_nan _ _ (differs _ ∙ sym c.is_nan.ensures ∙ c.if-is_nan.true)

pub returns-then-is_zero : goal.returns-then-is_zero
returns-then-is_zero g c = root_zero _ _ (sym c.is_zero.ensures ∙ c.if-is_zero.true)

pub returns-then-is_below_zero : goal.returns-then-is_below_zero
returns-then-is_below_zero g c =
    c.not_a_number.ensures
    ∙ sym (made_nan g.F.Binary.format)
    ∙ root_below _ _ (sym c.is_below_zero.ensures ∙ c.if-is_below_zero.true)

pub root_bits-requires : goal.root_bits-requires
root_bits-requires g c =
    let k = left _ (g.F.Binary.value c.args.x) c.pattern-b.result _ _ _ _ _ c.pattern-b.ensures.held c.pattern-b.ensures.is c.INFINITE.ensures g.met.F.Binary.infinite_is
    c.is_nan.ensures c.if-is_nan.false c.is_zero.ensures c.if-is_zero.false c.is_below_zero.ensures c.if-is_below_zero.false in
    meets _ _ _ _ k g.F.Binary.DIGITS g.F.Binary.LEAST g.met.F.Binary.digits_is g.met.F.Binary.least_is c.if-b-INFINITE.true

pub read-requires : goal.read-requires
read-requires g c =
    let k = left _ (g.F.Binary.value c.args.x) c.pattern-b.result _ _ _ _ _ c.pattern-b.ensures.held c.pattern-b.ensures.is c.INFINITE.ensures g.met.F.Binary.infinite_is
    c.is_nan.ensures c.if-is_nan.false c.is_zero.ensures c.if-is_zero.false c.is_below_zero.ensures c.if-is_below_zero.false in
    let r = given _ _ _ _ k c.root_bits.result c.if-b-INFINITE.true c.root_bits.ensures in
    record { fits = r.0; no_nan = r.1 }

pub returns-then-b-INFINITE : goal.returns-then-b-INFINITE
returns-then-b-INFINITE g c =
    let k = left _ (g.F.Binary.value c.args.x) c.pattern-b.result _ _ _ _ _ c.pattern-b.ensures.held c.pattern-b.ensures.is c.INFINITE.ensures g.met.F.Binary.infinite_is
    c.is_nan.ensures c.if-is_nan.false c.is_zero.ensures c.if-is_zero.false c.is_below_zero.ensures c.if-is_below_zero.false in
    c.read.ensures ∙ (given _ _ _ _ k c.root_bits.result c.if-b-INFINITE.true c.root_bits.ensures).2

pub returns-else-b-INFINITE : goal.returns-else-b-INFINITE
returns-else-b-INFINITE g c =
    let k = left _ (g.F.Binary.value c.args.x) c.pattern-b.result _ _ _ _ _ c.pattern-b.ensures.held c.pattern-b.ensures.is c.INFINITE.ensures g.met.F.Binary.infinite_is
    c.is_nan.ensures c.if-is_nan.false c.is_zero.ensures c.if-is_zero.false c.is_below_zero.ensures c.if-is_below_zero.false in
    endless _ _ _ _ k c.if-b-INFINITE.false
