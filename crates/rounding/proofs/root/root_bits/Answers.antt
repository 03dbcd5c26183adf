-- By `claim` of proofs/RootBits.antt.
use Rattle.std.proofs.Common.{◌≡◌, ℕ, ◌+◌, ◌-◌, ◌*◌, ◌/◌, ◌^◌, ◌<◌, ap, sym, subst, ◌∙◌, mod-eq_of_lt, arith}
use lib.Count.{count_leading_zeros}
use lib.Ieee.{Format}
use Rattle.rounding.specs.Pattern.{Positive}
use Rattle.rounding.proofs.RootBits.{claim}
use Rattle.rounding.proofs.root.root_bits.Goals as goal

-- a format's two numbers, as the code reads them
as_read : {f : Format} {b d e h l : ℕ} → h ≡ d → l ≡ e → Positive f b d e → Positive f b h l
as_read {f} {b} {d} {e} {h} {l} p q P = subst (λ (x : ℕ). Positive f b x l) (sym p) (subst (λ (x : ℕ). Positive f b d x) (sym q) P)

pub invariant_of-a : goal.invariant_of-a
invariant_of-a g c =
    let v = c.take_apart-digits in
    let k = claim _ c.args.b c.DIGITS-h.result c.LEAST-l.result (as_read c.DIGITS-h.ensures c.LEAST-l.ensures c.requires) v.result.digits v.result.place v.ensures.0 v.ensures.1 in
    record { high = k.2 }

pub overflow_mul-root : goal.overflow_mul-root
overflow_mul-root g c =
    let v = c.take_apart-digits in
    let w = c.whole_root-root in
    let k = claim _ c.args.b c.DIGITS-h.result c.LEAST-l.result (as_read c.DIGITS-h.ensures c.LEAST-l.ensures c.requires) v.result.digits v.result.place v.ensures.0 v.ensures.1 in
    omega (arith, (k.3 w.result.root w.result.rest c.some-s.result (rw (← c.DIGITS-h.ensures) at w.ensures) w.result.greatest c.some-s.ensures).0)

pub overflow_add-root : goal.overflow_add-root
overflow_add-root g c =
    let v = c.take_apart-digits in
    let w = c.whole_root-root in
    let k = claim _ c.args.b c.DIGITS-h.result c.LEAST-l.result (as_read c.DIGITS-h.ensures c.LEAST-l.ensures c.requires) v.result.digits v.result.place v.ensures.0 v.ensures.1 in
    omega (arith, (k.3 w.result.root w.result.rest c.some-s.result (rw (← c.DIGITS-h.ensures) at w.ensures) w.result.greatest c.some-s.ensures).0, c.some-s.ensures)

pub nearest-m-requires : goal.nearest-m-requires
nearest-m-requires g c =
    let v = c.take_apart-digits in
    let w = c.whole_root-root in
    let k = claim _ c.args.b c.DIGITS-h.result c.LEAST-l.result (as_read c.DIGITS-h.ensures c.LEAST-l.ensures c.requires) v.result.digits v.result.place v.ensures.0 v.ensures.1 in
    omega (arith, (k.3 w.result.root w.result.rest c.some-s.result (rw (← c.DIGITS-h.ensures) at w.ensures) w.result.greatest c.some-s.ensures).0, c.some-s.ensures)

pub overflow_add-result-3 : goal.overflow_add-result-3
overflow_add-result-3 g c =
    let v = c.take_apart-digits in
    let w = c.whole_root-root in
    let k = claim _ c.args.b c.DIGITS-h.result c.LEAST-l.result (as_read c.DIGITS-h.ensures c.LEAST-l.ensures c.requires) v.result.digits v.result.place v.ensures.0 v.ensures.1 in
    let t = k.3 w.result.root w.result.rest c.some-s.result (rw (← c.DIGITS-h.ensures) at w.ensures) w.result.greatest c.some-s.ensures in
    let u : ((v.result.place + c.LEAST-l.result - count_leading_zeros 64 v.result.digits + 1) / 2 + 31 - c.DIGITS-h.result) * 2 ^ c.DIGITS-h.result < 2 ^ 64 = omega (arith, t.2) in
    omega (arith, t.1, t.2, c.nearest-m.ensures, mod-eq_of_lt u)

pub returns : goal.returns
returns g c =
    let v = c.take_apart-digits in
    let w = c.whole_root-root in
    let k = claim _ c.args.b c.DIGITS-h.result c.LEAST-l.result (as_read c.DIGITS-h.ensures c.LEAST-l.ensures c.requires) v.result.digits v.result.place v.ensures.0 v.ensures.1 in
    let t = k.3 w.result.root w.result.rest c.some-s.result (rw (← c.DIGITS-h.ensures) at w.ensures) w.result.greatest c.some-s.ensures in
    ap (λ (x : ℕ). x + c.nearest-m.result) (mod-eq_of_lt (omega (arith, t.2)))
    ∙ ap (λ (x : ℕ). ((v.result.place + c.LEAST-l.result - count_leading_zeros 64 v.result.digits + 1) / 2 + 31 - c.DIGITS-h.result) * 2 ^ c.DIGITS-h.result + x) c.nearest-m.ensures
    ∙ t.3
