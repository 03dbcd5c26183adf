use Rattle.std.proofs.Common.{ℕ, ◌+◌, ◌/◌, ◌^◌, ◌≤◌, sym, subst, arith}
use native.Mathlib.Nat.{div-div-eq-div-mul}
use Rattle.rounding.specs.Root.{whole_root}
use Rattle.rounding.proofs.Newton.{range}
use Rattle.rounding.proofs.whole_root.single.Goals as goal

abbrev Near : ℕ → ℕ → Type 0
Near n s = (whole_root n ≤ s) × (s ≤ whole_root n + 1)

pub nearer-requires : goal.nearer-requires
nearer-requires c =
    let s = c.half in
    let n = subst (λ (x : ℕ). Near x s.result) (sym (div-div-eq-div-mul c.args.a.word (2 ^ 14) (4 ^ 9))) s.ensures in
    let r = range (c.args.a.word / 2 ^ 32) 15 16 s.result (omega (arith, c.args.a.high)) (omega (arith, c.well_formed)) s.ensures in
    (n.0, n.1, omega arith, omega arith, omega arith, omega arith)
