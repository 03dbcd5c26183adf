-- `offer` takes the two unless one is marked.
use mathlib.Core.Path.{◌≡◌, sym, ◌∙◌}
use mathlib.Core.List.{List}
use Prim.Native.Nat.{ℕ, ◌+◌, ◌*◌}
use native.Mathlib.Omega.{arith}
use borrow.Author.Tests.{eq-eqb, ne_eqb}
use lib.ListN.{get_or, set}
use Rattle.matching.specs.Layout.{marks, taking, offered}
use Rattle.matching.proofs.assign.offer.Goals as goal

module _ (np marked t : ℕ) (w : List ℕ) (a b : ℕ) where
  both_free : get_or w a 0 ≡ 0 → get_or w (np + b) 0 ≡ 0
      → taking (t + 1) (set (set (set (set w a 1) (np + b) 1) (marked + 2 * t) a) (marked + 2 * t + 1) b) ≡ offered np marked (taking t w) a b
  unfolding offered
  both_free p q = rw (eq-eqb (get_or w a 0) 0 p, eq-eqb (get_or w (np + b) 0) 0 q)

  first_marked : (get_or w a 0 ≡ 0 → ⊥) → taking t w ≡ offered np marked (taking t w) a b
  unfolding offered
  first_marked p = rw (ne_eqb (get_or w a 0) 0 p)

  second_marked : get_or w a 0 ≡ 0 → (get_or w (np + b) 0 ≡ 0 → ⊥) → taking t w ≡ offered np marked (taking t w) a b
  unfolding offered
  second_marked p q = rw (eq-eqb (get_or w a 0) 0 p, ne_eqb (get_or w (np + b) 0) 0 q)

pub returns-then-number_at-eq0-2 : goal.returns-then-number_at-eq0-2
returns-then-number_at-eq0-2 c = (
  omega arith,
  rw (c.put-then-number_at-eq0-2-3.ensures, c.put-then-number_at-eq0-2-2.ensures, c.put-then-number_at-eq0-2.ensures, c.put.ensures, c.marks.ensures, c.marks-then-number_at-eq0-2.ensures)
      (both_free c.args.n.spots (marks c.args.n) c.args.t c.args.work.now c.args.spot c.args.prediction
      (sym c.number_at.ensures ∙ c.if-number_at-eq0.true) (sym c.number_at-then-number_at-eq0.ensures ∙ c.if-number_at-eq0-2.true)),
)

pub returns-else-number_at-eq0-2 : goal.returns-else-number_at-eq0-2
returns-else-number_at-eq0-2 c = (
  omega arith,
  second_marked c.args.n.spots (marks c.args.n) c.args.t c.args.work.now c.args.spot c.args.prediction
      (sym c.number_at.ensures ∙ c.if-number_at-eq0.true)
      (λ q. c.if-number_at-eq0-2.false (c.number_at-then-number_at-eq0.ensures ∙ q)),
)

pub returns-else-number_at-eq0 : goal.returns-else-number_at-eq0
returns-else-number_at-eq0 c = (
  omega arith,
  first_marked c.args.n.spots (marks c.args.n) c.args.t c.args.work.now c.args.spot c.args.prediction
      (λ q. c.if-number_at-eq0.false (c.number_at.ensures ∙ q)),
)
