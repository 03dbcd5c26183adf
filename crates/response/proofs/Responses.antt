-- Which response a record has, refused or not, and that it is printed. Assumes nothing.
use mathlib.Core.Path.{◌≡◌, refl, sym, subst}
use mathlib.Core.Bool.{Bool, cond}
use mathlib.Core.List.{List}
use Prim.Native.Nat.{ℕ, min}
use borrow.Author.Tests.{lt-ltb}
use lib.ListN.{length}
use lib.Ieee.{Float}
use Rattle.entry.specs.Arguments.{Lent}
use Rattle.wcs_refine.specs.Returned.{Returned}
use Rattle.std.specs.Prelude.{Ok, Err}
use Rattle.refusal.specs.declared.Refusal.{Refusal}
use Rattle.refusal.specs.Number.{number_of}
use Rattle.refusal.proofs.Passing.{has_number}
use Rattle.printing.proofs.AnswerText.{above_zero}
use Rattle.record.specs.declared.Header.{Header}
use Rattle.record.specs.Header.{Intake, intake, handed, numbered, refused_header, read_record}
use Rattle.printing.specs.Text.{refused_text, answer_text, set_from}
use Rattle.response.specs.Response.{reported_by, answered, turned_away, response, response_to}
use Rattle.response.specs.Printed.{Printed}
use Rattle.response.specs.Lawful.{answer_to}

-- A text and the lists that a call hands back are its response.
pub answered_so : (i : Intake) (o : Returned) {told : Returned} {n : ℕ} {before after : List ℕ} → o ≡ told
    → (n ≡ min (length (answer_text o.result (reported_by o))) (length before)) × (after ≡ set_from 0 (answer_text o.result (reported_by o)) before)
    → Printed (answered i told) n before after i.spots i.matches i.directions o.lent
unfolding answered
answered_so i o {told} {n} {before} {after} e p =
    subst (λ (x : Returned). Printed (answered i x) n before after i.spots i.matches i.directions o.lent) e
    (record { count = p.0; out = p.1; read_spots = refl; read_matches = refl; read_directions = refl; worked_on = refl })

module _ (bytes : List ℕ) (ss : List Float) (ms : List ℕ) (ds : List Float) (lent : Lent) (s : List Float) (m : List ℕ) (d : List Float) where
  -- Refused: its line.
  pub turned_away_lem : (x : Refusal) {n : ℕ} {before after : List ℕ} → intake (handed (Err x)) s m d ≡ read_record bytes ss ms ds
      → (n ≡ min (length (refused_text (number_of x))) (length before)) × (after ≡ set_from 0 (refused_text (number_of x)) before)
      → Printed (response_to bytes ss ms ds lent) n before after s m d lent
  unfolding response_to response turned_away handed refused_header
  turned_away_lem x {n} {before} {after} read p =
      let i = intake (handed (Err x)) s m d in
      subst (λ (y : Intake). Printed (response y lent) n before after s m d lent) read
      (subst (λ (b : Bool). Printed (cond b (turned_away i lent) (answer_to i lent)) n before after s m d lent) (sym (lt-ltb 0 (number_of x) (above_zero (number_of x) (has_number x))))
      (record { count = p.0; out = p.1; read_spots = refl; read_matches = refl; read_directions = refl; worked_on = refl }))

  -- Not refused: the answer of its call.
  pub let_in : (h : Header) {n : ℕ} {before after : List ℕ} {left : Lent} → intake (handed (Ok h)) s m d ≡ read_record bytes ss ms ds
      → Printed (answer_to (intake (numbered 0 h) s m d) lent) n before after s m d left
      → Printed (response_to bytes ss ms ds lent) n before after s m d left
  unfolding response_to response handed
  let_in h {n} {before} {after} {left} read p = subst (λ (y : Intake). Printed (response y lent) n before after s m d left) read p
