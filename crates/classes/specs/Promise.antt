-- What the class answer promises, whatever numbers it is given.
--
--   ClassPromise deadline α ref c answer   the answer's figures are the definition's
--   one_answer                             two answers that the promise allows for one input are equal
use Rattle.std.specs.Prelude.{◌≡◌, ℕ, ℤ, Result, Ok, Err}
use Rattle.std.proofs.Common.{sym, ap, ◌∙◌, arith}
use Rattle.refusals.specs.declared.Refusal.{Refusal}
use Rattle.refusals.proofs.Verdicts.{number_tells, number_some}
use Rattle.classes.specs.Answer.{figures, class_figures}

-- one equation with a definition
pub record ClassPromise (deadline offset reference width : ℕ) (answer : Result ℤ Refusal) : Type 0 where
  pub figured : figures answer ≡ class_figures deadline offset reference width

-- the figures tell the answer
figures_tell : (a b : Result ℤ Refusal) → figures a ≡ figures b → a ≡ b
figures_tell (Ok c) (Ok d) e = ap Ok (ap (λ (f : ℕ × ℤ). f.1) e)
figures_tell (Ok c) (Err r) e = absurd (omega (arith, number_some r, ap (λ (f : ℕ × ℤ). f.0) e))
figures_tell (Err r) (Ok c) e = absurd (omega (arith, number_some r, ap (λ (f : ℕ × ℤ). f.0) e))
figures_tell (Err r) (Err s) e = ap Err (number_tells r s (ap (λ (f : ℕ × ℤ). f.0) e))

-- one answer for each input
pub one_answer : (deadline offset reference width : ℕ) (a b : Result ℤ Refusal)
    → ClassPromise deadline offset reference width a → ClassPromise deadline offset reference width b → a ≡ b
one_answer deadline offset reference width a b p q = figures_tell a b (p.figured ∙ sym q.figured)
