-- What a question for a worst count is answered with (docs/RULES.md, sections 2 and 6).
--
--   CountPromise m t k answer   the answer's figures are those of `count_of`
--   one_answer                  a lemma: two answers allowed for one question are equal
use Rattle.std.specs.Prelude.{◌≡◌, ℕ, Result, Ok, Err}
use Rattle.std.proofs.Common.{sym, ap, ◌∙◌, arith}
use Rattle.refusals.specs.declared.Refusal.{Refusal}
use Rattle.refusals.proofs.Verdicts.{number_tells, number_some}
use Rattle.counts.specs.Answer.{figures, count_of}

-- the promise of `worst_count`
pub record CountPromise (m t k : ℕ) (answer : Result ℕ Refusal) : Type 0 where
  pub figured : figures answer ≡ count_of m t k

-- an answer's figures tell the answer
figures_tell : (a b : Result ℕ Refusal) → figures a ≡ figures b → a ≡ b
figures_tell (Ok x) (Ok y) e = ap Ok (ap (λ (p : ℕ × ℕ). p.1) e)
figures_tell (Ok x) (Err r) e = absurd (omega (arith, number_some r, ap (λ (p : ℕ × ℕ). p.0) e))
figures_tell (Err r) (Ok y) e = absurd (omega (arith, number_some r, ap (λ (p : ℕ × ℕ). p.0) e))
figures_tell (Err r) (Err s) e = ap Err (number_tells r s (ap (λ (p : ℕ × ℕ). p.0) e))

-- two answers allowed for one input are equal
pub one_answer : (m t k : ℕ) (a b : Result ℕ Refusal) → CountPromise m t k a → CountPromise m t k b → a ≡ b
one_answer m t k a b p q = figures_tell a b (p.figured ∙ sym q.figured)
