-- What the bare search promises, whatever numbers and lists it is given (docs/RULES.md, sections 2 and 5).
-- The leaves are lent to be read only, so that they stay as they were needs no words.
--
--   SearchPromise m t leaves log answer log'   the answer's figures and the whole log at exit are the definition's
--   one_result                                 two results that the promise allows for one input are equal
use Rattle.std.specs.Prelude.{◌≡◌, List, ℕ, length, Result, Ok, Err}
use Rattle.std.proofs.Common.{sym, ap, ◌∙◌, arith}
use Rattle.refusals.specs.declared.Refusal.{Refusal}
use Rattle.refusals.proofs.Verdicts.{number_tells, number_some}
use Rattle.searches.specs.declared.Searched.{Searched}
use Rattle.searches.specs.Answer.{figures, search_figures, search_log}

-- each part an equation with a definition
pub record SearchPromise (m t : ℕ) (leaves log : List ℕ) (answer : Result Searched Refusal) (log' : List ℕ) : Type 0 where
  pub figured : figures answer ≡ search_figures m t leaves (length log)
  pub logged : log' ≡ search_log m t leaves log

-- the figures tell the answer
figures_tell : (a b : Result Searched Refusal) → figures a ≡ figures b → a ≡ b
figures_tell (Ok s) (Ok s') e = ap (λ (f : ℕ × ℕ × ℕ × ℕ). Ok (record { rows = f.1; silences = f.2; collisions = f.3 })) e
figures_tell (Ok s) (Err k) e = absurd (omega (arith, number_some k, ap (λ (f : ℕ × ℕ × ℕ × ℕ). f.0) e))
figures_tell (Err k) (Ok s) e = absurd (omega (arith, number_some k, ap (λ (f : ℕ × ℕ × ℕ × ℕ). f.0) e))
figures_tell (Err k) (Err k') e = ap Err (number_tells k k' (ap (λ (f : ℕ × ℕ × ℕ × ℕ). f.0) e))

-- one result for each input
pub one_result : (m t : ℕ) (leaves log : List ℕ) (a b : Result Searched Refusal) (log₁ log₂ : List ℕ)
    → SearchPromise m t leaves log a log₁ → SearchPromise m t leaves log b log₂ → (a ≡ b) × (log₁ ≡ log₂)
one_result m t leaves log a b log₁ log₂ p q = (figures_tell a b (p.figured ∙ sym q.figured), p.logged ∙ sym q.logged)
