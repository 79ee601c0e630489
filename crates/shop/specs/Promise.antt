-- What the calls over a lent list of messages promise, whatever numbers and lists they are given.
--
--   WithdrawalPromise station ms answer ms'   the answer's figures and the whole list at exit are the definition's, refusals included
--   ShopPromise S owners ms log budget answer ms' log'
--                      the reading, the whole list of records and the whole log at exit are the definition's, refusals included
--   one_withdrawal, one_run    lemmas: two results that a promise allows for one input are equal
use Rattle.std.specs.Prelude.{◌≡◌, List, true, ℕ, length, Result, Ok, Err}
use Rattle.std.proofs.Common.{sym, ap, ◌∙◌, arith}
use Rattle.refusals.proofs.Verdicts.{number_tells, number_some}
use Rattle.refusals.specs.declared.Refusal.{Refusal}
use Rattle.messages.specs.declared.Message.{Message}
use Rattle.phases.specs.declared.Shop.{Shop}
use Rattle.inputs.specs.Inputs.{run_verdict}
use Rattle.wire.specs.declared.Outcome.{Outcome}
use Rattle.wire.specs.Answer.{reading_of, reading_by, messages_by, log_by, ran_of}
use Rattle.wire.specs.Promise.{reading_tells}
use Rattle.withdrawals.specs.declared.Withdrawn.{Withdrawn}
use Rattle.withdrawals.specs.Answer.{figures, figures_of, list_of}

-- ms is the list as it came, ms' as it is left
pub record WithdrawalPromise (station : ℕ) (ms : List Message) (answer : Result Withdrawn Refusal) (ms' : List Message) : Type 0 where
  pub figured : figures answer ≡ figures_of station ms
  pub left : ms' ≡ list_of station ms

-- an answer's figures tell the answer
figures_tell : (a b : Result Withdrawn Refusal) → figures a ≡ figures b → a ≡ b
figures_tell (Ok v) (Ok w) e = ap (λ (p : ℕ × ℕ × ℕ). Ok (record { kept = p.1; withdrawn = p.2 })) e
figures_tell (Ok w) (Err r) e = absurd (omega (arith, number_some r, ap (λ (p : ℕ × ℕ × ℕ). p.0) e))
figures_tell (Err r) (Ok w) e = absurd (omega (arith, number_some r, ap (λ (p : ℕ × ℕ × ℕ). p.0) e))
figures_tell (Err r) (Err s) e = ap Err (number_tells r s (ap (λ (p : ℕ × ℕ × ℕ). p.0) e))

-- one result for each input
pub one_withdrawal : (station : ℕ) (ms : List Message) (a b : Result Withdrawn Refusal) (ms₁ ms₂ : List Message) → WithdrawalPromise station ms a ms₁ → WithdrawalPromise station ms b ms₂
    → (a ≡ b) × (ms₁ ≡ ms₂)
one_withdrawal station ms a b ms₁ ms₂ p q = (figures_tell a b (p.figured ∙ sym q.figured), p.left ∙ sym q.left)

-- each part by the verdict on the inputs, of the run that they make; the list comes whole
pub record ShopPromise (S : Shop) (owners : List ℕ) (ms : List Message) (log : List ℕ) (budget : ℕ) (answer : Result Outcome Refusal) (ms' : List Message) (log' : List ℕ) : Type 0 where
  pub read : reading_of answer ≡ reading_by (run_verdict S owners true ms budget (length log)) (ran_of S owners ms budget)
  pub left : ms' ≡ messages_by (run_verdict S owners true ms budget (length log)) (ran_of S owners ms budget) ms
  pub logged : log' ≡ log_by (run_verdict S owners true ms budget (length log)) (ran_of S owners ms budget) log

-- one result for each input
pub one_run : (S : Shop) (owners : List ℕ) (ms : List Message) (log : List ℕ) (budget : ℕ) (a b : Result Outcome Refusal) (ms₁ ms₂ : List Message) (log₁ log₂ : List ℕ)
    → ShopPromise S owners ms log budget a ms₁ log₁ → ShopPromise S owners ms log budget b ms₂ log₂ → (a ≡ b) × (ms₁ ≡ ms₂) × (log₁ ≡ log₂)
one_run S owners ms log budget a b ms₁ ms₂ log₁ log₂ p q = (reading_tells a b (p.read ∙ sym q.read), p.left ∙ sym q.left, p.logged ∙ sym q.logged)
