-- What the exported calls promise: that of the calls that they make, with the answer as numbers.
--
--   SearchExported ..       the numbers and the whole log at exit are the definition's
--   CountExported ..        the numbers are the definition's
--   PlacementExported ..    the number is the definition's; the list is as it was where refused, else a costliest placement
--   ClassExported ..        the numbers are the definition's
--   RunExported ..          the numbers, the slots of sending and the whole log at exit are the definition's
--   ShopExported ..         the numbers, the whole list of records and the whole log at exit are the definition's
--   WithdrawalExported ..   the numbers and the whole list at exit are the definition's
--   one_search .. one_withdrawal    lemmas: two results that a promise allows for one input are equal; of a placement, the number, and the list after a refusal
use Rattle.std.specs.Prelude.{◌≡◌, true, List, ℕ, ℤ, length}
use Rattle.std.proofs.Common.{sym, ap, ◌∙◌}
use Rattle.refusals.specs.Numbers.{granted, verdict_number}
use Rattle.trees.specs.Shape.{height_of}
use Rattle.searches.specs.Answer.{search_figures, search_log}
use Rattle.counts.specs.Answer.{count_of}
use Rattle.placements.specs.Answer.{placement_verdict, Costly}
use Rattle.classes.specs.Answer.{class_figures}
use Rattle.messages.specs.declared.Message.{Message}
use Rattle.messages.specs.Lists.{listed}
use Rattle.phases.specs.declared.Shop.{Shop}
use Rattle.inputs.specs.Inputs.{same_lengths, run_verdict}
use Rattle.wire.specs.Answer.{Reading, reading_by, messages_by, marks_by, log_by, ran_of}
use Rattle.withdrawals.specs.Answer.{figures_of, list_of}
use Rattle.figures.specs.declared.SearchNumbers.{SearchNumbers}
use Rattle.figures.specs.declared.CountNumbers.{CountNumbers}
use Rattle.figures.specs.declared.ClassNumbers.{ClassNumbers}
use Rattle.figures.specs.declared.RunNumbers.{RunNumbers}
use Rattle.figures.specs.declared.WithdrawalNumbers.{WithdrawalNumbers}
use Rattle.figures.specs.Numbers.{search_numbers, count_numbers, class_numbers, withdrawal_numbers, run_reading}

pub record SearchExported (m t : ℕ) (leaves log : List ℕ) (r : SearchNumbers) (log' : List ℕ) : Type 0 where
  pub figured : search_numbers r ≡ search_figures m t leaves (length log)
  pub logged : log' ≡ search_log m t leaves log

pub record CountExported (m t k : ℕ) (r : CountNumbers) : Type 0 where
  pub figured : count_numbers r ≡ count_of m t k

pub record PlacementExported (m t k : ℕ) (before : List ℕ) (r : ℕ) (after : List ℕ) : Type 0 where
  pub numbered : r ≡ verdict_number (placement_verdict m t k (length before))
  pub kept : (placement_verdict m t k (length before) ≡ granted → ⊥) → after ≡ before
  pub placed : placement_verdict m t k (length before) ≡ granted → Costly m (height_of m t) k after

pub record ClassExported (deadline offset reference width : ℕ) (r : ClassNumbers) : Type 0 where
  pub figured : class_numbers r ≡ class_figures deadline offset reference width

pub record RunExported (S : Shop) (owners stations arrivals relatives lengths sent log : List ℕ) (budget : ℕ) (r : RunNumbers) (sent' log' : List ℕ) : Type 0 where
  pub read : run_reading r ≡ reading_by
      (run_verdict S owners (same_lengths stations arrivals relatives lengths sent) (listed stations arrivals relatives lengths sent) budget (length log))
      (ran_of S owners (listed stations arrivals relatives lengths sent) budget)
  pub marked : sent' ≡ marks_by
      (run_verdict S owners (same_lengths stations arrivals relatives lengths sent) (listed stations arrivals relatives lengths sent) budget (length log))
      (ran_of S owners (listed stations arrivals relatives lengths sent) budget) sent
  pub logged : log' ≡ log_by
      (run_verdict S owners (same_lengths stations arrivals relatives lengths sent) (listed stations arrivals relatives lengths sent) budget (length log))
      (ran_of S owners (listed stations arrivals relatives lengths sent) budget) log

pub record ShopExported (S : Shop) (owners : List ℕ) (ms : List Message) (log : List ℕ) (budget : ℕ) (r : RunNumbers) (ms' : List Message) (log' : List ℕ) : Type 0 where
  pub read : run_reading r ≡ reading_by (run_verdict S owners true ms budget (length log)) (ran_of S owners ms budget)
  pub left : ms' ≡ messages_by (run_verdict S owners true ms budget (length log)) (ran_of S owners ms budget) ms
  pub logged : log' ≡ log_by (run_verdict S owners true ms budget (length log)) (ran_of S owners ms budget) log

pub record WithdrawalExported (station : ℕ) (ms : List Message) (r : WithdrawalNumbers) (ms' : List Message) : Type 0 where
  pub figured : withdrawal_numbers r ≡ figures_of station ms
  pub left : ms' ≡ list_of station ms

-- the numbers tell the struct
search_tells : (a b : SearchNumbers) → search_numbers a ≡ search_numbers b → a ≡ b
search_tells a b e = ap (λ (p : ℕ × ℕ × ℕ × ℕ). record { refusal = p.0; rows = p.1; silences = p.2; collisions = p.3 }) e

count_tells : (a b : CountNumbers) → count_numbers a ≡ count_numbers b → a ≡ b
count_tells a b e = ap (λ (p : ℕ × ℕ). record { refusal = p.0; slots = p.1 }) e

class_tells : (a b : ClassNumbers) → class_numbers a ≡ class_numbers b → a ≡ b
class_tells a b e = ap (λ (p : ℕ × ℤ). record { class = p.1; refusal = p.0 }) e

withdrawal_tells : (a b : WithdrawalNumbers) → withdrawal_numbers a ≡ withdrawal_numbers b → a ≡ b
withdrawal_tells a b e = ap (λ (p : ℕ × ℕ × ℕ). record { refusal = p.0; kept = p.1; withdrawn = p.2 }) e

run_tells : (a b : RunNumbers) → run_reading a ≡ run_reading b → a ≡ b
run_tells a b e = ap (λ (p : Reading). record { refusal = p.refusal; done = p.done; events = p.events; slot = p.slot; sent = p.sent; late = p.late }) e

-- one result for each input
pub one_search : (m t : ℕ) (leaves log : List ℕ) (a b : SearchNumbers) (log₁ log₂ : List ℕ) → SearchExported m t leaves log a log₁ → SearchExported m t leaves log b log₂ → (a ≡ b) × (log₁ ≡ log₂)
one_search m t leaves log a b log₁ log₂ p q = (search_tells a b (p.figured ∙ sym q.figured), p.logged ∙ sym q.logged)

pub one_count : (m t k : ℕ) (a b : CountNumbers) → CountExported m t k a → CountExported m t k b → a ≡ b
one_count m t k a b p q = count_tells a b (p.figured ∙ sym q.figured)

pub one_placement : (m t k : ℕ) (before : List ℕ) (a b : ℕ) (xs ys : List ℕ) → PlacementExported m t k before a xs → PlacementExported m t k before b ys
    → (a ≡ b) × ((placement_verdict m t k (length before) ≡ granted → ⊥) → xs ≡ ys)
one_placement m t k before a b xs ys p q = (p.numbered ∙ sym q.numbered, λ refused. p.kept refused ∙ sym (q.kept refused))

pub one_class : (deadline offset reference width : ℕ) (a b : ClassNumbers) → ClassExported deadline offset reference width a → ClassExported deadline offset reference width b → a ≡ b
one_class deadline offset reference width a b p q = class_tells a b (p.figured ∙ sym q.figured)

pub one_run_fields : (S : Shop) (owners stations arrivals relatives lengths sent log : List ℕ) (budget : ℕ) (a b : RunNumbers) (sent₁ sent₂ log₁ log₂ : List ℕ)
    → RunExported S owners stations arrivals relatives lengths sent log budget a sent₁ log₁
    → RunExported S owners stations arrivals relatives lengths sent log budget b sent₂ log₂ → (a ≡ b) × (sent₁ ≡ sent₂) × (log₁ ≡ log₂)
one_run_fields S owners stations arrivals relatives lengths sent log budget a b sent₁ sent₂ log₁ log₂ p q = (run_tells a b (p.read ∙ sym q.read), p.marked ∙ sym q.marked, p.logged ∙ sym q.logged)

pub one_run : (S : Shop) (owners : List ℕ) (ms : List Message) (log : List ℕ) (budget : ℕ) (a b : RunNumbers) (ms₁ ms₂ : List Message) (log₁ log₂ : List ℕ)
    → ShopExported S owners ms log budget a ms₁ log₁ → ShopExported S owners ms log budget b ms₂ log₂ → (a ≡ b) × (ms₁ ≡ ms₂) × (log₁ ≡ log₂)
one_run S owners ms log budget a b ms₁ ms₂ log₁ log₂ p q = (run_tells a b (p.read ∙ sym q.read), p.left ∙ sym q.left, p.logged ∙ sym q.logged)

pub one_withdrawal : (station : ℕ) (ms : List Message) (a b : WithdrawalNumbers) (ms₁ ms₂ : List Message) → WithdrawalExported station ms a ms₁ → WithdrawalExported station ms b ms₂ → (a ≡ b) × (ms₁ ≡ ms₂)
one_withdrawal station ms a b ms₁ ms₂ p q = (withdrawal_tells a b (p.figured ∙ sym q.figured), p.left ∙ sym q.left)
