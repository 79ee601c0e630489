-- What a run promises, whatever numbers and lists it is given.
--
--   ListPromise ..    over a list of messages: the reading, the whole list and the whole log at exit are the definition's
--   GrantedPromise .. of a list of messages that nothing refuses: the same three are those of the run
--   RunPromise ..     over a slice for each field: the reading, the slots of sending and the whole log are
--   reading_tells     the reading tells the answer
--   one_result        two results that the promise allows for one input are equal
use Rattle.std.specs.Prelude.{◌≡◌, Bool, true, false, List, ℕ, length, Result, Ok, Err}
use Rattle.std.proofs.Common.{sym, ap, ◌∙◌, arith}
use Rattle.refusals.specs.declared.Refusal.{Refusal}
use Rattle.refusals.proofs.Verdicts.{number_tells, number_some}
use Rattle.rows.specs.Log.{over, log_bytes}
use Rattle.messages.specs.declared.Message.{Message}
use Rattle.messages.specs.Lists.{listed}
use Rattle.phases.specs.declared.Shop.{Shop}
use Rattle.inputs.specs.Inputs.{same_lengths, run_verdict}
use Rattle.wire.specs.declared.Figures.{Figures}
use Rattle.wire.specs.declared.Outcome.{Outcome}
use Rattle.wire.specs.declared.Outcome.TheVariants.{Done, Spent}
use Rattle.wire.specs.Answer.{Reading, ended, reading_of, closing, reading_by, messages_by, marks_by, log_by, ran_of}

-- each part an equation with a definition: by the verdict on the inputs, of the run that they make
pub record ListPromise (S : Shop) (owners : List ℕ) (whole : Bool) (ms : List Message) (log : List ℕ) (budget : ℕ) (answer : Result Outcome Refusal) (ms' : List Message) (log' : List ℕ) : Type 0 where
  pub read : reading_of answer ≡ reading_by (run_verdict S owners whole ms budget (length log)) (ran_of S owners ms budget)
  pub left : ms' ≡ messages_by (run_verdict S owners whole ms budget (length log)) (ran_of S owners ms budget) ms
  pub logged : log' ≡ log_by (run_verdict S owners whole ms budget (length log)) (ran_of S owners ms budget) log

-- each part as the run that the inputs make leaves it
pub record GrantedPromise (S : Shop) (owners : List ℕ) (ms : List Message) (log : List ℕ) (budget : ℕ) (outcome : Outcome) (ms' : List Message) (log' : List ℕ) : Type 0 where
  pub read : reading_of (Ok outcome) ≡ closing (ran_of S owners ms budget)
  pub left : ms' ≡ (ran_of S owners ms budget).1.messages
  pub logged : log' ≡ over log 0 (log_bytes (ran_of S owners ms budget).0)

-- the list comes whole where the slices are of one length
pub record RunPromise (S : Shop) (owners stations arrivals relatives lengths sent log : List ℕ) (budget : ℕ) (answer : Result Outcome Refusal) (sent' log' : List ℕ) : Type 0 where
  pub read : reading_of answer ≡ reading_by
      (run_verdict S owners (same_lengths stations arrivals relatives lengths sent) (listed stations arrivals relatives lengths sent) budget (length log))
      (ran_of S owners (listed stations arrivals relatives lengths sent) budget)
  pub marked : sent' ≡ marks_by
      (run_verdict S owners (same_lengths stations arrivals relatives lengths sent) (listed stations arrivals relatives lengths sent) budget (length log))
      (ran_of S owners (listed stations arrivals relatives lengths sent) budget) sent
  pub logged : log' ≡ log_by
      (run_verdict S owners (same_lengths stations arrivals relatives lengths sent) (listed stations arrivals relatives lengths sent) budget (length log))
      (ran_of S owners (listed stations arrivals relatives lengths sent) budget) log

-- figures are equal where each of them is
abbrev made : ℕ → ℕ → ℕ → ℕ → Figures
made events slot sent late = record { events = events; slot = slot; sent = sent; late = late }

same_figures : (f g : Figures) → f.events ≡ g.events → f.slot ≡ g.slot → f.sent ≡ g.sent → f.late ≡ g.late → f ≡ g
same_figures f g a b c d =
    ap (λ (x : ℕ). made x f.slot f.sent f.late) a
    ∙ ap (λ (x : ℕ). made g.events x f.sent f.late) b
    ∙ ap (λ (x : ℕ). made g.events g.slot x f.late) c
    ∙ ap (λ (x : ℕ). made g.events g.slot g.sent x) d

-- the readings of two runs that ended tell their figures
same_ended : (f g : Figures) (a b : Bool) → ended a f ≡ ended b g → f ≡ g
same_ended f g a b e =
    same_figures f g (ap (λ (r : Reading). r.events) e) (ap (λ (r : Reading). r.slot) e) (ap (λ (r : Reading). r.sent) e) (ap (λ (r : Reading). r.late) e)

-- the reading tells the answer
pub reading_tells : (a b : Result Outcome Refusal) → reading_of a ≡ reading_of b → a ≡ b
reading_tells (Ok (Done f)) (Ok (Done g)) e = ap (λ (x : Figures). Ok (Done x)) (same_ended f g true true e)
reading_tells (Ok (Done f)) (Ok (Spent g)) e = let z : true ≡ false = ap (λ (r : Reading). r.done) e in let y : ◌≡◌ {A = ℕ} 0 1 = cc in absurd (omega arith)
reading_tells (Ok (Spent f)) (Ok (Done g)) e = let z : false ≡ true = ap (λ (r : Reading). r.done) e in let y : ◌≡◌ {A = ℕ} 0 1 = cc in absurd (omega arith)
reading_tells (Ok (Spent f)) (Ok (Spent g)) e = ap (λ (x : Figures). Ok (Spent x)) (same_ended f g false false e)
reading_tells (Ok (Done f)) (Err k) e = absurd (omega (arith, number_some k, ap (λ (r : Reading). r.refusal) e))
reading_tells (Ok (Spent f)) (Err k) e = absurd (omega (arith, number_some k, ap (λ (r : Reading). r.refusal) e))
reading_tells (Err j) (Ok (Done g)) e = absurd (omega (arith, number_some j, ap (λ (r : Reading). r.refusal) e))
reading_tells (Err j) (Ok (Spent g)) e = absurd (omega (arith, number_some j, ap (λ (r : Reading). r.refusal) e))
reading_tells (Err j) (Err k) e = ap (λ (x : Refusal). Err x) (number_tells j k (ap (λ (r : Reading). r.refusal) e))

-- one result for each input
pub one_result : (S : Shop) (owners stations arrivals relatives lengths sent log : List ℕ) (budget : ℕ) (a b : Result Outcome Refusal) (sent₁ sent₂ log₁ log₂ : List ℕ)
    → RunPromise S owners stations arrivals relatives lengths sent log budget a sent₁ log₁
    → RunPromise S owners stations arrivals relatives lengths sent log budget b sent₂ log₂ → (a ≡ b) × (sent₁ ≡ sent₂) × (log₁ ≡ log₂)
one_result S owners stations arrivals relatives lengths sent log budget a b sent₁ sent₂ log₁ log₂ p q =
    (reading_tells a b (p.read ∙ sym q.read), p.marked ∙ sym q.marked, p.logged ∙ sym q.logged)
