-- No run has more events than its budget.
use mathlib.Core.Path.{ap}
use mathlib.Core.Bool.{Bool}
use mathlib.Core.List.{List}
use Prim.Native.Nat.{ℕ, ◌≤◌}
use native.Mathlib.Omega.{arith}
use lib.ListN.{length}
use Rattle.std.specs.Prelude.{Result, Ok, Err}
use Rattle.refusals.specs.declared.Refusal.{Refusal}
use Rattle.refusals.specs.Numbers.{Verdict}
use Rattle.messages.specs.declared.Message.{Message}
use Rattle.phases.specs.declared.Shop.{Shop}
use Rattle.messages.specs.Lists.{listed}
use Rattle.inputs.specs.Inputs.{same_lengths, run_verdict, table_of}
use Rattle.wire.specs.declared.Outcome.{Outcome}
use Rattle.wire.specs.Run.{World, start, run}
use Rattle.wire.specs.Answer.{Reading, reading_of, reading_by, ran_of}
use Rattle.wire.specs.Promise.{ListPromise, RunPromise}
use Rattle.wire.proofs.RunLaws.{run_by}

-- a row for each of at most k events
pub rows_few : (S : Shop) (table : List ℕ) (k : ℕ) (W : World) → length (run S table k W).0 ≤ k
rows_few S table =
    run_by S table (λ k W rows last. length rows ≤ k) (λ k W. omega arith) (λ k W last rows h. omega arith)

-- whatever the verdict is
reading_few : (S : Shop) (owners : List ℕ) (ms : List Message) (budget : ℕ) (v : Verdict) → (reading_by v (ran_of S owners ms budget)).events ≤ budget
reading_few S owners ms budget (Ok _) = rows_few S (table_of owners) budget (start ms)
reading_few S owners ms budget (Err k) = omega arith

-- AT MOST AS MANY EVENTS as the budget, in every answer
pub events_few : (S : Shop) (owners : List ℕ) (whole : Bool) (ms : List Message) (log : List ℕ) (budget : ℕ) (answer : Result Outcome Refusal) (ms' : List Message) (log' : List ℕ)
    → ListPromise S owners whole ms log budget answer ms' log' → (reading_of answer).events ≤ budget
events_few S owners whole ms log budget answer ms' log' p =
    omega (arith, ap (λ (r : Reading). r.events) p.read, reading_few S owners ms budget (run_verdict S owners whole ms budget (length log)))

-- and of messages that are lent field by field
pub fields_few : (S : Shop) (owners stations arrivals relatives lengths sent log : List ℕ) (budget : ℕ) (answer : Result Outcome Refusal) (sent' log' : List ℕ)
    → RunPromise S owners stations arrivals relatives lengths sent log budget answer sent' log' → (reading_of answer).events ≤ budget
fields_few S owners stations arrivals relatives lengths sent log budget answer sent' log' p =
    omega (
      arith,
      ap (λ (r : Reading). r.events) p.read,
      reading_few S owners (listed stations arrivals relatives lengths sent) budget
          (run_verdict S owners (same_lengths stations arrivals relatives lengths sent) (listed stations arrivals relatives lengths sent) budget (length log)),
    )
