-- The answer of a run (docs/RULES.md, sections 2 and 10).
--
--   Reading             what a script reads off an answer: refusal number (0 for none), whether done, and the closing figures
--   reading_of answer    the reading of an answer; every other figure is 0 where refused
--   ran_of S owners ms budget  the run that the inputs make: its rows, and the world after them
--   closing r           the reading of a run that was not refused
--   reading_by          by the verdict: what a run must answer
--   messages_by, marks_by, log_by  by the verdict: the list, the slots of sending and the log that it must leave
use Rattle.std.specs.Prelude.{Bool, true, false, List, map, ℕ, length, Result, Ok, Err}
use Rattle.refusals.specs.declared.Refusal.{Refusal}
use Rattle.refusals.specs.Numbers.{Verdict, number_of}
use Rattle.rows.specs.declared.Row.{Row}
use Rattle.rows.specs.Log.{over, log_bytes}
use Rattle.messages.specs.declared.Message.{Message}
use Rattle.messages.specs.Message.{all_sent}
use Rattle.phases.specs.declared.Shop.{Shop}
use Rattle.inputs.specs.Inputs.{table_of}
use Rattle.wire.specs.declared.Figures.{Figures}
use Rattle.wire.specs.declared.Outcome.{Outcome}
use Rattle.wire.specs.declared.Outcome.TheVariants.{Done, Spent}
use Rattle.wire.specs.Run.{World, start, run, sent_count, late_count}

-- what a script reads
pub record Reading : Type 0 where
  pub refusal : ℕ
  pub done : Bool
  pub events : ℕ
  pub slot : ℕ
  pub sent : ℕ
  pub late : ℕ

-- a run that ended, done or not
abbrev pub ended : Bool → Figures → Reading
ended done f = record { refusal = 0; done = done; events = f.events; slot = f.slot; sent = f.sent; late = f.late }

-- a refusal: every other figure is 0
abbrev pub denied : ℕ → Reading
denied number = record { refusal = number; done = false; events = 0; slot = 0; sent = 0; late = 0 }

-- off an answer
abbrev pub reading_of : Result Outcome Refusal → Reading
reading_of (Ok (Done f)) = ended true f
reading_of (Ok (Spent f)) = ended false f
reading_of (Err r) = denied (number_of r)

-- the run that the inputs make: the rows, and the world after them
abbrev pub ran_of : Shop → List ℕ → List Message → ℕ → List Row × World
ran_of S owners ms budget = run S (table_of owners) budget (start ms)

-- the closing figures of a run
abbrev pub closing : List Row × World → Reading
closing r = record {
  refusal = 0;
  done = all_sent r.1.messages;
  events = length r.0;
  slot = r.1.state.slot;
  sent = sent_count r.1.messages;
  late = late_count r.1.messages;
}

-- by the verdict
abbrev pub reading_by : Verdict → List Row × World → Reading
reading_by (Ok _) r = closing r
reading_by (Err k) r = denied (number_of k)

-- the messages of the world after the run; a refusal leaves them as they came
abbrev pub messages_by : Verdict → List Row × World → List Message → List Message
messages_by (Ok _) r ms = r.1.messages
messages_by (Err k) r ms = ms

-- the slots of sending of some messages
abbrev pub marks : List Message → List ℕ
marks ms = map (λ m. m.sent) ms

abbrev pub marks_by : Verdict → List Row × World → List ℕ → List ℕ
marks_by (Ok _) r sent = marks r.1.messages
marks_by (Err k) r sent = sent

abbrev pub log_by : Verdict → List Row × World → List ℕ → List ℕ
log_by (Ok _) r log = over log 0 (log_bytes r.0)
log_by (Err k) r log = log
