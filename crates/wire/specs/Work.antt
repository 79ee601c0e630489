-- What the loop of a run asks and leaves. No promise to a caller speaks of these.
--
--   RunReady ..     the shop's numbers and the messages are in range, the log has room for the budget's rows
--   begin ms        the world in which the loop begins
--   Ran ..          what the loop leaves: the run's rows in the log, how many were made, the slot now, and the messages
use Rattle.std.specs.Prelude.{◌≡◌, false, List, ℕ, ◌*◌, ◌≤◌, length}
use Rattle.rows.specs.Log.{over, log_bytes}
use Rattle.messages.specs.declared.Message.{Message}
use Rattle.messages.specs.Lists.{Runnable}
use Rattle.phases.specs.declared.Shop.{Shop}
use Rattle.phases.specs.declared.Standing.TheVariants.{Free}
use Rattle.phases.specs.After.{standing}
use Rattle.phases.specs.Work.{Sound}
use Rattle.wire.specs.Run.{World, run}

pub record RunReady (S : Shop) (ms : List Message) (log : List ℕ) (budget : ℕ) : Type 0 where
  pub sound : Sound S
  pub runnable : Runnable ms
  pub few : budget ≤ 1000000
  pub room : 16 * budget ≤ length log

-- slot 0, reference time 0, free
abbrev pub begin : List Message → World
begin ms = record { state = standing 0 0 false Free; messages = ms }

pub record Ran (S : Shop) (table : List ℕ) (ms : List Message) (log : List ℕ) (budget made now : ℕ) (ms' : List Message) (log' : List ℕ) : Type 0 where
  pub events : made ≡ length (run S table budget (begin ms)).0
  pub slot : now ≡ (run S table budget (begin ms)).1.state.slot
  pub messages : ms' ≡ (run S table budget (begin ms)).1.messages
  pub runnable : Runnable ms'
  pub rows : log' ≡ over log 0 (log_bytes (run S table budget (begin ms)).0)
