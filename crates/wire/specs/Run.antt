-- The run (docs/RULES.md, section 10): events until every message is sent or the budget is spent.
--
--   World               the state and the messages
--   start ms            slot 0, reference time 0, free, every message unsent
--   event_in S table W, world_after E   the event in the world W, and the world after it
--   run S table k W     at most k events from W on: their rows, and the world after them
--   was_sent m          m was sent; is_sent is 1 for it
--   sent_count ms       messages sent
--   was_late m          m was sent, and its end lies after its absolute deadline; is_late is 1 for it
--   late_count ms       messages sent and late
use Rattle.std.specs.Prelude.{Bool, true, false, not, ◌&&◌, List, [], ◌∷◌, ℕ, zero, suc, ◌+◌, ltb, eqb, cond}
use Rattle.std.specs.List.{sum_by}
use Rattle.rows.specs.declared.Row.{Row}
use Rattle.messages.specs.declared.Message.{Message}
use Rattle.messages.specs.Message.{unsent, deadline_of, fresh, all_sent}
use Rattle.phases.specs.declared.Shop.{Shop}
use Rattle.phases.specs.declared.State.{State}
use Rattle.phases.specs.declared.Standing.TheVariants.{Free}
use Rattle.phases.specs.After.{standing}
use Rattle.events.specs.Event.{Event, event}

-- what goes on from event to event
pub record World : Type 0 where
  pub state : State
  pub messages : List Message

-- as a run begins
abbrev pub start : List Message → World
start ms = record { state = standing 0 0 false Free; messages = fresh ms }

-- after one event
abbrev pub world_after : Event → World
world_after E = record { state = E.state; messages = E.messages }

-- the event of a world
abbrev pub event_in : Shop → List ℕ → World → Event
event_in S table W = event S table W.messages W.state

-- the run ends before an event where no unsent message remains, arrived or not, or where k events were made
abbrev pub run : Shop → List ℕ → ℕ → World → List Row × World
run S table zero W = ([], W)
run S table (suc k) W =
    elim (all_sent W.messages) [
      | true ↦ ([], W)
      | false ↦ let E = event_in S table W in let rest = run S table k (world_after E) in (E.row ∷ rest.0, rest.1)
    ]

-- sent
abbrev pub was_sent : Message → Bool
was_sent m = not (eqb m.sent unsent)

-- 1 for each
abbrev pub is_sent : Message → ℕ
is_sent m = cond (was_sent m) 1 0

abbrev pub sent_count : List Message → ℕ
sent_count ms = sum_by is_sent ms

-- sent, and over only after its deadline
abbrev pub was_late : Message → Bool
was_late m = was_sent m && ltb (deadline_of m) (m.sent + m.length)

-- 1 for each
abbrev pub is_late : Message → ℕ
is_late m = cond (was_late m) 1 0

abbrev pub late_count : List Message → ℕ
late_count ms = sum_by is_late ms
