-- One event (docs/RULES.md, section 10): what a slot's contenders lead to.
--
--   channel_of n             0 contenders are silence, 1 is success (busy), 2 and more collision
--   used_by c ms i           the slots that the event lasts
--   message_by c i           the message of the row, none where nothing is sent
--   row_of σ c message used   the row of an event in the state σ
--   marked c ms i slot       the messages, message i with its slot of sending where it is sent
--   event S table ms σ       the event in the state σ with the messages ms: row, state after it, messages after it
use Rattle.std.specs.Prelude.{List, ℕ, zero, suc, ◌+◌, get_or, set}
use Rattle.rows.specs.declared.Row.{Row}
use Rattle.rows.specs.declared.Phase.{Phase}
use Rattle.rows.specs.declared.Phase.TheVariants.{Free as FreePhase, Time as TimePhase, Static as StaticPhase}
use Rattle.rows.specs.declared.Channel.{Channel}
use Rattle.rows.specs.declared.Channel.TheVariants.{Silence, Busy, Collision}
use Rattle.messages.specs.declared.Message.{Message}
use Rattle.messages.specs.Message.{none, blank, sent_at}
use Rattle.phases.specs.declared.Shop.{Shop}
use Rattle.phases.specs.declared.Standing.{Standing}
use Rattle.phases.specs.declared.Standing.TheVariants.{Free, Time, Static}
use Rattle.phases.specs.declared.State.{State}
use Rattle.phases.specs.After.{after}
use Rattle.contention.specs.declared.Tally.{Tally}
use Rattle.contention.specs.Contenders.{contenders, tally_of}

-- the channel's state
abbrev pub channel_of : ℕ → Channel
channel_of zero = Silence
channel_of (suc zero) = Busy
channel_of (suc (suc n)) = Collision

-- a message lasts its length, silence and collision one slot
abbrev pub used_by : Channel → List Message → ℕ → ℕ
used_by Silence ms i = 1
used_by Busy ms i = (get_or ms i blank).length
used_by Collision ms i = 1

-- what the row names
abbrev pub message_by : Channel → ℕ → ℕ
message_by Silence i = none
message_by Busy i = i
message_by Collision i = none

-- the phase that a row names
abbrev pub phase_of : Standing → Phase
phase_of Free = FreePhase
phase_of (Time a w) = TimePhase
phase_of (Static a w p) = StaticPhase

-- free rows have first leaf and width 0
abbrev pub first_of : Standing → ℕ
first_of Free = 0
first_of (Time a w) = a
first_of (Static a w p) = a

-- and its width
abbrev pub width_of : Standing → ℕ
width_of Free = 0
width_of (Time a w) = w
width_of (Static a w p) = w

-- slot, phase, state, first leaf, width, message, slots used
abbrev pub row_of : State → Channel → ℕ → ℕ → Row
row_of σ c message used =
    record {
      slot = σ.slot;
      phase = phase_of σ.standing;
      state = c;
      first = first_of σ.standing;
      width = width_of σ.standing;
      message = message;
      used = used;
    }

-- on success the slot of sending becomes the slot in which sending began
abbrev pub marked : Channel → List Message → ℕ → ℕ → List Message
marked Silence ms i slot = ms
marked Busy ms i slot = set ms i (sent_at slot (get_or ms i blank))
marked Collision ms i slot = ms

-- an event's row, and the state and the messages after it
pub record Event : Type 0 where
  pub row : Row
  pub state : State
  pub messages : List Message

-- by the channel's state, the message that may be sent and the slots used
abbrev pub event_on : Shop → List Message → State → Channel → ℕ → ℕ → Event
event_on S ms σ c i used =
    record { row = row_of σ c (message_by c i) used; state = after S (σ.slot + used) σ c; messages = marked c ms i σ.slot }

-- by the contenders
abbrev pub event_by : Shop → List Message → State → Tally → Event
event_by S ms σ t = event_on S ms σ (channel_of t.count) t.message (used_by (channel_of t.count) ms t.message)

-- in a state
abbrev pub event : Shop → List ℕ → List Message → State → Event
event S table ms σ = event_by S ms σ (tally_of (contenders S table ms σ))
