-- What the functions of an event ask of each other and leave. No promise to a caller speaks of these.
--
--   StepReady S ms t σ        what one event needs
--   Stepped S ms t σ r ms'    what one event leaves: its row, the state and the messages after it
--   SendReady c ms i          where a message is sent, its number lies within the list
--   RowReady σ message used   the row's numbers fit
use Rattle.std.specs.Prelude.{◌≡◌, List, ℕ, ◌≤◌, ◌<◌, length, get_or}
use Rattle.rows.specs.declared.Channel.{Channel}
use Rattle.rows.specs.declared.Channel.TheVariants.{Silence, Busy, Collision}
use Rattle.messages.specs.declared.Message.{Message}
use Rattle.messages.specs.Message.{blank}
use Rattle.phases.specs.declared.Shop.{Shop}
use Rattle.phases.specs.declared.State.{State}
use Rattle.phases.specs.Work.{Sound, Within}
use Rattle.contention.specs.declared.Tally.{Tally}
use Rattle.events.specs.declared.Step.{Step}
use Rattle.events.specs.Event.{first_of, width_of, event_by}

pub record StepReady (S : Shop) (ms : List Message) (t : Tally) (σ : State) : Type 0 where
  pub sound : Sound S
  pub within : Within S σ.standing
  pub past : σ.reference ≤ 9000000000000
  pub soon : σ.slot ≤ 4000000000
  pub few : t.count ≤ 32
  pub number : t.message < 65536
  pub inside : t.count ≡ 1 → t.message < length ms
  pub short : t.count ≡ 1 → (get_or ms t.message blank).length ≤ 1000

pub record Stepped (S : Shop) (ms : List Message) (t : Tally) (σ : State) (r : Step) (ms' : List Message) : Type 0 where
  pub row : r.row ≡ (event_by S ms σ t).row
  pub state : r.state ≡ (event_by S ms σ t).state
  pub messages : ms' ≡ (event_by S ms σ t).messages

abbrev pub SendReady : Channel → List Message → ℕ → Type 0
SendReady Silence ms i = Unit {0}
SendReady Busy ms i = i < length ms
SendReady Collision ms i = Unit {0}

pub record RowReady (σ : State) (message used : ℕ) : Type 0 where
  pub first_fits : first_of σ.standing < 65536
  pub width_fits : width_of σ.standing < 65536
  pub message_fits : message < 65536
  pub used_fits : used < 65536
