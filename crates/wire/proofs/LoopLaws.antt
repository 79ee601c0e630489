-- The loop of a run: each turn is one event of the definition's run.
use mathlib.Core.Path.{◌≡◌, sym, ap, ◌∙◌, subst}
use mathlib.Core.Bool.{true, false}
use mathlib.Core.List.{List}
use Prim.Native.Nat.{ℕ, ◌+◌, ◌*◌, ◌≤◌, ◌<◌}
use native.Mathlib.Omega.{arith}
use lib.ListN.{length}
use Rattle.rows.specs.declared.Row.{Row}
use Rattle.rows.specs.Log.{over, row_bytes, log_bytes}
use Rattle.messages.specs.declared.Message.{Message}
use Rattle.messages.specs.Message.{all_sent}
use Rattle.phases.specs.declared.Shop.{Shop}
use Rattle.phases.specs.declared.State.{State}
use Rattle.contention.specs.declared.Tally.{Tally}
use Rattle.contention.specs.Contenders.{contenders, tally_of}
use Rattle.events.specs.declared.Step.{Step}
use Rattle.events.specs.Work.{StepReady, Stepped}
use Rattle.wire.specs.Run.{World, event_in, run}
use Rattle.wire.specs.Work.{RunReady, Ran, begin}
use Rattle.wire.proofs.StepLaws.{Going, step_ready, state_is, row_is, messages_are, going_on}
use Rattle.wire.proofs.RunLaws.{Running, running_next, running_done, running_spent}

-- the world of a state and of messages
abbrev pub world_of : List Message → State → World
world_of ms σ = record { state = σ; messages = ms }

-- before an event
pub record Turn (S : Shop) (table : List ℕ) (ms₀ : List Message) (log₀ : List ℕ) (budget : ℕ) (ms : List Message) (log : List ℕ) (σ : State) (events : ℕ) : Type 0 where
  pub going : Going S ms σ events
  pub running : Running S table (begin ms₀) budget log₀ (world_of ms σ) events log

module _ {S : Shop} {table : List ℕ} {ms₀ : List Message} {log₀ : List ℕ} {budget : ℕ} {ms : List Message} {log : List ℕ} {σ : State} {events : ℕ} (ready : RunReady S ms₀ log₀ budget)
    (turn : Turn S table ms₀ log₀ budget ms log σ events) where
  ran : run S table budget (begin ms₀) ≡ (turn.running.rows, world_of ms σ) → Ran S table ms₀ log₀ budget events σ.slot ms log
  ran e = record {
    events = turn.running.counted ∙ sym (ap (λ (r : List Row × World). length r.0) e);
    slot = sym (ap (λ (r : List Row × World). r.1.state.slot) e);
    messages = sym (ap (λ (r : List Row × World). r.1.messages) e);
    runnable = turn.going.runnable;
    rows = turn.running.logged ∙ sym (ap (λ (r : List Row × World). over log₀ 0 (log_bytes r.0)) e);
  }

  pub turn_done : events ≤ budget → all_sent ms ≡ true → Ran S table ms₀ log₀ budget events σ.slot ms log
  turn_done few e = ran (running_done S table (begin ms₀) budget log₀ (world_of ms σ) events log turn.running few e)

  pub turn_spent : events ≡ budget → Ran S table ms₀ log₀ budget budget σ.slot ms log
  turn_spent e =
      subst (λ (n : ℕ). Ran S table ms₀ log₀ budget n σ.slot ms log) e
      (ran (running_spent S table (begin ms₀) budget log₀ (world_of ms σ) events log turn.running e))

  module _ (more : events < budget) (t : Tally) (is : t ≡ tally_of (contenders S table ms σ)) where
    early : events < 1000000
    early = omega (arith, ready.few)

    pub turn_steps : StepReady S ms t σ
    turn_steps = step_ready S ready.sound table ms σ events early turn.going t is

    pub turn_next : all_sent ms ≡ false → (r : Step) (ms' : List Message) (log' : List ℕ) → Stepped S ms t σ r ms'
        → log' ≡ over log (16 * events) (row_bytes r.row) → Turn S table ms₀ log₀ budget ms' log' r.state (events + 1)
    turn_next unsent r ms' log' s w =
        let state = state_is S ready.sound table ms σ events early turn.going t is r ms' s in
        let row = row_is S ready.sound table ms σ events early turn.going t is r ms' s in
        let messages = messages_are S ready.sound table ms σ events early turn.going t is r ms' s in
        let next =
        running_next S table (begin ms₀) budget log₀ (world_of ms σ) events log turn.running unsent more ready.room log'
        (w ∙ ap (λ (x : Row). over log (16 * events) (row_bytes x)) row) in
        let world = ap (λ (x : State). world_of ms' x) state ∙ ap (λ (x : List Message). world_of x (event_in S table (world_of ms σ)).state) messages in
        record {
          going = going_on S ready.sound table ms σ events early turn.going t is r ms' s;
          running = subst (λ (V : World). Running S table (begin ms₀) budget log₀ V (events + 1) log') (sym world) next;
        }
