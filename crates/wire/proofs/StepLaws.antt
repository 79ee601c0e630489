-- One event in a run: what its code leaves is the definition's event, and the run may go on.
use mathlib.Core.Path.{◌≡◌, ap, ◌∙◌}
use mathlib.Core.List.{List}
use mathlib.Core.Logic.{⊎_elim}
use Prim.Native.Nat.{ℕ, ◌+◌, ◌*◌, ◌≤◌, ◌<◌}
use native.Mathlib.Omega.{arith}
use lib.ListN.{length}
use Rattle.std.proofs.lemmas.List.{nil_from_length}
use Rattle.rows.specs.declared.Channel.{Channel}
use Rattle.rows.specs.declared.Channel.TheVariants.{Silence, Busy, Collision}
use Rattle.messages.specs.declared.Message.{Message}
use Rattle.messages.specs.Lists.{Runnable}
use Rattle.messages.proofs.ListLaws.{runnable_set}
use Rattle.phases.specs.declared.Shop.{Shop}
use Rattle.phases.specs.declared.State.{State}
use Rattle.phases.specs.Work.{Sound, Within}
use Rattle.phases.proofs.StandLaws.{after_within, after_reference, after_slot}
use Rattle.contention.specs.declared.Tally.{Tally}
use Rattle.contention.specs.Contenders.{contenders, last_of, tally_of}
use Rattle.contention.proofs.ContendLaws.{contenders_few, contenders_messages}
use Rattle.events.specs.declared.Step.{Step}
use Rattle.events.specs.Event.{channel_of, used_by, marked, Event, event_by, event}
use Rattle.events.specs.Work.{StepReady, Stepped}
use Rattle.events.proofs.EventLaws.{used_few}
use Rattle.trees.proofs.Powers.{le_or_lt}

-- the marked list is one that a run can take
marked_runnable : (c : Channel) (ms : List Message) (i slot : ℕ) → Runnable ms → Runnable (marked c ms i slot)
marked_runnable Silence ms i slot r = r
marked_runnable Busy ms i slot r = runnable_set ms i slot r
marked_runnable Collision ms i slot r = r

-- after so many events: the list and the state are such that one more event may follow
pub record Going (S : Shop) (ms : List Message) (σ : State) (events : ℕ) : Type 0 where
  pub runnable : Runnable ms
  pub within : Within S σ.standing
  pub past : σ.reference ≤ 9000000 * events
  pub soon : σ.slot ≤ 1000 * events

module _ (S : Shop) (sound : Sound S) (table : List ℕ) (ms : List Message) (σ : State) (events : ℕ) (few : events < 1000000) (g : Going S ms σ events)
    (t : Tally) (is : t ≡ tally_of (contenders S table ms σ)) where
  counts : t.count ≡ length (contenders S table ms σ)
  counts = ap (λ (u : Tally). u.count) is

  last : t.message ≡ last_of (contenders S table ms σ)
  last = ap (λ (u : Tally). u.message) is

  inside : 0 < t.count → t.message < length ms
  inside h = let w = contenders_messages S table ms σ (omega (arith, counts)) in omega (arith, last, w.0)

  small : t.message < 65536
  small =
      ⊎_elim (λ h. omega (arith, inside h, g.runnable.few))
      (λ h. omega (arith, last, ap last_of (nil_from_length (contenders S table ms σ) (omega (arith, counts)))))
      (le_or_lt 1 t.count)

  pub step_ready : StepReady S ms t σ
  step_ready = record {
    sound = sound;
    within = g.within;
    past = omega (arith, g.past);
    soon = omega (arith, g.soon);
    few = omega (arith, counts, contenders_few S table ms σ, sound.stations);
    number = small;
    inside = λ e. inside (omega arith);
    short = λ e. (g.runnable.timed t.message (inside (omega (arith, e)))).short;
  }

  module _ (r : Step) (ms' : List Message) (s : Stepped S ms t σ r ms') where
    -- it is the event of the definition
    event_is : event_by S ms σ t ≡ event S table ms σ
    event_is = ap (event_by S ms σ) is

    pub row_is : r.row ≡ (event S table ms σ).row
    row_is = s.row ∙ ap (λ (E : Event). E.row) event_is

    pub state_is : r.state ≡ (event S table ms σ).state
    state_is = s.state ∙ ap (λ (E : Event). E.state) event_is

    pub messages_are : ms' ≡ (event S table ms σ).messages
    messages_are = s.messages ∙ ap (λ (E : Event). E.messages) event_is

    pub going_on : Going S ms' r.state (events + 1)
    going_on =
        let c : Channel = channel_of t.count in
        let u : used_by c ms t.message ≤ 1000 = used_few t.count t.message ms (λ e. (g.runnable.timed t.message (inside (omega arith))).short) in
        let slot : ℕ = σ.slot + used_by c ms t.message in
        let R : ℕ = 9000000 * events + 1000 in
        record {
          runnable = rw s.messages (marked_runnable c ms t.message σ.slot g.runnable);
          within = rw s.state (after_within S sound slot σ c g.within);
          past = rw s.state (omega (arith, after_reference S sound R slot σ c g.within (omega (arith, g.past)) (omega (arith, g.soon))));
          soon = rw s.state (omega (arith, after_slot S slot σ c, g.soon));
        }
