-- One event, by what the calls of its code leave.
use mathlib.Core.Path.{◌≡◌, refl, ap}
use mathlib.Core.List.{List, map}
use Prim.Native.Nat.{ℕ, zero, suc, ◌≤◌}
use native.Mathlib.Omega.{arith}
use lib.ListN.{length, get_or}
use Rattle.rows.specs.declared.Channel.{Channel}
use Rattle.rows.specs.declared.Channel.TheVariants.{Silence, Busy, Collision}
use Rattle.messages.specs.declared.Message.{Message}
use Rattle.messages.specs.Message.{blank}
use Rattle.messages.proofs.KeptLaws.{bare, bare_set}
use Rattle.phases.specs.declared.Shop.{Shop}
use Rattle.phases.specs.declared.State.{State}
use Rattle.contention.specs.Contenders.{contenders, last_of}
use Rattle.events.specs.Event.{channel_of, used_by, marked, event_on, event}

-- an event lasts at most 1,000 slots where the message that may be sent does
pub used_few : (n i : ℕ) (ms : List Message) → (n ≡ 1 → (get_or ms i blank).length ≤ 1000) → used_by (channel_of n) ms i ≤ 1000
used_few zero i ms h = omega arith
used_few (suc zero) i ms h = h refl
used_few (suc (suc n)) i ms h = omega arith

-- an event by the number of its contenders
pub event_by : (S : Shop) (table : List ℕ) (ms : List Message) (σ : State) (n : ℕ)
    → length (contenders S table ms σ) ≡ n
    → event S table ms σ
    ≡ event_on S ms σ (channel_of n) (last_of (contenders S table ms σ))
    (used_by (channel_of n) ms (last_of (contenders S table ms σ)))
event_by S table ms σ n e =
    let i : ℕ = last_of (contenders S table ms σ) in
    ap (λ (n : ℕ). event_on S ms σ (channel_of n) i (used_by (channel_of n) ms i)) e

-- ---- the messages, but for their slots of sending

bare_marked : (c : Channel) (ms : List Message) (i slot : ℕ) → map bare (marked c ms i slot) ≡ map bare ms
bare_marked Silence ms i slot = refl
bare_marked Busy ms i slot = bare_set ms i slot
bare_marked Collision ms i slot = refl

-- an event leaves them
pub bare_event : (S : Shop) (table : List ℕ) (ms : List Message) (σ : State)
    → map bare (event S table ms σ).messages ≡ map bare ms
bare_event S table ms σ =
    let l : List ℕ = contenders S table ms σ in
    bare_marked (channel_of (length l)) ms (last_of l) σ.slot
