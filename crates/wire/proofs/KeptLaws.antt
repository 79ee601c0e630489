-- A run leaves the messages as they were, but for their slots of sending.
use mathlib.Core.Path.{◌≡◌, refl, sym, ◌∙◌}
use mathlib.Core.List.{List, map}
use Prim.Native.Nat.{ℕ}
use Rattle.messages.specs.declared.Message.{Message}
use Rattle.messages.proofs.KeptLaws.{bare, bare_fresh}
use Rattle.phases.specs.declared.Shop.{Shop}
use Rattle.events.proofs.EventLaws.{bare_event}
use Rattle.wire.specs.Run.{World, run, start}
use Rattle.wire.proofs.RunLaws.{run_by}

module _ (S : Shop) (table : List ℕ) where
  -- from any world on
  pub bare_run : (k : ℕ) (W : World) → map bare (run S table k W).1.messages ≡ map bare W.messages
  bare_run =
      run_by S table (λ k W rows last. map bare last.messages ≡ map bare W.messages)
      (λ k W. refl) (λ k W last rows h. h ∙ bare_event S table W.messages W.state)

  -- from the start on
  pub same_records : (k : ℕ) (ms : List Message) → map bare ms ≡ map bare (run S table k (start ms)).1.messages
  same_records k ms = sym (bare_run k (start ms) ∙ bare_fresh ms)
