-- Each turn of the loop is one event.
use Rattle.wire.proofs.LoopLaws.{Turn}
use Rattle.wire.proofs.run_events.Given as goal

abbrev pub invariant-loop-events : goal.invariant-loop-events
invariant-loop-events l = Turn l.shop l.table l.initial.list l.initial.log l.budget l.list l.log l.state l.events
