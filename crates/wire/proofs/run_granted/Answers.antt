-- A granted run clears the marks and makes its events.
use Rattle.std.proofs.Common.{true, arith}
use Rattle.messages.proofs.ListLaws.{runnable_fresh}
use Rattle.inputs.proofs.GrantLaws.{allowed}
use Rattle.wire.proofs.run_granted.Goals as goal

pub run_events-events-requires : goal.run_events-events-requires
run_events-events-requires c =
    let s = c.args in
    let ok = allowed s.shop s.owners.now true s.list.now s.budget _ c.requires in
    record { sound = ok.sound; runnable = rw c.clear_sent.ensures (runnable_fresh s.list.now ok.runnable); few = ok.few; room = omega (arith, ok.room) }
