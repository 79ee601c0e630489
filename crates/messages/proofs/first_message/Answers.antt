-- By what became of message i: it waits behind the first so far, before it, or alone; or it does not wait.
use Rattle.std.proofs.Common.{rules}
use Rattle.messages.specs.Message.{first_among, better}
use Rattle.messages.proofs.first_message.Goals as goal
use Rattle.messages.proofs.first_message.Goals.{then-message-station+then-is_waiting+in-Some, then-message-station+then-is_waiting+in_default-2, then-message-station+then-is_waiting+in_default, else-message-station}

pub loop-i-init : goal.loop-i-init
unfolding first_among
loop-i-init c = search rules

pub loop-i-preserved : goal.loop-i-preserved
unfolding first_among better
loop-i-preserved c =
    elim c.if-message-station.branch [
      | then-message-station+then-is_waiting+in-Some w ↦ search rules
      | then-message-station+then-is_waiting+in_default-2 w ↦ search rules
      | then-message-station+then-is_waiting+in_default w ↦ search rules
      | else-message-station w ↦ search rules
    ]
