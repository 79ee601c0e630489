-- The messages passed so far are unsent, the rest is as it was.
use Rattle.std.proofs.Common.{◌≡◌, ◌++◌, take, drop}
use Rattle.messages.specs.Message.{fresh}
use Rattle.messages.proofs.clear_sent.Given as goal

abbrev pub invariant-loop-message : goal.invariant-loop-message
invariant-loop-message l = l.list ≡ fresh (take l.message-index l.initial.list) ++ drop l.message-index l.initial.list
