-- After i turns `best` is the first among the first i messages.
use Rattle.std.proofs.Common.{◌≡◌, ◌<◌, unwrap_or, IfSome}
use Rattle.messages.specs.Message.{none, first_among}
use Rattle.messages.proofs.first_message.Given as goal

abbrev pub invariant-loop-i : goal.invariant-loop-i
invariant-loop-i l = record {
  first : unwrap_or l.best none ≡ first_among l.list l.slot l.station l.i;
  numbered : IfSome l.best (λ b. b < l.i);
}
