-- The first i places hold the first i records.
use Rattle.std.proofs.Common.{◌≡◌, take}
use Rattle.messages.specs.Lists.{listed}
use Rattle.records.proofs.put_records.Given as goal

abbrev pub invariant-loop-i : goal.invariant-loop-i
invariant-loop-i l = take l.i l.place-items ≡ take l.i (listed l.stations l.arrivals l.relatives l.lengths l.sent)
