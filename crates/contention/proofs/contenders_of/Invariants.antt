-- The tally so far is that of the stations looked at.
use Rattle.std.proofs.Common.{◌≡◌}
use Rattle.contention.specs.Contenders.{contenders_below, tally_of}
use Rattle.contention.proofs.contenders_of.Given as goal

abbrev pub invariant-loop-station : goal.invariant-loop-station
invariant-loop-station l = l.tally ≡ tally_of (contenders_below l.shop l.table l.list l.state l.station)
