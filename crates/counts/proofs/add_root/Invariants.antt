-- What was reached is one more than it was.
use Rattle.std.proofs.Common.{◌≡◌, ◌++◌, take, drop, suc, map}
use Rattle.counts.proofs.add_root.Given as goal

abbrev pub invariant-loop-count : goal.invariant-loop-count
invariant-loop-count l = l.count-items ≡ map suc (take l.count-index l.initial.count-items) ++ drop l.count-index l.initial.count-items
