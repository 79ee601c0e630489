-- The loop takes one tree more in each turn.
use Rattle.std.proofs.Common.{◌≡◌}
use Rattle.trees.specs.Worst.{parts}
use Rattle.counts.proofs.all_parts.Given as goal

abbrev pub invariant-loop : goal.invariant-loop
invariant-loop l = l.counts ≡ parts l.small l.counter
