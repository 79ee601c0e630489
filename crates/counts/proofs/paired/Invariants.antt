-- The places are filled from the front with the largest sums.
use Rattle.std.proofs.Common.{◌≡◌, take}
use Rattle.trees.specs.Worst.{pairs}
use Rattle.counts.proofs.paired.Given as goal

abbrev pub invariant-loop-k : goal.invariant-loop-k
invariant-loop-k l = take l.k l.place-items ≡ take l.k (pairs l.one l.rest)
