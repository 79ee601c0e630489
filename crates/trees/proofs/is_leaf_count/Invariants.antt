-- The loop goes over the powers of m up to the largest that is not above t.
use Prim.Native.Nat.{◌-◌}
use Rattle.trees.proofs.ShapeLaws.{Power}
use Rattle.trees.proofs.is_leaf_count.Given as goal

abbrev pub invariant-loop-power : goal.invariant-loop-power
invariant-loop-power l = Power l.m l.t l.power

abbrev pub decreases-loop-power : goal.decreases-loop-power
decreases-loop-power l = l.t - l.power
