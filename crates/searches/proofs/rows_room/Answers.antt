-- A tree has a leaf, and m times t is no less.
use native.Mathlib.Nat.{mul-le-mul}
use native.Mathlib.Omega.{arith}
use Rattle.trees.proofs.Powers.{some_leaf}
use Rattle.searches.proofs.rows_room.Goals as goal

pub overflow_sub-nodes : goal.overflow_sub-nodes
overflow_sub-nodes c = omega (arith, mul-le-mul c.requires.branches (some_leaf c.args.m c.args.t c.requires))
