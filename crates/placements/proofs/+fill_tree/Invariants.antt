-- A tree is filled child by child from the last one on; each child is a smaller tree with its share.
use Rattle.std.proofs.Common.{length}
use Rattle.placements.proofs.FillLaws.{Filling}
use Rattle.placements.proofs.+fill_tree.Given as goal

abbrev pub invariant-loop-j : goal.invariant-loop-j
invariant-loop-j l = Filling l.m (length l.initial.leaves) l.k l.j l.leaves

abbrev pub decreases-fill_tree : goal.decreases-fill_tree
decreases-fill_tree l = length l.leaves.now
