-- The powers are tried from the largest below t on; 1 divides every b.
use Rattle.trees.specs.Shape.{height_of}
use Rattle.trees.proofs.WireLaws.{Trying}
use Rattle.trees.proofs.next_width.Given as goal

abbrev pub invariant-loop-width : goal.invariant-loop-width
invariant-loop-width l = Trying l.m (height_of l.m l.t) l.b l.width

abbrev pub decreases-loop-width : goal.decreases-loop-width
decreases-loop-width l = l.width
