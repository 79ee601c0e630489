-- A visit: one row where nobody or one is heard; after a collision the children, each written behind the others.
use Rattle.searches.proofs.VisitLaws.{Kept}
use Rattle.searches.proofs.+visit.Given as goal

abbrev pub decreases-visit : goal.decreases-visit
decreases-visit l = l.subtree.width

abbrev pub invariant-loop-j : goal.invariant-loop-j
invariant-loop-j l = Kept l.leaves l.m l.subtree.first l.width l.initial.searched l.initial.log l.j l.searched l.log
