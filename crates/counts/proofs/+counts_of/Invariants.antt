-- The leaf count falls at each call.
use Rattle.counts.proofs.+counts_of.Given as goal

abbrev pub decreases-counts_of : goal.decreases-counts_of
decreases-counts_of l = l.t
