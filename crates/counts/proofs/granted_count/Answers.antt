-- The tills' tree is read from the table; any other is counted, and k is one of its places.
use Rattle.std.proofs.Common.{◌∙◌}
use Rattle.counts.proofs.AnswerLaws.{granted_tree, count_inside, count_at, tills_height}
use Rattle.counts.proofs.granted_count.Goals as goal

pub returns-then-t-eq256 : goal.returns-then-t-eq256
returns-then-t-eq256 c = c.from.ensures ∙ c.tills_count.ensures ∙ tills_height c.args.m c.args.t c.args.k c.if-m-eq4.true c.if-t-eq256.true

pub counts_of-counts-requires : goal.counts_of-counts-requires
counts_of-counts-requires c = (granted_tree c.args.m c.args.t c.args.k c.requires).tree

pub bounds-as_slice-k : goal.bounds-as_slice-k
bounds-as_slice-k c = rw c.as_slice.ensures (count_inside c.args.m c.args.t c.args.k c.requires c.counts_of-counts.result c.counts_of-counts.ensures)

pub returns : goal.returns
returns c = c.from-2.ensures ∙ rw c.as_slice.ensures (count_at c.args.m c.args.t c.args.k c.requires c.counts_of-counts.result c.counts_of-counts.ensures)
