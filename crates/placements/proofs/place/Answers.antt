-- A granted placement fills the tree, which keeps the promise.
use Rattle.std.proofs.Common.{rules}
use Rattle.placements.proofs.AnswerLaws.{fill_ready, placed}
use Rattle.placements.proofs.place.Goals as goal

pub fill_tree-requires : goal.fill_tree-requires
fill_tree-requires c = fill_ready c.args.m c.args.t c.args.k c.args.leaves.now (search rules)

pub returns : goal.returns
returns c = placed c.args.m c.args.t c.args.k c.args.leaves.now (search rules) c.fill_tree.new.leaves c.fill_tree.ensures
