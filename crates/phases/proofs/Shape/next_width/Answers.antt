-- A grown tree has two leaves or more.
use Rattle.phases.proofs.StandLaws.{two_leaves}
use Rattle.phases.proofs.Shape.next_width.Goals as goal

pub next_width-requires : goal.next_width-requires
next_width-requires c = (c.requires.tree, two_leaves c.args.self.branches c.args.self.leaves c.requires)
