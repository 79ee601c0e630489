-- The powers are tried from the largest below t on; 1 divides every b.
use Rattle.trees.specs.Shape.{height_of}
use Rattle.trees.proofs.WireLaws.{trying_first, trying_some, trying_next}
use Rattle.trees.proofs.next_width.Goals as goal

pub loop-width-init : goal.loop-width-init
loop-width-init c = trying_first c.args.m c.args.t c.args.b c.requires.0 c.requires.1

pub nonzero_rem-b : goal.nonzero_rem-b
nonzero_rem-b c =
    trying_some c.args.m (height_of c.args.m c.args.t) c.args.b c.loop-width.width c.requires.0.branches c.loop-width.invariant

pub loop-width-smaller : goal.loop-width-smaller
loop-width-smaller c =
    (trying_next c.args.m (height_of c.args.m c.args.t) c.args.b c.loop-width.width c.requires.0.branches c.loop-width-test.true c.loop-width.invariant).1

pub loop-width-preserved : goal.loop-width-preserved
loop-width-preserved c =
    (trying_next c.args.m (height_of c.args.m c.args.t) c.args.b c.loop-width.width c.requires.0.branches c.loop-width-test.true c.loop-width.invariant).0
