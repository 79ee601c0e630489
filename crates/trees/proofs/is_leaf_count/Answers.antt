-- The first power is m; the last is t, or t is no power.
use Rattle.trees.proofs.ShapeLaws.{first_power, next_power, power_grows, last_power}
use Rattle.trees.proofs.is_leaf_count.Goals as goal

pub loop-power-init : goal.loop-power-init
loop-power-init c = first_power c.args.m c.args.t c.if-t-m.false

pub loop-power-smaller : goal.loop-power-smaller
loop-power-smaller c = power_grows c.args.m c.args.t c.loop-power.power c.requires.0 c.loop-power-test.true c.loop-power.invariant

pub loop-power-preserved : goal.loop-power-preserved
loop-power-preserved c = next_power c.args.m c.args.t c.loop-power.power c.loop-power-test.true c.loop-power.invariant

pub returns : goal.returns
returns c = last_power c.args.m c.args.t c.loop-power.power c.requires.0 c.if-t-m.false c.if-t-gt-LEAVES_MAX.false c.loop-power-test.false c.loop-power.invariant
