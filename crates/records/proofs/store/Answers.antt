-- The places in front are filled; behind them the list is as it came.
use Rattle.std.proofs.Common.{arith}
use Rattle.std.proofs.lemmas.Grind.{common_steps}
use Rattle.records.proofs.Laws.{over_filled}
use Rattle.records.proofs.store.Goals as goal

pub returns : goal.returns
returns c =
    over_filled c.args.list.now c.args.table c.loop-i.place-items c.min-count.result c.loop-i.i
    (grind (arith, common_steps)) (grind (arith, common_steps)) (grind (arith, common_steps)) (c.loop-i.invariant)
