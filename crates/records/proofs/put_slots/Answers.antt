-- The places in front are filled; behind them the list is as it came.
use Rattle.std.proofs.Common.{arith, map}
use Rattle.std.proofs.lemmas.Grind.{common_steps}
use Rattle.std.proofs.lemmas.List.{length-map}
use Rattle.records.proofs.Laws.{over_filled}
use Rattle.records.proofs.put_slots.Goals as goal

pub returns : goal.returns
returns c =
    let many = length-map c.args.table.now (λ m. m.sent) in
    over_filled c.args.sent.now (map (λ m. m.sent) c.args.table.now) c.loop-i.slot-items c.min-count.result c.loop-i.i
    (grind (arith, common_steps)) (grind (arith, common_steps)) (grind (arith, common_steps)) (c.loop-i.invariant)
