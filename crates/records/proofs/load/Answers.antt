-- The places in front are the records; behind them the table is blank.
use Rattle.std.proofs.Common.{arith, ap, ◌∙◌, List, ◌++◌, drop, replicate}
use Rattle.std.proofs.lemmas.Grind.{common_steps}
use Rattle.messages.specs.declared.Message.{Message}
use Rattle.messages.specs.Message.{blank}
use Rattle.records.proofs.Laws.{over_parts}
use Rattle.records.proofs.load.Goals as goal

pub returns : goal.returns
returns c =
    let n = c.min-count.result in
    ap (λ (l : List Message). l ++ drop n (replicate 512 blank)) c.copy_from_slice.ensures.after
    ∙ over_parts (replicate 512 blank) c.args.list.now n (grind (arith, common_steps))
