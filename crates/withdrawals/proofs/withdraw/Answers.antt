-- Where nothing is refused, what is kept is in front and zeros are behind it.
use Rattle.std.proofs.Common.{arith}
use Rattle.withdrawals.proofs.KeptLaws.{told, laid}
use Rattle.withdrawals.proofs.withdraw.Goals as goal

pub returns-clause-figured : goal.returns-clause-figured
returns-clause-figured c =
    let moved = c.move_kept-kept in
    told c.args.station c.args.messages.now moved.new.messages moved.result c.in_ok-withdrawal_verdict.ensures (omega arith) moved.ensures.within moved.ensures.front

pub returns-clause-left : goal.returns-clause-left
returns-clause-left c =
    let moved = c.move_kept-kept in
    laid c.args.station c.args.messages.now moved.new.messages moved.result c.in_ok-withdrawal_verdict.ensures (omega arith) moved.ensures.within moved.ensures.front
    _ (c.fill.ensures.after (λ y e. e))
