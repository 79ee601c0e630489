-- Each turn of the loop is one event; it stops where every message is sent or the budget is spent.
use Rattle.std.proofs.Common.{sym, ◌∙◌, arith, rules}
use Rattle.wire.proofs.LoopLaws.{turn_done, turn_spent, turn_steps, turn_next}
use Rattle.wire.proofs.run_events.Goals as goal

pub returns-then-all_sent : goal.returns-then-all_sent
returns-then-all_sent c =
    turn_done c.requires c.loop-events.invariant (omega (arith, c.loop-events.auto.events-end)) (sym c.all_sent.ensures ∙ c.if-all_sent.true)

pub one_event-step-requires : goal.one_event-step-requires
one_event-step-requires c =
    let t = c.contenders_of-tally in turn_steps c.requires c.loop-events.invariant (omega (arith, c.loop-events-test.true)) t.result t.ensures

pub loop-events-preserved : goal.loop-events-preserved
loop-events-preserved c =
    let t = c.contenders_of-tally in
    let e = c.one_event-step in
    let row = c.put_row in
    turn_next c.requires c.loop-events.invariant (omega (arith, c.loop-events-test.true)) t.result t.ensures (sym c.all_sent.ensures ∙ c.if-all_sent.false)
    e.result e.new.list row.new.log e.ensures (search (rules, row.ensures))

pub returns : goal.returns
returns c = turn_spent c.requires c.loop-events.invariant (omega (arith, c.loop-events.auto.events-end, c.loop-events-test.false))
