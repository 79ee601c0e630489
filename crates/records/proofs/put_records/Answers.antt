-- One place more holds its record; behind the last the table is as it came.
use Rattle.std.proofs.Common.{arith}
use Rattle.std.proofs.lemmas.Grind.{common_steps}
use Rattle.messages.specs.Message.{blank}
use Rattle.messages.specs.Lists.{listed}
use Rattle.messages.proofs.ListLaws.{length_listed, listed_at}
use Rattle.records.proofs.Laws.{place_more, over_filled}
use Rattle.records.proofs.put_records.Goals as goal

pub loop-i-preserved : goal.loop-i-preserved
loop-i-preserved c =
    let l = c.loop-i in
    let s = c.args in
    let many = length_listed s.stations.now s.arrivals.now s.relatives.now s.lengths.now s.sent.now in
    let there = listed_at s.stations.now s.arrivals.now s.relatives.now s.lengths.now s.sent.now l.i (grind (arith, common_steps)) in
    let more = place_more l.place-items (listed s.stations.now s.arrivals.now s.relatives.now s.lengths.now s.sent.now) l.i blank
    (grind (arith, common_steps)) (grind (arith, common_steps)) l.invariant in
    cc

pub returns : goal.returns
returns c =
    let s = c.args in
    let many = length_listed s.stations.now s.arrivals.now s.relatives.now s.lengths.now s.sent.now in
    over_filled c.args.table.now (listed s.stations.now s.arrivals.now s.relatives.now s.lengths.now s.sent.now) c.loop-i.place-items c.min-count.result c.loop-i.i
    (grind (arith, common_steps)) (grind (arith, common_steps)) (grind (arith, common_steps)) (c.loop-i.invariant)
