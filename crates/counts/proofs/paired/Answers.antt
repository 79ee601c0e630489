-- The places are filled from the front with the largest sums.
use Rattle.std.proofs.Common.{arith}
use Rattle.std.proofs.lemmas.Grind.{common_steps}
use Rattle.counts.proofs.CountLaws.{fill_step, filled, pairs_length}
use Rattle.counts.proofs.paired.Goals as goal

pub loop-k-preserved : goal.loop-k-preserved
loop-k-preserved c =
    let both = c.requires.0 in
    let long = pairs_length c.args.one.now c.args.rest.now both.some both.others in
    grind (arith, common_steps, fill_step)

pub returns : goal.returns
returns c =
    let both = c.requires.0 in
    let long = pairs_length c.args.one.now c.args.rest.now both.some both.others in
    grind (arith, common_steps, filled)
