-- The leaf count falls at each call: the smaller tree's counts, then one level up.
use Rattle.std.proofs.Common.{arith}
use Rattle.trees.proofs.Powers.{some_leaf}
use Rattle.counts.proofs.CountLaws.{level_ready, holds_next}
use Rattle.counts.proofs.+counts_of.Goals as goal

pub level_up-requires : goal.level_up-requires
level_up-requires t c =
    let s = c.args in
    level_ready s.m s.t c.requires (omega (arith, some_leaf s.m s.t c.requires)) c.counts_of.result c.counts_of.ensures

pub returns : goal.returns
returns t c =
    let s = c.args in
    holds_next s.m s.t c.requires (omega (arith, some_leaf s.m s.t c.requires)) c.counts_of.result c.counts_of.ensures c.level_up.result c.level_up.ensures
