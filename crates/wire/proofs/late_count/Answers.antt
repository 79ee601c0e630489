use Rattle.std.proofs.Common.{rules}
use borrow.Author.Tests.{tests}
use Rattle.std.proofs.lemmas.Iterator.{YieldsList-from_slice}
use Rattle.std.proofs.lemmas.Iterator.Adapters.{serves_from_places}
use Rattle.wire.proofs.CountLaws.{timed_at}
use Rattle.wire.proofs.late_count.Goals as goal

pub count-requires-clause-can : goal.count-requires-clause-can
count-requires-clause-can c = (tt, tt, serves_from_places (YieldsList-from_slice c.args.list.now cc) (λ x q k. search (rules, tests)) (λ x k h e. search (rules, timed_at c.args.list.now c.requires.timed x.now k h e)))
