-- The line's numbers fill the array.
use Rattle.std.proofs.Common.{subst, Option, ℕ}
use Rattle.std.proofs.lemmas.List.{length-replicate}
use Rattle.reading.specs.Work.{LineRead}
use Rattle.reading.proofs.LineLaws.{numbers_read}
use Rattle.reading.proofs.numbers_in.Goals as goal

pub returns : goal.returns
returns g c = numbers_read g.row.N c.args.line.now _ c.in_ok-count.count c.read_line.new.fields c.then_some.result (subst (λ (r : Option ℕ). LineRead c.args.line.now _ r c.read_line.new.fields) (c.in_ok-count.was) c.read_line.ensures) (length-replicate _ _) c.then_some.ensures
