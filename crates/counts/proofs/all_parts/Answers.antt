-- One tree more has room, and what it costs with the others fits.
use Rattle.std.proofs.Common.{List, ℕ, sym, subst, ◌∙◌}
use Rattle.trees.specs.Worst.{pairs}
use Rattle.counts.specs.Counting.{Together, Fits}
use Rattle.counts.proofs.CountLaws.{one_more}
use Rattle.counts.proofs.all_parts.Goals as goal

pub paired-counts-requires : goal.paired-counts-requires
paired-counts-requires c =
    let so_far = c.as_slice.ensures ∙ c.loop.invariant in
    subst (λ (rest : List ℕ). Together c.args.small.now rest × Fits (pairs c.args.small.now rest)) (sym so_far) (one_more c.args.small.now c.loop.counter c.args.j c.requires c.loop-test.true)
