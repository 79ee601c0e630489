-- The definition goes down the list as the test of each leaf does.
use Rattle.std.proofs.Common.{leb, refl, rules}
use Rattle.std.proofs.lemmas.List.Recursion.{and_is}
use Rattle.trees.specs.Search.{all_bits}
use Rattle.searches.proofs.are_bits.Goals as goal

pub returns : goal.returns
returns c = and_is all_bits (λ b. leb b 1) refl (λ _ _. refl) c.args.leaves.now 0 _ (search rules) (search rules)
