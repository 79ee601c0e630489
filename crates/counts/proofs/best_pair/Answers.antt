-- The chain's items are the sums, and the largest of them is the entry.
use Rattle.std.proofs.Common.{rules, tests, refl, ap, ℕ, ◌∙◌, ◌+◌, ◌-◌, get_or}
use Rattle.std.specs.List.{range_with_len}
use Rattle.std.specs.Option.{unwrap_or}
use Rattle.std.proofs.lemmas.Iterator.{YieldsList-from_map, YieldsList-from_range}
use Rattle.std.proofs.lemmas.Iterator.Consumers.{reduce_from_yields_List}
use Rattle.std.proofs.lemmas.List.Folds.{max_of_map}
use Rattle.counts.proofs.CountLaws.{largest_sum}
use Rattle.counts.proofs.best_pair.Goals as goal

pub returns : goal.returns
returns c =
    let s = c.args in
    let from : ℕ = c.saturating_sub-from.result in
    let to : ℕ = c.min-to.result in
    let sum : ℕ → ℕ = λ i. get_or s.one.now i 0 + get_or s.rest.now (s.k - i) 0 in
    c.unwrap_or.ensures
    ∙ ap (λ o. unwrap_or o 0) (reduce_from_yields_List _ c.map.result _ c.max.ensures.ran (YieldsList-from_map _ sum (YieldsList-from_range from to (to - from) c.map.ensures.source refl) c.map.ensures.closure (λ x b q k. search (rules, tests))))
    ∙ max_of_map sum (range_with_len from (to - from))
    ∙ largest_sum s.one.now s.rest.now s.k from to c.requires.0 c.requires.1 (search rules) (search rules)
