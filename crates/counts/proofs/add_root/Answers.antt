-- What was reached is one more than it was.
use Rattle.std.proofs.Common.{◌≡◌, List, ◌++◌, ◌+◌, ◌-◌, ◌<◌, ℕ, arith, suc, get_or, length, map, take, drop}
use Rattle.std.proofs.lemmas.Grind.{common_steps}
use Rattle.trees.proofs.WorstLaws.{rooted_at}
use Rattle.counts.proofs.add_root.Goals as goal

-- what is still to come is as it was
unreached : (xs ys : List ℕ) (i : ℕ) → i < length xs → ys ≡ map suc (take i xs) ++ drop i xs → get_or ys i 0 ≡ get_or xs i 0
unreached xs ys i h e = grind (arith, common_steps)

behind_at : (xs : List ℕ) (i : ℕ) → get_or (take (length xs - 2) (drop 2 xs)) i 0 ≡ get_or xs (i + 2) 0
behind_at xs i = grind (arith, common_steps)

behind_length : (xs : List ℕ) → length (take (length xs - 2) (drop 2 xs)) ≡ length xs - 2
behind_length xs = grind (arith, common_steps)

pub overflow_add-count : goal.overflow_add-count
overflow_add-count c =
    let xs = c.args.counts.now in
    let l = c.loop-count in
    let k : ℕ = l.count-index + 2 in
    let inside : k < length xs = omega (arith, behind_length xs) in
    let here = unreached _ l.count-items l.count-index c.loop-count-test.true l.invariant in
    record { fits = omega (arith, here, behind_at xs l.count-index, rooted_at xs k (omega arith) inside, c.requires.1 k) }
