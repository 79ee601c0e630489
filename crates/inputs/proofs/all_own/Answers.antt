-- Station by station, from 0 on.
use mathlib.Core.Path.{◌≡◌, refl, ◌∙◌}
use mathlib.Core.List.{List, [], ◌∷◌, ◌++◌}
use Prim.Native.Nat.{ℕ, zero, suc, ◌+◌}
use Rattle.std.proofs.Common.{rules, arith}
use Rattle.std.specs.List.{list_all, range_with_len}
use borrow.Author.Tests.{tests}
use Rattle.std.proofs.lemmas.Iterator.{YieldsList-from_range}
use Rattle.std.proofs.lemmas.Iterator.Search.{all_from_yields_List}
use Rattle.std.proofs.lemmas.List.Folds.{list_all-append}
use Rattle.inputs.specs.Inputs.{holds, all_own}
use Rattle.inputs.proofs.all_own.Goals as goal

-- one number more at the end
range_more : (a n : ℕ) → range_with_len a (suc n) ≡ range_with_len a n ++ (a + n) ∷ []
range_more a zero = grind arith
range_more a (suc n) = grind (arith, range_more (a + 1) n)

own_all : (owners : List ℕ) (n : ℕ) → list_all (holds owners) (range_with_len 0 n) ≡ all_own owners n
own_all owners zero = refl
own_all owners (suc n) = grind (arith, range_more 0 n, list_all-append (holds owners) (range_with_len 0 n) ((0 + n) ∷ []), own_all owners n)

pub returns : goal.returns
returns c =
    all_from_yields_List (holds c.args.owners.now) _ _ _ c.all.ensures.ran (YieldsList-from_range 0 c.args.stations c.args.stations (cc) (omega arith)) (λ x b q k. search (rules, tests))
    ∙ own_all c.args.owners.now c.args.stations
