-- The cost of a bare search by the leaves alone, without rows and slots: what the laws on worst counts work on.
--
--   cost_for k below      a subtree with k active leaves: silence 1, a sending 0, a collision 1 and what its children cost
--   part_cost m n s       the cost of a tree of height n whose leaf bytes are s
--   parts_cost f w j s    j subtrees of w leaves each, one behind the other
use mathlib.Core.List.{List}
use Prim.Native.Nat.{ℕ, zero, suc, ◌+◌, ◌^◌}
use lib.ListN.{take, drop}
use Rattle.trees.specs.Search.{ones}

abbrev pub cost_for : ℕ → ℕ → ℕ
cost_for zero below = 1
cost_for (suc zero) below = 0
cost_for (suc (suc k)) below = suc below

abbrev pub parts_cost : (List ℕ → ℕ) → ℕ → ℕ → List ℕ → ℕ
parts_cost f w zero s = 0
parts_cost f w (suc j) s = f (take w s) + parts_cost f w j (drop w s)

abbrev pub part_cost : ℕ → ℕ → List ℕ → ℕ
part_cost m zero s = cost_for (ones s) 0
part_cost m (suc n) s = cost_for (ones s) (parts_cost (part_cost m n) (m ^ n) m s)
