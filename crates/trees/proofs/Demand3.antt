-- The first half of demand 3, once over all m and t.
use mathlib.Core.Path.{◌≡◌, sym, subst}
use mathlib.Core.List.{List}
use Prim.Native.Nat.{ℕ, ◌^◌, ◌≤◌}
use native.Mathlib.Nat.{le_refl}
use native.Mathlib.Omega.{arith}
use lib.ListN.{length}
use Rattle.trees.specs.Search.{search_rows, Ascending}
use Rattle.trees.specs.Claims.{Searched, Attained, OnWire}
use Rattle.trees.proofs.LeafLaws.{active_above}
use Rattle.trees.proofs.SearchLaws.{search_sent, bare_cost, cost_both}
use Rattle.trees.proofs.CostLaws.{cost_below}
use Rattle.trees.proofs.WireLaws.{search_wire}
use Rattle.trees.proofs.PlaceLaws.{placement}

-- EACH ACTIVE LEAF ONCE, ASCENDING, AT MOST X(k, t)
pub searched : (m n : ℕ) (leaves : List ℕ) → 2 ≤ m → length leaves ≡ m ^ n → Searched m n leaves
searched m n leaves h e =
    let s = search_sent m n leaves e in
    record {
      sends = s;
      ascending = subst (Ascending 0) (sym s) (active_above 0 0 leaves (le_refl 0));
      costs = omega (arith, cost_both (search_rows m n leaves), bare_cost m n leaves e, cost_below m n leaves (omega arith) e);
    }

-- FOR EACH k A PLACEMENT THAT COSTS EXACTLY THAT
pub attained : (m n k : ℕ) → 2 ≤ m → k ≤ m ^ n → Attained m n k
attained m n k h le =
    let p = placement m n k h le in
    record {
      leaves = p.0;
      size = p.1.leaves;
      bits = p.1.bits;
      active = p.1.active;
      costs = omega (arith, cost_both (search_rows m n p.0), bare_cost m n p.0 p.1.leaves, p.1.costs);
    }

-- THE NEXT SUBTREE FROM THE WIRE ALONE
pub on_wire : (m n : ℕ) (leaves : List ℕ) → 2 ≤ m → OnWire m n leaves
on_wire m n leaves h = search_wire m n leaves _ h (le_refl _)
