-- The cost by the leaf bytes alone: it is at most the worst count of as many active leaves.
use mathlib.Core.Path.{◌≡◌, sym, ◌∙◌}
use mathlib.Core.List.{List, [], ◌∷◌}
use Prim.Native.Nat.{ℕ, zero, suc, ◌+◌, ◌*◌, ◌^◌, ◌≤◌, ◌<◌, zero-le}
use native.Mathlib.Nat.{zero-mul, suc-mul, pow-zero, pow-succ', suc_inj, suc-ne-zero}
use native.Mathlib.Omega.{arith}
use lib.ListN.{length, get_or, take, drop, length-drop}
use lib.Seq.{length-take-le}
use Rattle.trees.specs.Search.{ones}
use Rattle.trees.specs.Worst.{parts, worst, worst_of}
use Rattle.trees.proofs.LeafLaws.{ones_split, ones_le}
use Rattle.trees.proofs.Costs.{cost_for, parts_cost, part_cost}
use Rattle.trees.proofs.WorstLaws.{worst_of_zero, length_worst, length_parts, pairs_above, rooted_at}

-- the parts' active leaves are one way of writing their sum
parts_cost_lem : (f : List ℕ → ℕ) (w : ℕ) (xs : List ℕ) → length xs ≡ suc w → ((s : List ℕ) → length s ≡ w → f s ≤ get_or xs (ones s) 0)
    → (j : ℕ) (s : List ℕ) → length s ≡ j * w → (ones s < length (parts xs j)) × (parts_cost f w j s ≤ get_or (parts xs j) (ones s) 0)
parts_cost_lem f w xs len ih zero s e = (omega (arith, ones_le s, zero-mul w), zero-le)
parts_cost_lem f w [] len ih (suc j) s e = absurd (suc-ne-zero _ (sym len))
parts_cost_lem f w (x ∷ xs) len ih (suc j) s e =
    let both : ones s ≡ ones (take w s) + ones (drop w s) = ones_split w s in
    let t : length (take w s) ≡ w = length-take-le w s (omega (arith, suc-mul j w)) in
    let r = parts_cost_lem f w (x ∷ xs) len ih j (drop w s) (omega (arith, length-drop w s, suc-mul j w)) in
    let first : ones (take w s) < length (x ∷ xs) = omega (arith, ones_le (take w s)) in
    let all : ones s ≤ suc j * w = omega (arith, ones_le s) in (
      rw (length_parts x xs (suc j), suc_inj len) (omega arith),
      rw both (omega (arith, ih (take w s) t, r.1, pairs_above (x ∷ xs) (parts (x ∷ xs) j) (ones (take w s)) (ones (drop w s)) first r.0)),
    )

cost_for_lem : (m n k below : ℕ) → 0 < m → (2 ≤ k → suc below ≤ worst_of m n k) → cost_for k below ≤ worst_of m n k
cost_for_lem m n zero below h f = omega (arith, worst_of_zero m n h)
cost_for_lem m n (suc zero) below h f = zero-le
cost_for_lem m n (suc (suc k)) below h f = f (omega arith)

-- THE COST IS AT MOST X
pub cost_below : (m n : ℕ) (s : List ℕ) → 0 < m → length s ≡ m ^ n → part_cost m n s ≤ worst_of m n (ones s)
cost_below m zero s h e = cost_for_lem m 0 (ones s) 0 h (λ g. absurd (omega (arith, ones_le s, pow-zero m)))
cost_below m (suc n) s h e =
    let r = parts_cost_lem (part_cost m n) (m ^ n) (worst m n) (length_worst m n) (λ u d. cost_below m n u h d) m s (e ∙ pow-succ' m n) in
    cost_for_lem m (suc n) (ones s) (parts_cost (part_cost m n) (m ^ n) m s) h (λ g. omega (arith, rooted_at (parts (worst m n) m) (ones s) g r.0, r.1))
