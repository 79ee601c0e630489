-- The same search from the wire alone (docs/RULES.md, section 5): no till remembers the tree, only where the last subtree ended.
--
--   next_height m n b   the largest h below n such that m ^ h divides b
--   next_width m n b    the largest power of m below m ^ n that divides b
--   walk rule m n k a w s   at most k visits from the subtree (a, w) on, each next one found from the wire alone
use Rattle.std.specs.Prelude.{true, false, List, [], ℕ, zero, suc, ◌+◌, ◌/◌, ◌%◌, ◌^◌, ltb, eqb}
use Rattle.rows.specs.declared.Row.{Row}
use Rattle.trees.specs.Search.{Rule, lead}

-- tried from the largest on; the power 1 divides every b
abbrev pub next_height : ℕ → ℕ → ℕ → ℕ
next_height m zero b = 0
next_height m (suc h) b = elim (eqb (b % (m ^ h)) 0) [ true ↦ h | false ↦ next_height m h b ]

-- the width of the subtree that starts where one ended
abbrev pub next_width : ℕ → ℕ → ℕ → ℕ
next_width m n b = m ^ next_height m n b

-- after a visit that goes down: the first child; else the subtree at its end b, until b is the last leaf's end
abbrev pub walk : {S : Type 0} → Rule S → ℕ → ℕ → ℕ → ℕ → ℕ → S → List Row × S
walk rule m n zero a w s = ([], s)
walk rule m n (suc k) a w s =
    let l = rule s a w in
    lead l.rows
    (elim l.down [
      | true ↦ walk rule m n k a (w / m) l.after
      | false ↦ elim (ltb (a + w) (m ^ n)) [ true ↦ walk rule m n k (a + w) (next_width m n (a + w)) l.after | false ↦ ([], l.after) ]
    ])
