-- The shape of a tree: m branches at every node, t = m ^ n leaves (docs/RULES.md, section 3).
--
--   height_of m t       for m from 2 on, the n from 1 on with t = m ^ n, where t is at most 1,024; 0 where there is none
--   tree_verdict m t    refusals 1 and 2
--   nodes m n           how many nodes the tree of height n has
--   rows_room m t       bytes for a row of each node, as the refusal of a short log has it
--   Tree m t            t leaves make a tree or a subtree of one: what the functions on trees ask
use Rattle.std.specs.Prelude.{true, false, ◌≡◌, ℕ, zero, suc, ◌*◌, ◌-◌, ◌/◌, ◌^◌, ◌≤◌, ltb, eqb}
use Rattle.refusals.specs.declared.Refusal.TheVariants.{Branching, LeafCount}
use Rattle.refusals.specs.Numbers.{Verdict, granted, within, ask}

-- the largest h from 1 to n with m ^ h = t, or 0
abbrev pub power_from : ℕ → ℕ → ℕ → ℕ
power_from m t zero = 0
power_from m t (suc n) = elim (eqb (m ^ suc n) t) [ true ↦ suc n | false ↦ power_from m t n ]

-- no power of 2 above the tenth is within 1,024
abbrev pub height_of : ℕ → ℕ → ℕ
height_of m t = elim (ltb 1024 t) [ true ↦ 0 | false ↦ power_from m t 10 ]

-- refusal 1, then refusal 2
abbrev pub tree_verdict : ℕ → ℕ → Verdict
tree_verdict m t = ask (within 2 16 m) Branching (ask (ltb 0 (height_of m t)) LeafCount granted)

-- the root, and the nodes of its m subtrees
abbrev pub nodes : ℕ → ℕ → ℕ
nodes m zero = 1
nodes m (suc n) = suc (m * nodes m n)

-- 16 bytes for each node
abbrev pub rows_room : ℕ → ℕ → ℕ
rows_room m t = 16 * ((m * t - 1) / (m - 1))

-- a tree of t leaves, one leaf included
pub record Tree (m t : ℕ) : Type 0 where
  pub height : ℕ
  pub leaves : t ≡ m ^ height
  pub branches : 2 ≤ m
  pub narrow : m ≤ 16
  pub few : t ≤ 1024
