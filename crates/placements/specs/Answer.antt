-- A placement that costs the worst count, and the answer of the call that writes it (docs/RULES.md, sections 2 and 6).
--
--   placement_verdict m t k len  refusals 1, 2, 3 and 5 for k active leaves in a list of len bytes, the first in this order
--   figures answer               the refusal's number, 0 for none
--   Costly m n k leaves          k active leaves in the tree of height n whose bare search costs X(k, t)
use Rattle.std.specs.Prelude.{true, List, ◌≡◌, ℕ, ◌^◌, eqb, leb, length, Result, Ok, Err}
use Rattle.refusals.specs.declared.Refusal.{Refusal}
use Rattle.refusals.specs.declared.Refusal.TheVariants.{LeafList, ActiveCount}
use Rattle.refusals.specs.Numbers.{Verdict, granted, number_of, ask, and_then}
use Rattle.trees.specs.Shape.{tree_verdict}
use Rattle.trees.specs.Search.{all_bits, ones, search_rows, cost}
use Rattle.trees.specs.Worst.{worst_of}

-- the tree, then the lent list, then k
abbrev pub placement_verdict : ℕ → ℕ → ℕ → ℕ → Verdict
placement_verdict m t k len = and_then (tree_verdict m t) (ask (eqb len t) LeafList (ask (leb k t) ActiveCount granted))

-- a placement has no figures but the list itself
abbrev pub figures : Result (Unit {0}) Refusal → ℕ
figures (Ok _) = 0
figures (Err r) = number_of r

-- t bytes 0 or 1, k of them 1, and a bare search of them that costs X(k, t)
pub record Costly (m n k : ℕ) (leaves : List ℕ) : Type 0 where
  pub count : length leaves ≡ m ^ n
  pub bits : all_bits leaves ≡ true
  pub active : ones leaves ≡ k
  pub costs : cost (search_rows m n leaves) ≡ worst_of m n k
