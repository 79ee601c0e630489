-- The first half of demand 3, as statements (docs/RULES.md, section 7); proofs/Demand3.antt proves them for every m, n and list of leaves.
--
--   Searched m n leaves   a search sends each active leaf once, ascending, and costs at most the worst count
--   Attained m n k        some placement, k bytes 1 among bytes 0, costs the worst count
--   OnWire m n leaves     the search's rows are found from the wire alone
use Rattle.std.specs.Prelude.{◌≡◌, true, List, ℕ, ◌+◌, ◌^◌, ◌≤◌, length}
use Rattle.trees.specs.Shape.{nodes}
use Rattle.trees.specs.Search.{bare_rule, search_rows, all_bits, ones, active, silences, collisions, sent, Ascending}
use Rattle.trees.specs.Wire.{walk}
use Rattle.trees.specs.Worst.{worst_of}

-- a fixed set of active leaves
pub record Searched (m n : ℕ) (leaves : List ℕ) : Type 0 where
  pub sends : sent (search_rows m n leaves) ≡ active 0 leaves
  pub ascending : Ascending 0 (sent (search_rows m n leaves))
  pub costs : silences (search_rows m n leaves) + collisions (search_rows m n leaves) ≤ worst_of m n (ones leaves)

-- the bound is reached
pub record Attained (m n k : ℕ) : Type 0 where
  pub leaves : List ℕ
  pub size : length leaves ≡ m ^ n
  pub bits : all_bits leaves ≡ true
  pub active : ones leaves ≡ k
  pub costs : silences (search_rows m n leaves) + collisions (search_rows m n leaves) ≡ worst_of m n k

-- as many visits as the tree has nodes are enough
abbrev pub OnWire : ℕ → ℕ → List ℕ → Type 0
OnWire m n leaves = (walk (bare_rule leaves) m n (nodes m n) 0 (m ^ n) 0).0 ≡ search_rows m n leaves
